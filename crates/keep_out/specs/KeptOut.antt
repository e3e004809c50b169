-- Keep-out: what is open lies in no rectangle that is held.
use Rattle.std.specs.List.{list_any}
use Rattle.std.specs.Prelude.{◌≡◌, ℕ, Bool, true, not, ◌&&◌, ◌⊎◌, List, [], ◌∷◌, ◌++◌, length, take, Ok, Err, Result, nat_lt}
use Rattle.grid.specs.declared.shape.Shape.{Shape}
use Rattle.grid.specs.declared.shape.Coordinates.{Coordinates}
use Rattle.grid.specs.declared.fault.SheetFault.{SheetFault}
use Rattle.grid.specs.Faults.{Refusal, refusal}
use Rattle.grid.specs.Places.{coordinates_of}
use Rattle.model.specs.Sheets.{Ground, ask}
use Rattle.keep_out.specs.declared.rectangle.Rectangle.{Rectangle}
use Rattle.keep_out.specs.declared.row.Row.{Row}
use Rattle.keep_out.specs.declared.table.Table.{Table}
use Rattle.keep_out.specs.Rectangles.{row_of, is_rectangle, has_in, LiesIn}

-- the rows that a table holds
abbrev pub held_rows : Table → List Row
held_rows t = take t.count t.rows

-- one of the rows has the coordinates in it
abbrev pub kept_out : List Row → Coordinates → Bool
kept_out xs p = list_any (λ (x : Row). has_in x p) xs

-- none of the rows has the place in it
abbrev pub is_apart : List Row → Shape → ℕ → Bool
is_apart xs s p = not (kept_out xs (coordinates_of s p))

-- THE GROUND UNDER KEEP-OUT: a place is open where it is open below and lies in no rectangle that is held
abbrev pub apart_ground : List Row → Ground → Ground
apart_ground xs g = record { shape = g.shape; opened = λ p n. g.opened p n && is_apart xs g.shape p }

-- the rectangle is among those held
abbrev pub Holds : List Row → Rectangle → Type 0
Holds [] r = ⊥
Holds (x ∷ xs) r = (row_of r ≡ x) ⊎ Holds xs r

-- The place p is open below to the net n, and lies in no rectangle that is held.
pub record OpenApart (xs : List Row) (g : Ground) (p n : ℕ) : Type 0 where
  pub below : g.opened p n ≡ true
  pub apart : (r : Rectangle) → Holds xs r → LiesIn r (coordinates_of g.shape p) → ⊥

-- one more row: 2 fewer than 64 are held, else 65 are needed
abbrev pub push_answer : List Row → Result (Unit {0}) Refusal
push_answer xs = ask (nat_lt (length xs) 64) (refusal 2 65) (Ok tt)

-- one more rectangle: 1 the numbers are within their limits, then 2
abbrev pub add_answer : List Row → Row → Result (Unit {0}) Refusal
add_answer xs x = ask (is_rectangle x) (refusal 1 0) (push_answer xs)

-- the rows held then: one more at the end, or the same
abbrev pub after_push : List Row → Row → Result (Unit {0}) SheetFault → List Row
after_push xs x (Ok u) = xs ++ (x ∷ [])
after_push xs x (Err f) = xs
