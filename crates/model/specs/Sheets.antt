-- What grounds and sheets mean, and what each call answers and leaves.
use Rattle.std.specs.Prelude.{◌≡◌, ℕ, zero, suc, ◌+◌, ◌-◌, ◌<◌, ◌≤◌, Bool, true, if◌then◌else◌, ◌&&◌, ◌⊎◌, List, Some, None, Ok, Err, Option, Result, ◌==◌, nat_le, nat_lt}
use Rattle.grid.specs.declared.shape.Shape.{Shape}
use Rattle.grid.specs.declared.fault.SheetFault.{SheetFault}
use Rattle.grid.specs.Faults.{Refusal, refusal, sheet_refusal}
use Rattle.grid.specs.Places.{count_of}

-- A GROUND has a shape and says of each place and net whether the place is open to the net.
pub record Ground : Type 0 where
  pub shape : Shape
  pub opened : ℕ → ℕ → Bool

-- nets are 1 to 65,534
abbrev pub is_net : ℕ → Bool
is_net n = nat_le 1 n && nat_le n 65534

-- no place outside the shape is open, and none to a number that is no net's
pub record Sound (g : Ground) : Type 0 where
  pub inside : (p n : ℕ) → g.opened p n ≡ true → p < count_of g.shape
  pub nets : (p n : ℕ) → g.opened p n ≡ true → is_net n ≡ true

-- THE COPPER of a sheet: 0 bare, 1 to 65,534 a net, 65,535 barred; and the limit on places that are not bare
pub record Metal : Type 0 where
  pub copper : ℕ → ℕ
  pub limit : ℕ

-- A SHEET is a ground on which copper can be laid.
pub record Sheet : Type 0 where
  pub area : Ground
  pub metal : Metal

abbrev pub sheet : Ground → Metal → Sheet
sheet g m = record { area = g; metal = m }

abbrev pub places : Sheet → ℕ
places b = count_of b.area.shape

-- how many of the first n places are not bare
unfoldable pub tally : (ℕ → ℕ) → ℕ → ℕ
tally f zero = 0
tally f (suc n) = (if f n == 0 then 0 else 1) + tally f n

-- the limit less the places that are not bare
abbrev pub spare : Sheet → ℕ
spare b = b.metal.limit - tally b.metal.copper (places b)

-- copper is at most 65,535
abbrev pub Small : Sheet → Type 0
Small b = (p : ℕ) → b.metal.copper p ≤ 65535

-- WHAT EVERY SHEET KEEPS, as the copper question shows
pub record Tied (b : Sheet) : Type 0 where
  -- a place open to a net is bare or carries that net
  pub free : (p n : ℕ) → b.area.opened p n ≡ true → (b.metal.copper p ≡ 0) ⊎ (b.metal.copper p ≡ n)
  pub small : Small b
  -- there is no copper outside the shape
  pub outside : (p : ℕ) → places b ≤ p → b.metal.copper p ≡ 0
  -- no more places than the limit are not bare
  pub within : tally b.metal.copper (places b) ≤ b.metal.limit

-- an answer by its refusal's number and value
abbrev pub answered : {A : Type 0} → Result A SheetFault → Result A Refusal
answered (Ok a) = Ok a
answered (Err f) = Err (sheet_refusal f)

-- a question, and what follows if it holds
abbrev pub ask : Bool → Refusal → Result (Unit {0}) Refusal → Result (Unit {0}) Refusal
ask b f rest = if b then rest else Err f

-- The questions: 3 place in the shape, 4 net, 5 place open, 6 spare enough, 7 place bare, 8 place carries a net.
abbrev pub copper_answer : Sheet → ℕ → Option ℕ
copper_answer b p = if nat_lt p (places b) then Some (b.metal.copper p) else None

-- how many bare places there are to cover where one place is given copper
abbrev pub bare_at : Sheet → ℕ → ℕ
bare_at b p = if b.metal.copper p == 0 then 1 else 0

abbrev pub lay_answer : Sheet → ℕ → ℕ → Result (Unit {0}) Refusal
lay_answer b p n =
    ask (nat_lt p (places b)) (refusal 3 p)
    (ask (is_net n) (refusal 4 n) (ask (b.area.opened p n) (refusal 5 p) (ask (nat_le (bare_at b p) (spare b)) (refusal 6 (bare_at b p)) (Ok tt))))

abbrev pub lift_answer : Sheet → ℕ → Result (Unit {0}) Refusal
lift_answer b p = ask (nat_lt p (places b)) (refusal 3 p) (ask (is_net (b.metal.copper p)) (refusal 8 p) (Ok tt))

abbrev pub bar_answer : Sheet → ℕ → Result (Unit {0}) Refusal
bar_answer b p =
    ask (nat_lt p (places b)) (refusal 3 p)
    (ask (b.metal.copper p == 0) (refusal 7 p) (ask (nat_le (bare_at b p) (spare b)) (refusal 6 (bare_at b p)) (Ok tt)))

-- the copper after v was put at p. The crate front has the same function for its places, `changed`; neither crate uses the
-- other.
abbrev pub put : (ℕ → ℕ) → ℕ → ℕ → ℕ → ℕ
put f p v q = if q == p then v else f q

-- b' has v at p, and all other copper, the shape and the limit of b
pub record Wrote (b b' : Sheet) (p v : ℕ) : Type 0 where
  pub shape : b'.area.shape ≡ b.area.shape
  pub limit : b'.metal.limit ≡ b.metal.limit
  pub copper : (q : ℕ) → b'.metal.copper q ≡ put b.metal.copper p v q

-- what was open to the net stays open to it
abbrev pub StaysOpen : Sheet → Sheet → ℕ → Type 0
StaysOpen b b' n = (q : ℕ) → b.area.opened q n ≡ true → b'.area.opened q n ≡ true

-- LAY gives one place to a net; what was open to that net stays open to it
abbrev pub Laid : Sheet → Sheet → ℕ → ℕ → Result (Unit {0}) SheetFault → Type 0
Laid b b' p n (Ok u) = Wrote b b' p n × StaysOpen b b' n
Laid b b' p n (Err f) = b' ≡ b

-- LIFT makes one place of a net bare; nothing that was open to a net closes
abbrev pub Lifted : Sheet → Sheet → ℕ → Result (Unit {0}) SheetFault → Type 0
Lifted b b' p (Ok u) = Wrote b b' p 0 × ((n : ℕ) → StaysOpen b b' n)
Lifted b b' p (Err f) = b' ≡ b

-- BAR turns one bare place into 65,535
abbrev pub Barred : Sheet → Sheet → ℕ → Result (Unit {0}) SheetFault → Type 0
Barred b b' p (Ok u) = Wrote b b' p 65535
Barred b b' p (Err f) = b' ≡ b

-- WIPE makes every place bare
pub record Wiped (b b' : Sheet) : Type 0 where
  pub shape : b'.area.shape ≡ b.area.shape
  pub limit : b'.metal.limit ≡ b.metal.limit
  pub copper : (q : ℕ) → b'.metal.copper q ≡ 0

-- What a sheet holds besides its meaning: the names of the loans that it writes through, and what of the caller's list
-- the copper does not tell. No call changes it, so a caller knows its list again once the sheet is let go.
pub record Held : Type 0 where
  pub loans : List ℕ
  pub rest : List ℕ
