-- Laying all places of a path, a list of places, for one net.
use Rattle.std.specs.Prelude.{◌≡◌, ℕ, ◌+◌, ◌<◌, ◌≤◌, min, Bool, true, false, if◌then◌else◌, ◌||◌, ◌↔◌, List, [], ◌∷◌, Ok, Err, Result, ◌==◌, nat_le, nat_lt}
use Rattle.grid.specs.declared.fault.SheetFault.{SheetFault}
use Rattle.grid.specs.Faults.{Refusal, refusal}
use Rattle.model.specs.Sheets.{Sheet, StaysOpen, places, spare, ask, is_net, bare_at}

-- q stands in the path
abbrev pub on : ℕ → List ℕ → Bool
on q [] = false
on q (p ∷ ps) = q == p || on q ps

-- no place stands in the path twice
abbrev pub Distinct : List ℕ → Type 0
Distinct [] = Unit {0}
Distinct (p ∷ ps) = (on p ps ≡ false) × Distinct ps

-- how many of the path's entries are bare places; a place that stands in it several times counts each time
abbrev pub bare_entries : Sheet → List ℕ → ℕ
bare_entries b [] = 0
bare_entries b (p ∷ ps) = bare_at b p + bare_entries b ps

-- that number, counted up to the largest of 32 bits
abbrev pub bare_on : Sheet → List ℕ → ℕ
bare_on b ps = min (bare_entries b ps) 4294967295

-- THE QUESTIONS: 4 the number is a net's; for each place in the order of the path 3 it is in the shape, 5 it is open to
-- the net; 6 the spare covers the bare ones
abbrev pub spare_answer : Sheet → List ℕ → Result (Unit {0}) Refusal
spare_answer b ps = ask (nat_le (bare_on b ps) (spare b)) (refusal 6 (bare_on b ps)) (Ok tt)

abbrev pub along : Sheet → List ℕ → ℕ → Result (Unit {0}) Refusal → Result (Unit {0}) Refusal
along b [] n rest = rest
along b (p ∷ ps) n rest = ask (nat_lt p (places b)) (refusal 3 p) (ask (b.area.opened p n) (refusal 5 p) (along b ps n rest))

abbrev pub cover_answer : Sheet → List ℕ → ℕ → Result (Unit {0}) Refusal
cover_answer b ps n = ask (is_net n) (refusal 4 n) (along b ps n (spare_answer b ps))

-- what the questions ask, taken together
pub record Coverable (b : Sheet) (ps : List ℕ) (n : ℕ) : Type 0 where
  pub net : is_net n ≡ true
  pub inside : (q : ℕ) → on q ps ≡ true → q < places b
  pub opened : (q : ℕ) → on q ps ≡ true → b.area.opened q n ≡ true
  pub enough : bare_on b ps ≤ spare b

-- THE PATH IS LAID EXACTLY IF it can be
abbrev pub CoverIsExact : Sheet → List ℕ → ℕ → Type 0
CoverIsExact b ps n = (cover_answer b ps n ≡ Ok tt) ↔ Coverable b ps n

-- b' has the net on each place of the path, and all other copper, the shape and the limit of b; what was open to the net
-- stays open to it
pub record Covered (b b' : Sheet) (ps : List ℕ) (n : ℕ) : Type 0 where
  pub shape : b'.area.shape ≡ b.area.shape
  pub limit : b'.metal.limit ≡ b.metal.limit
  pub copper : (q : ℕ) → b'.metal.copper q ≡ (if on q ps then n else b.metal.copper q)
  pub stays : StaysOpen b b' n

-- COVER lays the whole path, or changes nothing
abbrev pub Covers : Sheet → Sheet → List ℕ → ℕ → Result (Unit {0}) SheetFault → Type 0
Covers b b' ps n (Ok u) = Covered b b' ps n
Covers b b' ps n (Err f) = b' ≡ b
