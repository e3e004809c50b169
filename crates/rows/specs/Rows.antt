-- The inner order of a ring.
use Rattle.std.specs.Prelude.{◌≡◌, ℕ, ◌+◌, ◌%◌, ◌<◌, ◌≤◌, List, length, Some, None, Option, ◌≢◌, slice_index_or}
use Rattle.std.specs.Option.{option_map, unwrap_or}
use Rattle.tariff.specs.Rates.{Rates}
use Rattle.rows.specs.declared.RingRecord.{RingRecord}
use Rattle.rows.specs.Waiting.{layout, awaits}
use Rattle.front.specs.Places.{room, changed}

-- the positions in use have places, of n, that name them
pub record Vouches {C : Type 0} (h : ℕ → RingRecord C) (n touched : ℕ) : Type 0 where
  pub few : touched ≤ n
  pub slots : (i : ℕ) → i < touched → ((h i).slot < n) × ((h (h i).slot).at ≡ i)

-- the row in which each place is filed, if it waits: the level modulo the number of rows
abbrev pub filed : {C : Type 0} → Rates C → ℕ → (ℕ → Option C) → ℕ → Option ℕ
filed t rows waiting p = option_map (λ c. t.level c % rows) (waiting p)

-- the place b comes right after a in the row r
pub record Follows (f : ℕ → Option ℕ) (next back rank : ℕ → ℕ) (r a b : ℕ) : Type 0 where
  pub first : f a ≡ Some r
  pub second : f b ≡ Some r
  pub onward : next a ≡ b
  pub backward : back b ≡ a
  pub falls : rank b < rank a

-- the row r has a head, and no place ranks above it
pub record Headed (heads : ℕ → Option ℕ) (rank : ℕ → ℕ) (r p : ℕ) : Type 0 where
  pub head : ℕ
  pub here : heads r ≡ Some head
  pub most : rank p ≤ rank head

-- each row is a list of the places that are filed in it; a rank that falls along each row shows that the list has all of them
pub record Rows (f heads : ℕ → Option ℕ) (next back rank : ℕ → ℕ) : Type 0 where
  pub head : (r p : ℕ) → heads r ≡ Some p → f p ≡ Some r
  pub headed : (r p : ℕ) → f p ≡ Some r → Headed heads rank r p
  pub before : (r p : ℕ) → f p ≡ Some r → (heads r ≢ Some p) → (a : ℕ) × Follows f next back rank r a p
  pub after : (r p : ℕ) → f p ≡ Some r → (next p ≢ p) → (b : ℕ) × Follows f next back rank r p b

-- the level of the cost taken last, or of nothing
abbrev pub base : {C : Type 0} → Rates C → Option C → ℕ
base t l = t.level (unwrap_or l t.nothing)

-- there are levels, and more rows than a step rises
pub record Fits {C : Type 0} (t : Rates C) (rows : ℕ) : Type 0 where
  pub levels : 0 < t.span
  pub wide : t.span < rows

-- a level is one of as many as there are rows, from the base on
pub record Within {C : Type 0} (t : Rates C) (rows from : ℕ) (c : C) : Type 0 where
  pub fits : Fits t rows
  pub least : from ≤ t.level c
  pub most : t.level c < from + rows

-- a ring of n places, in order
pub record Sound {C : Type 0} (t : Rates C) (h : ℕ → RingRecord C) (n touched rows : ℕ) (heads : ℕ → Option ℕ) (l : Option C) : Type 0 where
  pub some : 1 ≤ rows
  pub most : rows ≤ 32
  pub vouches : Vouches h n touched
  pub rank : ℕ → ℕ
  pub lists : Rows (filed t rows (awaits h touched)) heads (λ k. (h k).next) (λ k. (h k).back) rank
  pub near : (p : ℕ) (c : C) → awaits h touched p ≡ Some c → Within t rows (base t l) c
  pub fits : (c : C) → l ≡ Some c → Fits t rows

-- a list of records in order, with its heads
abbrev pub Ordered : {C : Type 0} → Rates C → List (RingRecord C) → ℕ → ℕ → List (Option ℕ) → Option C → Type 0
Ordered t xs touched rows heads l = Sound t (layout xs) (room (length xs)) touched rows (λ r. slice_index_or heads r None) l

-- p waits at c; the rows are as they were
pub record Entered {C : Type 0} (h : ℕ → RingRecord C) (n touched p : ℕ) (c : C) (h' : ℕ → RingRecord C) (touched' : ℕ) : Type 0 where
  pub vouches : Vouches h' n touched'
  pub waiting : (k : ℕ) → awaits h' touched' k ≡ changed (awaits h touched) p (Some c) k
  pub next : (k : ℕ) → (h' k).next ≡ (h k).next
  pub back : (k : ℕ) → (h' k).back ≡ (h k).back

-- the first row that is not empty, from one on round the ring
pub record First (heads : ℕ → Option ℕ) (rows from row head : ℕ) : Type 0 where
  pub ahead : ℕ
  pub near : ahead < rows
  pub here : row ≡ (from + ahead) % rows
  pub passed : (j : ℕ) → j < ahead → heads ((from + j) % rows) ≡ None
  pub head_is : heads row ≡ Some head
