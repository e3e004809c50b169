-- An indexed binary heap: which place is at which position, and what holds while a place is sifted up or down.
use Rattle.std.specs.Prelude.{◌≡◌, ℕ, ◌+◌, ◌*◌, ◌/◌, ◌<◌, ◌≤◌, Bool, true, false, cond, ◌&&◌, List, Some, None, Option, ◌==◌, ◌≢◌, nat_le, nat_lt}
use Rattle.std.specs.List.{slice_get}
use Rattle.grid.specs.declared.step.Step.{Step}
use Rattle.tariff.specs.Rates.{Rates}
use Rattle.front.specs.Places.{changed}
use Rattle.sift.specs.declared.record.HeapRecord.{HeapRecord}

-- THE LIST AS THREE FUNCTIONS
pub record Layout (C : Type 0) : Type 0 where
  -- the place at a position
  pub slot : ℕ → ℕ
  -- the position that a place's record names
  pub at : ℕ → ℕ
  -- the cost in a place's record; None: the place has no record
  pub cost : ℕ → Option C

-- the fields of a record that may be missing
abbrev pub slot_in : {C : Type 0} → Option (HeapRecord C) → ℕ
slot_in None = 0
slot_in (Some r) = r.slot

abbrev pub at_in : {C : Type 0} → Option (HeapRecord C) → ℕ
at_in None = 0
at_in (Some r) = r.at

abbrev pub cost_in : {C : Type 0} → Option (HeapRecord C) → Option C
cost_in None = None
cost_in (Some r) = Some r.cost

-- position i has record i, and place p has record p + 1, which names the position before its own
abbrev pub layout : {C : Type 0} → List (HeapRecord C) → Layout C
layout xs = record {
  slot = λ i. slot_in (slice_get xs i);
  at = λ p. at_in (slice_get xs (p + 1)) + 1;
  cost = λ p. cost_in (slice_get xs (p + 1));
}

-- the place p is put at the position i
abbrev pub filled : {C : Type 0} → Layout C → ℕ → ℕ → Layout C
filled h i p = record { slot = changed h.slot i p; at = changed h.at p i; cost = h.cost }

-- the place p is given the cost c
abbrev pub priced : {C : Type 0} → Layout C → ℕ → C → Layout C
priced h p c = record { slot = h.slot; at = h.at; cost = changed h.cost p (Some c) }

-- WHICH PLACES WAIT
-- whether a place waits: it names one of the positions 1 to count, which names it
abbrev pub waits : {C : Type 0} → Layout C → ℕ → ℕ → Bool
waits h count p = nat_le 1 (h.at p) && (nat_le (h.at p) count && h.slot (h.at p) == p)

-- the cost at which a place waits; None: it does not wait
abbrev pub wait_cost : {C : Type 0} → Layout C → ℕ → ℕ → Option C
wait_cost h count p = cond (waits h count p) (h.cost p) None

-- THE ORDER OF A HEAP
-- the cost of the place at a position
abbrev pub key : {C : Type 0} → Layout C → ℕ → Option C
key h i = h.cost (h.slot i)

-- whether one cost is below another, where None is above every cost
abbrev pub lower : {C : Type 0} → Rates C → Option C → Option C → Bool
lower t None o = false
lower t (Some x) None = true
lower t (Some x) (Some y) = t.less x y

-- no key is below that of its parent
abbrev pub Order : {C : Type 0} → Rates C → (ℕ → Option C) → ℕ → Type 0
Order t k count = (j : ℕ) → 2 ≤ j → j ≤ count → lower t (k j) (k (j / 2)) ≡ false

-- the positions 1 to count have places, of n, that name them
pub record Linked {C : Type 0} (h : Layout C) (n count : ℕ) : Type 0 where
  pub few : count ≤ n
  pub slots : (i : ℕ) → 1 ≤ i → i ≤ count → (h.slot i < n) × (h.at (h.slot i) ≡ i)

-- a heap of count places, of n
pub record Heaped {C : Type 0} (t : Rates C) (h : Layout C) (n count : ℕ) : Type 0 where
  pub linked : Linked h n count
  pub order : Order t (key h) count

-- SIFTING
-- a place p of cost c is to fill the hole at the position i
pub record Hole {C : Type 0} (h : Layout C) (n count i p : ℕ) (c : C) : Type 0 where
  pub first : 1 ≤ i
  pub most : i ≤ count
  pub place : p < n
  pub here : h.cost p ≡ Some c
  pub linked : Linked (filled h i p) n count

-- no child of i is below the parent of i
abbrev pub Over : {C : Type 0} → Rates C → (ℕ → Option C) → ℕ → ℕ → Type 0
Over t k count i = (j : ℕ) → 2 ≤ i → j ≤ count → j / 2 ≡ i → lower t (k j) (k (i / 2)) ≡ false

-- in order but for the key at i and its parent
pub record OrderUp {C : Type 0} (t : Rates C) (k : ℕ → Option C) (count i : ℕ) : Type 0 where
  pub rest : (j : ℕ) → 2 ≤ j → j ≤ count → (j ≢ i) → lower t (k j) (k (j / 2)) ≡ false
  pub over : Over t k count i

-- in order but for the key at i and its children
pub record OrderDown {C : Type 0} (t : Rates C) (k : ℕ → Option C) (count i : ℕ) : Type 0 where
  pub rest : (j : ℕ) → 2 ≤ j → j ≤ count → (j / 2 ≢ i) → lower t (k j) (k (j / 2)) ≡ false
  pub over : Over t k count i

-- the hole may have to go up
pub record HoleUp {C : Type 0} (t : Rates C) (h : Layout C) (n count i p : ℕ) (c : C) : Type 0 where
  pub hole : Hole h n count i p c
  pub order : OrderUp t (key (filled h i p)) count i

-- the hole may have to go down
pub record HoleDown {C : Type 0} (t : Rates C) (h : Layout C) (n count i p : ℕ) (c : C) : Type 0 where
  pub hole : Hole h n count i p c
  pub order : OrderDown t (key (filled h i p)) count i

-- the same places wait, and no cost is another
pub record SameWaiting {C : Type 0} (h h' : Layout C) (count : ℕ) : Type 0 where
  pub cost : (p : ℕ) → h'.cost p ≡ h.cost p
  pub waits : (p : ℕ) → waits h' count p ≡ waits h count p

-- SIFTED: the same places wait at the same costs, and are now a heap
pub record Sifted {C : Type 0} (t : Rates C) (h h' : Layout C) (n count : ℕ) : Type 0 where
  pub same : SameWaiting h h' count
  pub heaped : Heaped t h' n count

-- the position i is a hole, and the other positions 1 to count have places, of n
pub record Vacant {C : Type 0} (h : Layout C) (n count i : ℕ) : Type 0 where
  pub few : count ≤ n
  pub first : 1 ≤ i
  pub most : i ≤ count
  pub places : (j : ℕ) → 1 ≤ j → j ≤ count → (j ≢ i) → h.slot j < n

-- whether c is below the key of the parent of i
abbrev pub below_parent : {C : Type 0} → Rates C → Layout C → ℕ → C → Bool
below_parent t h i c = nat_lt 1 i && lower t (Some c) (key h (i / 2))

-- the child of i that has the lower key, where i has children
abbrev pub least_child : {C : Type 0} → Rates C → Layout C → ℕ → ℕ → ℕ
least_child t h count i = cond (nat_lt (i * 2) count && lower t (key h (i * 2 + 1)) (key h (i * 2))) (i * 2 + 1) (i * 2)

-- that child, if its key is below c; None: no child's key is
abbrev pub lower_child : {C : Type 0} → Rates C → Layout C → ℕ → ℕ → C → Option ℕ
lower_child t h count i c = cond (nat_le (i * 2) count && lower t (key h (least_child t h count i)) (Some c)) (Some (least_child t h count i)) None

-- CALLS OF A HEAP
-- the place p waits at x, and every other as before
pub record WaitsAt {C : Type 0} (t : Rates C) (h h' : Layout C) (n count count' p : ℕ) (x : C) : Type 0 where
  pub heaped : Heaped t h' n count'
  pub here : wait_cost h' count' p ≡ Some x
  pub others : (k : ℕ) → (k ≢ p) → wait_cost h' count' k ≡ wait_cost h count k

-- the place p waits no more, and every other as before
pub record WaitsNoMore {C : Type 0} (t : Rates C) (h h' : Layout C) (n count count' p : ℕ) : Type 0 where
  pub heaped : Heaped t h' n count'
  pub gone : wait_cost h' count' p ≡ None
  pub others : (k : ℕ) → (k ≢ p) → wait_cost h' count' k ≡ wait_cost h count k

-- the place p waits at c, none waits at less, and so c is less than what a step makes of any waiting cost
pub record LeastWaits {C : Type 0} (t : Rates C) (h : Layout C) (n count p : ℕ) (c : C) : Type 0 where
  pub inside : p < n
  pub was : wait_cost h count p ≡ Some c
  pub least : (k : ℕ) (d : C) → wait_cost h count k ≡ Some d → t.less d c ≡ false
  pub early : (k : ℕ) (d x : C) (s : Step) → wait_cost h count k ≡ Some d → t.after d s ≡ Some x → t.less c x ≡ true
