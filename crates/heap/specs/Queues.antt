-- What a heap means as a front.
use Rattle.std.specs.Prelude.{◌≡◌, ℕ, ◌-◌, true, List, length, None, Option}
use Rattle.tariff.specs.Rates.{Rates}
use Rattle.front.specs.Queue.{Queue}
use Rattle.front.specs.Places.{room}
use Rattle.sift.specs.declared.record.HeapRecord.{HeapRecord}
use Rattle.sift.specs.Layouts.{layout, filled, wait_cost, Heaped, HoleUp, HoleDown, Sifted, Vacant}
use Rattle.heap.specs.declared.Heap.{Heap}

-- the queue in a list of which the positions 1 to count are in use: every tariff is served, and a place fewer than there are records
abbrev pub heap_queue : {C : Type 0} → List (HeapRecord C) → ℕ → Option C → Queue C
heap_queue xs count l = record {
  waiting = wait_cost (layout xs) count;
  last = l;
  served = length xs - 1;
  spans = λ _. true;
}

-- a queue that serves n places; nothing waits, and nothing was taken
abbrev pub empty_queue : {C : Type 0} → ℕ → Queue C
empty_queue n = record {
  waiting = λ _. None;
  last = None;
  served = n;
  spans = λ _. true;
}

-- the order of the places at these positions
abbrev pub HeapOrder : {C : Type 0} → Rates C → List (HeapRecord C) → ℕ → Type 0
HeapOrder t xs count = Heaped t (layout xs) (room (length xs)) count

-- what a heap means
abbrev pub view_of : {C : Type 0} → Heap C → Queue C
view_of s = heap_queue s.list.now s.count s.last

-- its inner order
abbrev pub InOrder : {C : Type 0} → Rates C → Heap C → Type 0
InOrder t s = HeapOrder t s.list.now s.count

-- SIFTING
-- a place p of cost c is to fill the hole at the position i, which may have to go up
abbrev pub MayRise : {C : Type 0} → Rates C → Heap C → ℕ → ℕ → C → Type 0
MayRise t s i p c = HoleUp t (layout s.list.now) (room (length s.list.now)) s.count i p c

-- which may have to go down
abbrev pub MaySink : {C : Type 0} → Rates C → Heap C → ℕ → ℕ → C → Type 0
MaySink t s i p c = HoleDown t (layout s.list.now) (room (length s.list.now)) s.count i p c

-- the position i is a hole, and the other positions in use have places
abbrev pub HasHole : {C : Type 0} → Heap C → ℕ → Type 0
HasHole s i = Vacant (layout s.list.now) (room (length s.list.now)) s.count i

-- the place p fills the hole at i, and the same places wait at the same costs, in order; nothing else changes
pub record Fills {C : Type 0} (t : Rates C) (s s' : Heap C) (i p : ℕ) : Type 0 where
  pub sifted : Sifted t (filled (layout s.list.now) i p) (layout s'.list.now) (room (length s.list.now)) s.count
  pub count : s'.count ≡ s.count
  pub last : s'.last ≡ s.last
  pub records : length s'.list.now ≡ length s.list.now
