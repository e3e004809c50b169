-- The trace, step by step.
use Rattle.std.specs.Prelude.{◌≡◌, ℕ, ◌≤◌, true, if◌then◌else◌, List, [], reverse, length, Some, None, Ok, Err, Option, Result}
use Rattle.grid.specs.declared.shape.Shape.{Shape}
use Rattle.grid.specs.declared.step.Step.{Step}
use Rattle.grid.specs.declared.step.Direction.{Direction}
use Rattle.grid.specs.Steps.{kind, neighbour_of}
use Rattle.tariff.specs.Rates.{Rates}
use Rattle.model.specs.Sheets.{Ground}
use Rattle.route.specs.Hops.{Hop, around}
use Rattle.route.specs.Search.{Maze, onward}
use Rattle.route.specs.Paths.{label_of}
use Rattle.route.specs.Wire.{is_cost, trace_back}
use Rattle.wave.specs.declared.connection.Connection.{Connection}
use Rattle.wave.specs.declared.fault.SearchFault.{SearchFault}
use Rattle.wave.specs.Questions.{search_refusal, refused_by}
use Rattle.trace.specs.declared.walk.Trace.{Trace}
use Rattle.trace.specs.Trace.{traced, trace_asks}

-- the place that a hop leads to
abbrev pub place_of : Option Hop → Option ℕ
place_of None = None
place_of (Some h) = Some h.to

-- a place, if its label followed by the step comes to the cost c
abbrev pub if_accounts : {C : Type 0} → Rates C → (ℕ → Option C) → C → Step → Option ℕ → Option ℕ
if_accounts t f c k None = None
if_accounts t f c k (Some q) = if is_cost t (onward t (f q) k) c then Some q else None

-- the neighbour of p in the direction d, if it accounts for c
abbrev pub accounting_for : {C : Type 0} → Rates C → (ℕ → Option C) → C → Shape → ℕ → Direction → Option ℕ
accounting_for t f c s p d = if_accounts t f c (kind d) (neighbour_of s p d)

-- the maze as a trace knows it: which places are open does not matter to it
abbrev pub ways : Shape → ℕ → Maze
ways s start = record { start = start; free = λ p. true; around = around s }

-- the places that a trace has still to give, where it stands at a place and may take n steps more
abbrev pub to_come : {C : Type 0} → Rates C → Shape → ℕ → List (Option C) → Option ℕ → ℕ → List ℕ
to_come t s start ls None n = []
to_come t s start ls (Some p) n = trace_back t (ways s start) (label_of ls) n p

abbrev pub places_left : {T C : Type 0} → Rates C → Trace T C → List ℕ
places_left t x = to_come t x.shape x.start x.labels.now x.place x.steps

-- a trace that has a wire to give, its last place first; it is not longer than the code can count
pub record Traces {T C : Type 0} (t : Rates C) (x : Trace T C) (ps : List ℕ) : Type 0 where
  pub is : ps ≡ reverse (places_left t x)
  pub few : length (places_left t x) ≤ 2097153

-- a trace begins, for any net, or is refused
abbrev pub Begun : {T C : Type 0} → Rates C → Ground → Connection → List (Option C) → Result (Trace T C) SearchFault → Type 0
Begun t g j ls (Ok x) = (refused_by (trace_asks g (length ls)) ≡ None) × ((n : ℕ) → Traces t x (traced t g (record j { net = n }) ls))
Begun t g j ls (Err f) = refused_by (trace_asks g (length ls)) ≡ Some (search_refusal f)
