-- The wire: traced back from the goal over the places' costs, at each place to the first neighbour that accounts for its cost.
use Rattle.std.specs.Prelude.{◌≡◌, ℕ, zero, suc, Bool, true, false, if◌then◌else◌, not, ◌&&◌, List, [], ◌∷◌, Some, None, Option, ◌==◌}
use Rattle.grid.specs.declared.step.Step.{Step}
use Rattle.tariff.specs.Rates.{Rates}
use Rattle.route.specs.Hops.{Hop}
use Rattle.route.specs.Search.{Maze, Least, onward}

abbrev pub is_cost : {C : Type 0} → Rates C → Option C → C → Bool
is_cost t None c = false
is_cost t (Some a) c = not (t.less a c) && not (t.less c a)

-- the first of the hops whose place's cost, with the step, comes to c
abbrev pub first : {C : Type 0} → Rates C → (ℕ → Option C) → C → List Hop → Option Hop
first t f c [] = None
first t f c (h ∷ hs) = if is_cost t (onward t (f h.to) h.by) c then Some h else first t f c hs

abbrev pub accounts : {C : Type 0} → Rates C → (ℕ → Option C) → Option C → List Hop → Option Hop
accounts t f None hs = None
accounts t f (Some c) hs = first t f c hs

-- where the trace goes on from p: nowhere from the start
abbrev pub back : {C : Type 0} → Rates C → Maze → (ℕ → Option C) → ℕ → Option Hop
back t m f p = if p == m.start then None else accounts t f (f p) (m.around p)

-- the places of the trace from p, at most n steps back; it ends where no neighbour accounts for the cost
abbrev pub on_back : Option Hop → (ℕ → List ℕ) → List ℕ
on_back None rest = []
on_back (Some h) rest = rest h.to

unfoldable pub trace_back : {C : Type 0} → Rates C → Maze → (ℕ → Option C) → ℕ → ℕ → List ℕ
trace_back t m f zero p = p ∷ []
trace_back t m f (suc n) p = p ∷ on_back (back t m f p) (trace_back t m f n)

-- Costs that are known of some places: each is least, and with a place those from which its cost comes are known.
pub record Known {C : Type 0} (t : Rates C) (m : Maze) (limit : ℕ) (f : ℕ → Option C) : Type 0 where
  pub exact : (p : ℕ) (c : C) → f p ≡ Some c → Least t m limit p c
  pub closed : (p q : ℕ) (k : Step) (b c : C) → f p ≡ Some c → Least t m limit q b → t.has k ≡ true → t.after b k ≡ Some c → f q ≡ Some b
