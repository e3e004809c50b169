-- Legal paths through a maze, their costs, and the least of them.
use Rattle.std.specs.Prelude.{◌≡◌, ℕ, zero, suc, ◌≤◌, Bool, true, false, if◌then◌else◌, List, [], ◌∷◌, length, Some, None, Option, ◌==◌}
use Rattle.grid.specs.declared.step.Step.{Step}
use Rattle.tariff.specs.Rates.{Rates, followed, charge}
use Rattle.route.specs.Hops.{Hop, Among}

-- `around p` are the places next to p, in the order in which they are tried; `free p`: the net at hand may pass p
pub record Maze : Type 0 where
  pub start : ℕ
  pub free : ℕ → Bool
  pub around : ℕ → List Hop

-- A path is the list of its steps, each with the place that it comes to, the last one first. The empty list stays at the start.
abbrev pub end : Maze → List Hop → ℕ
end m [] = m.start
end m (h ∷ w) = h.to

abbrev pub steps : List Hop → List Step
steps [] = []
steps (h ∷ w) = h.by ∷ steps w

abbrev pub Legal : (Step → Bool) → Maze → List Hop → Type 0
Legal has m [] = m.free m.start ≡ true
Legal has m (h ∷ w) = (m.free h.to ≡ true) × (has h.by ≡ true) × Among (record { by = h.by; to = end m w }) (m.around h.to) × Legal has m w

abbrev pub cost : {C : Type 0} → Rates C → List Hop → Option C
cost t w = charge t (steps w)

-- w is a legal path of at most n steps to p
pub record Route (has : Step → Bool) (m : Maze) (n p : ℕ) (w : List Hop) : Type 0 where
  pub legal : Legal has m w
  pub ends : end m w ≡ p
  pub short : length w ≤ n

-- c is the least cost of the legal paths of at most n steps to p
pub record Least {C : Type 0} (t : Rates C) (m : Maze) (n p : ℕ) (c : C) : Type 0 where
  pub path : List Hop
  pub route : Route t.has m n p path
  pub costs : cost t path ≡ Some c
  pub below : (w : List Hop) (d : C) → Route t.has m n p w → cost t w ≡ Some d → t.less d c ≡ false

-- The same, computed.
abbrev pub better : {C : Type 0} → Rates C → Option C → Option C → Option C
better t None o = o
better t (Some a) None = Some a
better t (Some a) (Some b) = Some (if t.less b a then b else a)

-- a cost followed by a step that the tariff has; a front's `offer` says the same of the cost that it took last
abbrev pub onward : {C : Type 0} → Rates C → Option C → Step → Option C
onward t o k = if t.has k then followed t o k else None

abbrev pub best : {C : Type 0} → Rates C → (ℕ → Option C) → List Hop → Option C
best t f [] = None
best t f (h ∷ hs) = better t (onward t (f h.to) h.by) (best t f hs)

abbrev pub at_start : {C : Type 0} → Rates C → Maze → ℕ → Option C
at_start t m p = if p == m.start then Some t.nothing else None

unfoldable pub least : {C : Type 0} → Rates C → Maze → ℕ → ℕ → Option C
least t m zero p = if m.free p then at_start t m p else None
least t m (suc n) p = if m.free p then better t (at_start t m p) (best t (least t m n) (m.around p)) else None
