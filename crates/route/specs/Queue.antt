-- The search: places that are labelled with their least cost, places that wait at the cost of some path, and what taking one does.
use Rattle.std.specs.Prelude.{◌≡◌, ℕ, suc, Bool, true, false, if◌then◌else◌, ◌&&◌, ◌≢◌, ◌⊎◌, List, Some, None, Option}
use Rattle.grid.specs.declared.step.Step.{Step}
use Rattle.tariff.specs.Rates.{Rates}
use Rattle.route.specs.Hops.{Hop, Among}
use Rattle.route.specs.Search.{Maze, better, onward}

pub record State (C : Type 0) : Type 0 where
  pub label : ℕ → Option C
  pub waiting : ℕ → Option C
  pub taken : ℕ

-- there is a cost, and it is at most d
pub record Within {C : Type 0} (t : Rates C) (o : Option C) (d : C) : Type 0 where
  pub value : C
  pub is : o ≡ Some value
  pub low : t.less d value ≡ false

-- p, labelled c, offers q the cost e, by one of hs
pub record Offers {C : Type 0} (t : Rates C) (m : Maze) (s : State C) (c : C) (hs : List Hop) (q : ℕ) (e : C) : Type 0 where
  pub by : Step
  pub among : Among (record { by = by; to = q }) hs
  pub has : t.has by ≡ true
  pub free : m.free q ≡ true
  pub fresh : s.label q ≡ None
  pub made : t.after c by ≡ Some e

-- s' is s after (p, c) was taken and offers were made by hs: each place but p waits at the least of what it waited at and what it is offered
pub record Took {C : Type 0} (t : Rates C) (m : Maze) (s : State C) (p : ℕ) (c : C) (hs : List Hop) (s' : State C) : Type 0 where
  pub count : s'.taken ≡ suc s.taken
  pub named : s'.label p ≡ Some c
  pub others : (q : ℕ) → q ≢ p → s'.label q ≡ s.label q
  pub gone : s'.waiting p ≡ None
  pub from : (q : ℕ) (e : C) → q ≢ p → s'.waiting q ≡ Some e → (s.waiting q ≡ Some e) ⊎ Offers t m s c hs q e
  pub stays : (q : ℕ) (e : C) → q ≢ p → s.waiting q ≡ Some e → Within t (s'.waiting q) e
  pub offered : (q : ℕ) (e : C) → q ≢ p → Offers t m s c hs q e → Within t (s'.waiting q) e

abbrev pub is_new : {C : Type 0} → Option C → Bool
is_new None = true
is_new (Some c) = false

-- what a place waits at once h was offered c and the step
abbrev pub offer : {C : Type 0} → Rates C → Maze → State C → C → Hop → Option C
offer t m s c h = if m.free h.to && is_new (s.label h.to) then better t (s.waiting h.to) (onward t (Some c) h.by) else s.waiting h.to

-- and then one offer after the other
pub record Offered {C : Type 0} (t : Rates C) (m : Maze) (s : State C) (c : C) (h : Hop) (s' : State C) : Type 0 where
  pub count : s'.taken ≡ s.taken
  pub labels : (q : ℕ) → s'.label q ≡ s.label q
  pub there : s'.waiting h.to ≡ offer t m s c h
  pub rest : (q : ℕ) → q ≢ h.to → s'.waiting q ≡ s.waiting q
