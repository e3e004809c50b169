-- What holds of a search between two takes, and what a take does to it.
use Rattle.std.specs.Prelude.{◌≡◌, ℕ, suc, ◌<◌, ◌≤◌, true, ◌≢◌, List, [], ◌∷◌, ◌++◌, length, Some, None}
use Rattle.grid.specs.declared.step.Step.{Step}
use Rattle.tariff.specs.Rates.{Rates}
use Rattle.route.proofs.Lawful.{Lawful}
use Rattle.route.specs.Hops.{Hop, Among}
use Rattle.route.specs.Wire.{Known}
use Rattle.route.specs.Search.{Maze, Legal, Route, Least, cost, end}
use Rattle.route.specs.Queue.{State, Within, Took, Offered}

-- the place q is next to p, by k
abbrev pub Next : Maze → ℕ → Step → ℕ → Type 0
Next m p k q = Among (record { by = k; to = q }) (m.around p)

abbrev pub Symmetric : Maze → Type 0
Symmetric m = (p q : ℕ) (k : Step) → Next m p k q → Next m q k p

-- some legal path of fewer than n steps to p costs c
pub record Reached {C : Type 0} (t : Rates C) (m : Maze) (n p : ℕ) (c : C) : Type 0 where
  pub path : List Hop
  pub legal : Legal t.has m path
  pub ends : end m path ≡ p
  pub short : length path < n
  pub costs : cost t path ≡ Some c

-- what holds of the search between two takes
pub record Sound {C : Type 0} (t : Rates C) (m : Maze) (limit : ℕ) (s : State C) : Type 0 where
  pub fits : s.taken ≤ limit
  pub least : (p : ℕ) (c : C) → s.label p ≡ Some c → Least t m limit p c
  pub few : (p : ℕ) (c : C) → s.label p ≡ Some c → Reached t m s.taken p c
  pub closed : (p q : ℕ) (k : Step) (b c : C) → s.label p ≡ Some c → Least t m limit q b → t.has k ≡ true → t.after b k ≡ Some c → s.label q ≡ Some b
  pub paid : (p : ℕ) (c : C) → s.waiting p ≡ Some c → Reached t m (suc s.taken) p c
  pub unlabelled : (p : ℕ) (c : C) → s.waiting p ≡ Some c → s.label p ≡ None
  pub begins : m.free m.start ≡ true → s.label m.start ≡ None → Within t (s.waiting m.start) t.nothing
  pub borders : (p q : ℕ) (k : Step) (c d : C) → s.label p ≡ Some c → s.label q ≡ None → Next m q k p → t.has k ≡ true →
      m.free q ≡ true → t.after c k ≡ Some d → Within t (s.waiting q) d

-- nothing is taken yet, and the start waits, if it can be passed
pub record Fresh {C : Type 0} (t : Rates C) (m : Maze) (s : State C) : Type 0 where
  pub none : (p : ℕ) → s.label p ≡ None
  pub start : m.free m.start ≡ true → s.waiting m.start ≡ Some t.nothing
  pub only : (p : ℕ) (c : C) → s.waiting p ≡ Some c → (m.free m.start ≡ true) × (p ≡ m.start) × (c ≡ t.nothing)
  pub zero : s.taken ≡ 0

-- (p, c) may be taken: it waits, and c is less than what any step makes of any waiting cost
pub record MayTake {C : Type 0} (t : Rates C) (limit : ℕ) (s : State C) (p : ℕ) (c : C) : Type 0 where
  pub waits : s.waiting p ≡ Some c
  pub early : (q : ℕ) (e x : C) (k : Step) → s.waiting q ≡ Some e → t.has k ≡ true → t.after e k ≡ Some x → t.less c x ≡ true
  pub room : s.taken < limit

-- as the code does it: the label first
pub record Labelled {C : Type 0} (s : State C) (p : ℕ) (c : C) (s' : State C) : Type 0 where
  pub count : s'.taken ≡ suc s.taken
  pub named : s'.label p ≡ Some c
  pub others : (q : ℕ) → q ≢ p → s'.label q ≡ s.label q
  pub gone : s'.waiting p ≡ None
  pub rest : (q : ℕ) → q ≢ p → s'.waiting q ≡ s.waiting q

abbrev pub TookNone : Type 0 → Type 0
TookNone C = (t : Rates C) (m : Maze) (limit : ℕ) (s s' : State C) (p : ℕ) (c : C) → Lawful t limit → Labelled s p c s' → Took t m s p c [] s'

abbrev pub TookMore : Type 0 → Type 0
TookMore C = (t : Rates C) (m : Maze) (limit : ℕ) (s s' s'' : State C) (p : ℕ) (c : C) (hs : List Hop) (h : Hop) → Lawful t limit →
    Took t m s p c hs s' → Offered t m s' c h s'' → Took t m s p c (hs ++ (h ∷ [])) s''

abbrev pub FreshIsSound : Type 0 → Type 0
FreshIsSound C = (t : Rates C) (m : Maze) (limit : ℕ) (s : State C) → Lawful t limit → Fresh t m s → Sound t m limit s

abbrev pub TakenIsLeast : Type 0 → Type 0
TakenIsLeast C = (t : Rates C) (m : Maze) (limit : ℕ) (s : State C) (p : ℕ) (c : C) →
    Lawful t limit → Sound t m limit s → MayTake t limit s p c → Least t m limit p c

abbrev pub SoundIsKept : Type 0 → Type 0
SoundIsKept C = (t : Rates C) (m : Maze) (limit : ℕ) (s s' : State C) (p : ℕ) (c : C) →
    Lawful t limit → Symmetric m → Sound t m limit s → MayTake t limit s p c → Took t m s p c (m.around p) s' → Sound t m limit s'

abbrev pub AllAreLabelled : Type 0 → Type 0
AllAreLabelled C = (t : Rates C) (m : Maze) (limit : ℕ) (s : State C) →
    Lawful t limit → Sound t m limit s → ((q : ℕ) → s.waiting q ≡ None) →
    (p : ℕ) (w : List Hop) → Route t.has m limit p w → (c : C) × (s.label p ≡ Some c)

-- The labels are costs that are known, whenever the search stops: the wire is traced over them.
abbrev pub SoundIsKnown : Type 0 → Type 0
SoundIsKnown C = (t : Rates C) (m : Maze) (limit : ℕ) (s : State C) → Sound t m limit s → Known t m limit s.label
