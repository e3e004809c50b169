-- What a tariff says of costs, and the laws that every tariff keeps.
use Rattle.std.specs.Prelude.{◌≡◌, ℕ, ◌+◌, ◌<◌, ◌≤◌, Bool, true, false, List, [], ◌∷◌, length, is_some, Some, None, Option}
use Rattle.grid.specs.declared.step.Step.{Step}

-- A tariff over the costs C.
pub record Rates (C : Type 0) : Type 0 where
  -- what a path of no steps costs
  pub nothing : C
  -- whether the first cost is below the second
  pub less : C → C → Bool
  -- the steps that the tariff has
  pub has : Step → Bool
  -- what a step makes of a cost; None where it is refused
  pub after : C → Step → Option C
  -- the level of a cost
  pub level : C → ℕ
  -- the most that a step raises the level by; 0 where costs have no levels
  pub span : ℕ

-- one step more; what was refused stays refused
abbrev pub followed : {C : Type 0} → Rates C → Option C → Step → Option C
followed t None k = None
followed t (Some c) k = t.after c k

-- nothing, followed by a row of steps that has its last step first
abbrev pub charge : {C : Type 0} → Rates C → List Step → Option C
charge t [] = Some t.nothing
charge t (k ∷ ks) = followed t (charge t ks) k

-- the tariff has each step of the row
abbrev pub AllHad : {C : Type 0} → Rates C → List Step → Type 0
AllHad t [] = Unit {0}
AllHad t (k ∷ ks) = (t.has k ≡ true) × AllHad t ks

-- THE LAWS
pub record Laws {C : Type 0} (t : Rates C) : Type 0 where
  -- the order: no cost is below itself,
  pub irreflexive : (a : C) → t.less a a ≡ false
  -- it is transitive,
  pub transitive : (a b c : C) → t.less a b ≡ true → t.less b c ≡ true → t.less a c ≡ true
  -- and it is total: two costs neither of which is greater are equal
  pub same : (a b : C) → t.less a b ≡ false → t.less b a ≡ false → a ≡ b
  -- a step that is not refused makes a cost greater
  pub grows : (a b : C) (k : Step) → t.after a k ≡ Some b → t.less a b ≡ true
  -- the same step added to two costs keeps their order, if neither is refused
  pub keeps : (a b x y : C) (k : Step) → t.less a b ≡ true → t.after a k ≡ Some x → t.after b k ≡ Some y → t.less x y ≡ true
  -- a step that the tariff does not have is refused
  pub lacks : (c : C) (k : Step) → t.has k ≡ false → t.after c k ≡ None
  -- nothing, followed by at most 2,097,152 steps that the tariff has, is never refused
  pub lasts : (ks : List Step) → AllHad t ks → length ks ≤ 2097152 → is_some (charge t ks) ≡ true
  -- where the span is not 0, a greater level means a greater cost
  pub ranks : (a b : C) → 0 < t.span → t.level a < t.level b → t.less a b ≡ true
  -- and a step raises the level by at least 1 and at most the span
  pub rises : (a b : C) (k : Step) → 0 < t.span → t.after a k ≡ Some b → (t.level a + 1 ≤ t.level b) × (t.level b ≤ t.level a + t.span)
