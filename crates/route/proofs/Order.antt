-- What the laws of a tariff give: costs in order, charges that go on. Assumes nothing.
use Rattle.std.proofs.Common.{◌≡◌, ℕ, ◌<◌, ◌≤◌, Bool, true, false, cond, ◌⊎◌, List, [], ◌∷◌, length, is_some, Some, None, Option, refl, subst, inl, inr, arith}
use Rattle.std.proofs.lemmas.Bool.{both_ways, cases_Bool}
use Rattle.grid.specs.declared.step.Step.{Step}
use Rattle.tariff.specs.Rates.{Rates, followed, AllHad}
use Rattle.route.proofs.Lawful.{Lawful}
use Rattle.route.specs.Hops.{Hop}
use Rattle.route.specs.Queue.{Within}
use Rattle.route.specs.Search.{Maze, Legal, steps, cost}

-- options
pub none_some : {C : Type 0} {A : Type 0} {c : C} → None ≡ Some c → A
none_some {c} e = let z : ◌≡◌ {A = ℕ} 0 1 = cc in absurd (omega arith)

pub some_is : {C : Type 0} {a b : C} → Some a ≡ Some b → a ≡ b
some_is e = cc

pub cond_some : {C : Type 0} {c : C} (b : Bool) (x : Option C) → cond b x None ≡ Some c → (b ≡ true) × (x ≡ Some c)
cond_some true x e = (refl, e)
cond_some false x e = none_some e

pub some_of : {C : Type 0} (o : Option C) → is_some o ≡ true → (c : C) × (o ≡ Some c)
some_of None e = absurd (both_ways false refl e)
some_of (Some c) e = (c, refl)

pub cases_option : {C : Type 0} (o : Option C) → (o ≡ None) ⊎ ((c : C) × (o ≡ Some c))
cases_option None = inl refl
cases_option (Some c) = inr (c, refl)

pub then_some : {C : Type 0} {c : C} (t : Rates C) (o : Option C) (k : Step) → followed t o k ≡ Some c → (d : C) × (o ≡ Some d) × (t.after d k ≡ Some c)
then_some t None k e = none_some e
then_some t (Some d) k e = (d, refl, e)

-- a is at most b
abbrev pub Leq : {C : Type 0} → Rates C → C → C → Type 0
Leq t a b = t.less b a ≡ false

pub within_cond : {C : Type 0} {t : Rates C} {d : C} (b : Bool) {o : Option C} → b ≡ true → Within t o d → Within t (cond b o None) d
within_cond true e h = h
within_cond false e h = absurd (both_ways false refl e)

pub all_had : {C : Type 0} (t : Rates C) (m : Maze) (w : List Hop) → Legal t.has m w → AllHad t (steps w)
all_had t m [] l = tt
all_had t m (h ∷ w) l = (l.1, all_had t m w l.3)

pub length_steps : (w : List Hop) → length (steps w) ≡ length w
length_steps [] = refl
length_steps (h ∷ w) = let ih = length_steps w in omega arith

module _ {C : Type 0} {t : Rates C} {limit : ℕ} (L : Lawful t limit) where
  pub leq_refl : (a : C) → Leq t a a
  leq_refl a = go (cases_Bool (t.less a a))
    where
      go : (t.less a a ≡ true) ⊎ (t.less a a ≡ false) → t.less a a ≡ false
      go (inl e) = L.one_way a a e
      go (inr e) = e

  -- a < b ≤ c
  pub lt_leq : (a b c : C) → t.less a b ≡ true → Leq t b c → t.less a c ≡ true
  lt_leq a b c lt le = go (cases_Bool (t.less b c))
    where
      go : (t.less b c ≡ true) ⊎ (t.less b c ≡ false) → t.less a c ≡ true
      go (inl e) = L.trans a b c lt e
      go (inr e) = subst (λ x. t.less a x ≡ true) (L.same b c e le) lt

  pub leq_trans : (a b c : C) → Leq t a b → Leq t b c → Leq t a c
  leq_trans a b c p q = go (cases_Bool (t.less c a))
    where
      go : (t.less c a ≡ true) ⊎ (t.less c a ≡ false) → t.less c a ≡ false
      go (inl e) = absurd (both_ways _ q (lt_leq c a b e p))
      go (inr e) = e

  pub leq_same : (a b : C) → Leq t a b → Leq t b a → a ≡ b
  leq_same a b p q = L.same a b q p

  pub grown : (a b : C) (k : Step) → t.after a k ≡ Some b → Leq t a b
  grown a b k e = L.one_way a b (L.grows a b k e)

  pub within_trans : {o : Option C} {c d : C} → Within t o c → Leq t c d → Within t o d
  within_trans {o} {c} {d} h q = record { value = h.value; is = h.is; low = leq_trans h.value c d h.low q }

  -- a legal path with room for one step more is not refused it
  pub goes_on : (m : Maze) (w : List Hop) (c : C) (k : Step) → Legal t.has m w → cost t w ≡ Some c → t.has k ≡ true → length w < limit → (x : C) × (t.after c k ≡ Some x)
  goes_on m w c k legal costs has room =
      let ok = L.lasts (k ∷ steps w) (has, all_had t m w legal) (let e = length_steps w in omega arith) in
      some_of (t.after c k) (subst (λ o. is_some (followed t o k) ≡ true) costs ok)

  pub costed : (m : Maze) (w : List Hop) → Legal t.has m w → length w ≤ limit → (c : C) × (cost t w ≡ Some c)
  costed m w legal short = some_of (cost t w) (L.lasts (steps w) (all_had t m w legal) (let e = length_steps w in omega arith))
