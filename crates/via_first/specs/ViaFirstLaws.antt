-- The via-first tariff keeps the laws.
use Rattle.std.specs.Prelude.{◌≡◌, ℕ, suc, ◌<◌, ◌≤◌, true, false, ◌⊎◌, Some, Decides, refl}
use Rattle.std.proofs.Common.{sym, ◌∙◌, inl, inr, ⊎_elim, arith}
use Rattle.std.proofs.lemmas.Bool.{cases_order, cases_Bool}
use Rattle.std.proofs.lemmas.Bool.Decides.{nat_tests, Decides-and, Decides-eqb, Decides-ltb, Decides-or, not_from_Decides}
use Rattle.grid.specs.declared.step.Step.{Step}
use Rattle.grid.specs.declared.step.Step.TheVariants.{Straight, Diagonal, Via}
use Rattle.surd.specs.Surds.{is_below}
use Rattle.surd.specs.OrderLaws.{below_irreflexive, below_transitive, below_same}
use Rattle.surd.proofs.Order.{below_more, below_shift}
use Rattle.tariff.specs.Rates.{Laws}
use Rattle.tariff.proofs.Lasting.{lasting}
use Rattle.via_first.specs.declared.ViaFirstCost.{ViaFirstCost}
use Rattle.via_first.specs.ViaFirst.{via_first_below, via_first_next, via_first_rates, via_first_within}

-- fewer vias, or as many and a rest that is below
abbrev Before : ViaFirstCost → ViaFirstCost → Type 0
Before x y = (x.vias < y.vias) ⊎ ((x.vias ≡ y.vias) × (is_below x.rest y.rest ≡ true))

before : (x y : ViaFirstCost) → Decides (via_first_below x y) (Before x y)
before x y =
    Decides-or _ _ (Decides-ltb x.vias y.vias)
    (Decides-and _ _ (Decides-eqb x.vias y.vias) ((λ h. h), (λ h. h)))

irreflexive : (x : ViaFirstCost) → via_first_below x x ≡ false
irreflexive x = let e = below_irreflexive x.rest in grind (arith, nat_tests)

before_transitive : (x y z : ViaFirstCost) → Before x y → Before y z → Before x z
before_transitive x y z (inl l) (inl m) = inl (omega arith)
before_transitive x y z (inl l) (inr m) = inl (omega (arith, m.0))
before_transitive x y z (inr l) (inl m) = inl (omega (arith, l.0))
before_transitive x y z (inr l) (inr m) = inr (l.0 ∙ m.0, below_transitive x.rest y.rest z.rest l.1 m.1)

-- costs neither of which is before the other are the same
same : (x y : ViaFirstCost) → (Before x y → ⊥) → (Before y x → ⊥) → x ≡ y
same x y p q =
    let v : x.vias ≡ y.vias = ⊎_elim (λ e. e) (⊎_elim (λ l. absurd (p (inl l))) (λ l. absurd (q (inl l)))) (cases_order x.vias y.vias) in
    let below : is_below x.rest y.rest ≡ false = ⊎_elim (λ t. absurd (p (inr (v, t)))) (λ f. f) (cases_Bool _) in
    let above : is_below y.rest x.rest ≡ false = ⊎_elim (λ t. absurd (q (inr (sym v, t)))) (λ f. f) (cases_Bool _) in
    let r = below_same x.rest y.rest below above in
    λ i. record { vias = v i; rest = r i }

-- a step leads to a cost that is after
next_grows : (c : ViaFirstCost) (k : Step) → Before c (via_first_next c k)
next_grows c Straight = inr (refl, below_more _ _ (omega arith) (omega arith) (omega arith))
next_grows c Diagonal = inr (refl, below_more _ _ (omega arith) (omega arith) (omega arith))
next_grows c Via = inl (omega arith)

-- the same step keeps the order
next_keeps : (x y : ViaFirstCost) (k : Step) → Before x y → Before (via_first_next x k) (via_first_next y k)
next_keeps x y Straight (inl l) = inl l
next_keeps x y Straight (inr l) = inr (l.0, below_shift x.rest y.rest _ _ 1 0 refl (omega arith) refl (omega arith) l.1)
next_keeps x y Diagonal (inl l) = inl l
next_keeps x y Diagonal (inr l) = inr (l.0, below_shift x.rest y.rest _ _ 0 1 (omega arith) refl (omega arith) refl l.1)
next_keeps x y Via (inl l) = inl (omega arith)
next_keeps x y Via (inr l) = inr (omega (arith, l.0), l.1)

-- a cost that is not refused stays what it is
some_within : (c d : ViaFirstCost) → via_first_within c ≡ Some d → d ≡ c
some_within c d h = grind (arith, nat_tests)

-- n steps count at most n in each part
abbrev Low : ℕ → ViaFirstCost → Type 0
Low n c = (c.vias ≤ n) × (c.rest.a ≤ n) × (c.rest.b ≤ n)

low_next : (n : ℕ) (c : ViaFirstCost) (k : Step) → Low n c → Low (suc n) (via_first_next c k)
low_next n c Straight low = (omega arith, omega arith, omega arith)
low_next n c Diagonal low = (omega arith, omega arith, omega arith)
low_next n c Via low = (omega arith, omega arith, omega arith)

low_within : (n : ℕ) (c : ViaFirstCost) → Low n c → n ≤ 2097152 → via_first_within c ≡ Some c
low_within n c low h = grind (arith, nat_tests)

pub via_first_laws : Laws via_first_rates
via_first_laws = record {
  irreflexive = irreflexive;
  transitive = λ x y z p q. (before x z).1 (before_transitive x y z ((before x y).0 p) ((before y z).0 q));
  same = λ x y p q. same x y (not_from_Decides _ (before x y) p) (not_from_Decides _ (before y x) q);
  grows = λ x y k h. rw (some_within (via_first_next x k) y h) ((before x (via_first_next x k)).1 (next_grows x k));
  keeps = λ x y v w k l p q. rw (some_within (via_first_next x k) v p, some_within (via_first_next y k) w q)
      ((before (via_first_next x k) (via_first_next y k)).1 (next_keeps x y k ((before x y).0 l)));
  lacks = λ c k h. cc;
  lasts = lasting via_first_rates Low (omega arith, omega arith, omega arith)
      (λ n c k low h had. let next = low_next n c k low in (via_first_next c k, low_within (suc n) (via_first_next c k) next (omega arith), next));
  ranks = λ x y p l. absurd (omega arith);
  rises = λ x y k p h. absurd (omega arith);
}
