-- The order of the numbers a + b√2 is total, and two numbers that it does not tell apart are equal.
use Rattle.std.specs.Prelude.{◌≡◌, ℕ, ◌+◌, ◌-◌, ◌*◌, ◌<◌, ◌≤◌, true, false, ◌&&◌, ◌==◌, ◌⊎◌, refl}
use Rattle.std.specs.Ordering.{MatchOrdering, eq_by_cmp, is_eq, is_lt}
use Rattle.std.specs.declared.cmp.Ordering.{Ordering}
use Rattle.std.specs.declared.cmp.Ordering.TheVariants.{Less, Equal, Greater}
use Rattle.std.specs.Cmp.{Equal-is, IsTotalOrder, both_ways, ranked, strict, tied_itself}
use Rattle.std.specs.Cmp.Derive.{both_true}
use Rattle.std.proofs.Common.{ap, inl, inr, ⊎_elim, subst, sym, ◌∙◌, arith}
use Rattle.std.proofs.lemmas.Bool.{and_parts, cases_lt, cases_Bool, eq-eqb, eqb-true, ltb-true, ltb-false, lt-ltb, le-ltb, true≢false}
use Rattle.std.proofs.lemmas.Bool.Decides.{nat_tests}
use Rattle.surd.specs.declared.Surd.{Surd}
use Rattle.surd.specs.Surds.{excess, is_below, order}
use Rattle.surd.specs.Squares.{square_sum, square_zero, square_counts, zero_square, product_under, product_over, no_twice}

one_way : (m n : ℕ) → ((m - n) * (m - n) ≡ 0) ⊎ ((n - m) * (n - m) ≡ 0)
one_way m n = ⊎_elim (λ l. inr (square_zero (n - m) (omega arith))) (λ l. inl (square_zero (m - n) (omega arith))) (cases_lt n m)

-- where y is no less than x: a fall in b is made good by a rise in a,
pub fall_in_b : (x y : Surd) → excess x y ≤ excess y x → 2 * ((x.b - y.b) * (x.b - y.b)) ≤ (y.a - x.a) * (y.a - x.a)
fall_in_b x y h = ⊎_elim (λ none. omega arith) (λ none. omega arith) (one_way x.b y.b)

-- and a fall in a by a rise in b
pub fall_in_a : (x y : Surd) → excess x y ≤ excess y x → (x.a - y.a) * (x.a - y.a) ≤ 2 * ((y.b - x.b) * (y.b - x.b))
fall_in_a x y h = ⊎_elim (λ none. omega arith) (λ none. omega arith) (one_way x.a y.a)

-- y is x with P - q and (V - u)√2 added, where u√2 ≤ P and q ≤ V√2; these add up to no less than 0, and to more where s is not 0
pub record Rise (x y : Surd) (s : ℕ) : Type 0 where
  pub P : ℕ
  pub q : ℕ
  pub V : ℕ
  pub u : ℕ
  pub in_a : y.a + q ≡ x.a + P
  pub in_b : y.b + u ≡ x.b + V
  pub b_made_good : 2 * (u * u) ≤ P * P
  pub a_made_good : q * q ≤ 2 * (V * V)
  pub by : 2 * (u * u) + q * q + s ≤ P * P + 2 * (V * V)

rise : (x y : Surd) (s : ℕ) → excess x y + s ≤ excess y x → Rise x y s
rise x y s h = record {
  P = y.a - x.a;
  q = x.a - y.a;
  V = y.b - x.b;
  u = x.b - y.b;
  in_a = omega arith;
  in_b = omega arith;
  b_made_good = fall_in_b x y (omega arith);
  a_made_good = fall_in_a x y (omega arith);
  by = omega arith;
}

join : (x y z : Surd) (s r : ℕ) → Rise x y s → Rise y z r → Rise x z (s + r)
join x y z s r e f =
    let squares-u = square_sum e.u f.u in
    let squares-P = square_sum e.P f.P in
    let squares-q = square_sum e.q f.q in
    let squares-V = square_sum e.V f.V in
    let over = product_over e.P f.P e.u f.u e.b_made_good f.b_made_good in
    let under = product_under e.q f.q e.V f.V e.a_made_good f.a_made_good in
    record {
      P = e.P + f.P;
      q = e.q + f.q;
      V = e.V + f.V;
      u = e.u + f.u;
      in_a = omega arith;
      in_b = omega arith;
      b_made_good = omega arith;
      a_made_good = omega arith;
      by = omega arith;
    }

-- no way round leads up
round : (x : Surd) (s : ℕ) → 1 ≤ s → Rise x x s → ⊥
round x s h e =
    let P-is : e.P ≡ e.q = omega arith in
    let V-is : e.V ≡ e.u = omega arith in
    omega (arith, ap (λ k. k * k) P-is, ap (λ k. k * k) V-is)

pub below_from : (x y : Surd) (s : ℕ) → 1 ≤ s → Rise x y s → is_below x y ≡ true
below_from x y s h e = ⊎_elim
    (λ yes. yes)
    (λ no. absurd (round x (s + 0) (omega arith) (join x y x s 0 e (rise y x 0 (omega (arith, ltb-false _ _ no))))))
    (cases_Bool (is_below x y))

pub below_irreflexive : (x : Surd) → is_below x x ≡ false
below_irreflexive x = le-ltb _ _ (omega arith)

pub below_transitive : (x y z : Surd) → is_below x y ≡ true → is_below y z ≡ true → is_below x z ≡ true
below_transitive x y z f g =
    below_from x z 2 (omega arith) (join x y z 1 1 (rise x y 1 (omega (arith, ltb-true _ _ f))) (rise y z 1 (omega (arith, ltb-true _ _ g))))

-- equal excesses are of equal numbers
even : (x y : Surd) → x.a ≤ y.a → excess x y ≡ excess y x → (x.a ≡ y.a) × (x.b ≡ y.b)
even x y l e =
    let zero_a = square_zero (x.a - y.a) (omega arith) in
    ⊎_elim
    (λ up.
    let zero-b = square_zero (x.b - y.b) (omega arith) in
    absurd (omega (arith, square_counts (y.b - x.b) (omega arith))))
    (λ down.
    let zero-b = square_zero (y.b - x.b) (omega arith) in
    let same-b = no_twice (y.a - x.a) (x.b - y.b) (omega arith) in
    let same-a = zero_square (y.a - x.a) (omega (arith, square_zero (x.b - y.b) same-b)) in
    (omega arith, omega arith))
    (cases_lt x.b y.b)

pub below_same : (x y : Surd) → is_below x y ≡ false → is_below y x ≡ false → x ≡ y
below_same x y f g =
    let e : excess x y ≡ excess y x = omega (arith, ltb-false _ _ f, ltb-false _ _ g) in
    let parts : (x.a ≡ y.a) × (x.b ≡ y.b) = ⊎_elim
    (λ l. even x y (omega arith) e)
    (λ l. let back = even y x l (omega arith) in (omega arith, omega arith))
    (cases_lt x.a y.a) in
    λ i. record { a = parts.0 i; b = parts.1 i }

-- what the order answers, in the words of `is_below`
ranks : (x y : Surd) → MatchOrdering (order x y) (is_below x y ≡ true) (x ≡ y) (is_below y x ≡ true)
ranks x y = by (order x y) (ranked (excess x y) (excess y x) _ refl) where
  by : (r : Ordering) → MatchOrdering r (excess x y < excess y x) (excess x y ≡ excess y x) (excess y x < excess x y) →
      MatchOrdering r (is_below x y ≡ true) (x ≡ y) (is_below y x ≡ true)
  by Less h = lt-ltb _ _ h
  by Equal h = below_same x y (le-ltb _ _ (omega (arith, h))) (le-ltb _ _ (omega (arith, h)))
  by Greater h = lt-ltb _ _ h

pub order_total : IsTotalOrder order
order_total = strict (λ x y. is_below x y ≡ true) (λ x h. true≢false (sym h ∙ below_irreflexive x)) below_transitive order ranks

-- `==` holds of the numbers that the order does not tell apart
pub order_ties : (x y : Surd) → (x.a == y.a && x.b == y.b) ≡ eq_by_cmp order x y
order_ties x y = both_ways (x.a == y.a && x.b == y.b) (eq_by_cmp order x y) parts tied where
  parts : (x.a == y.a && x.b == y.b) ≡ true → eq_by_cmp order x y ≡ true
  parts h =
      let equal = and_parts (x.a == y.a) (x.b == y.b) h in
      let same-a = eqb-true x.a y.a equal.0 in
      let same-b = eqb-true x.b y.b equal.1 in
      let same : x ≡ y = λ i. record { a = same-a i; b = same-b i } in
      ap is_eq (subst (λ z. order x z ≡ Equal) same (tied_itself order_total x))

  tied : eq_by_cmp order x y ≡ true → (x.a == y.a && x.b == y.b) ≡ true
  tied h =
      let same = subst (λ r. MatchOrdering r (is_below x y ≡ true) (x ≡ y) (is_below y x ≡ true)) ((Equal-is (order x y)).0 h) (ranks x y) in
      both_true (eq-eqb x.a y.a (ap (λ (c : Surd). c.a) same)) (eq-eqb x.b y.b (ap (λ (c : Surd). c.b) same))

-- `<` is the test
pub order_less : (x y : Surd) → is_lt (order x y) ≡ is_below x y
order_less x y = grind (arith, nat_tests)
