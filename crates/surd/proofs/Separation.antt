-- The order in whole numbers is the order of a + b√2.
use Rattle.std.proofs.Common.{◌≡◌, ℕ, ◌+◌, ◌-◌, ◌*◌, ◌<◌, ◌≤◌, true, ◌⊎◌, ◌↔◌, sym, ap, ◌∙◌, inl, inr, ⊎_elim, mul_assoc, mul_comm, add-mul, mul-pos, mul-add, mul_left_comm, arith}
use native.Mathlib.Nat.{mul-lt-mul_of_pos_left}
use Rattle.std.proofs.lemmas.Bool.{cases_lt, cases_Bool, ltb-true, ltb-false}
use Rattle.std.proofs.lemmas.Nat.{mul-le}
use Rattle.std.specs.Ordering.{is_lt}
use Rattle.surd.specs.declared.Surd.{Surd}
use Rattle.surd.specs.Surds.{excess, is_below, order, at, Separated}
use Rattle.surd.specs.Squares.{square_sum, square_product, square_double, square_zero, square_counts, square_le, square_lt}
use Rattle.surd.specs.OrderLaws.{fall_in_a, fall_in_b, order_less}

-- q times what x has more than y where √2 is taken as p/q, part by part
abbrev gap : Surd → Surd → ℕ → ℕ → ℕ
gap x y p q = (x.a - y.a) * q + (x.b - y.b) * p

level_out : (m n q : ℕ) → m * q + (n - m) * q ≡ n * q + (m - n) * q
level_out m n q =
    sym (add-mul m (n - m) q) ∙ let e : m + (n - m) ≡ n + (m - n) = omega arith in ap (λ k. k * q) e ∙ add-mul n (m - n) q

balance : (x y : Surd) (p q : ℕ) → at x p q + gap y x p q ≡ at y p q + gap x y p q
balance x y p q = omega (arith, level_out x.a y.a q, level_out x.b y.b p)

-- where A ≤ B√2 and Q√2 ≤ P, AQ ≤ BP
crossed : (A B Q P : ℕ) → A * A ≤ 2 * (B * B) → 2 * (Q * Q) ≤ P * P → A * Q ≤ B * P
crossed A B Q P h k =
    let both = mul-le (A * A) (2 * (Q * Q)) (2 * (B * B)) (P * P) h k in
    square_le (A * Q) (B * P)
    (omega (arith, square_product A Q, square_product B P, mul_left_comm (A * A) 2 (Q * Q), mul_assoc 2 (B * B) (P * P)))

none_of : (m q : ℕ) → m ≡ 0 → m * q ≡ 0
none_of m q e = ap (λ k. k * q) e ∙ omega arith

factor_counts : (k m n : ℕ) → k < m * n → 0 < m
factor_counts k m n h = ⊎_elim (λ l. l) (λ l. absurd (omega (arith, none_of m n (omega arith)))) (cases_lt 0 m)

from_separated : (x y : Surd) → Separated x y → is_below x y ≡ true
from_separated x y s = ⊎_elim
    (λ yes. yes)
    (λ no.
    let h = ltb-false (excess x y) (excess y x) no in
    let in_b = fall_in_b y x h in
    let in_a = fall_in_a y x h in
    let at_under = crossed s.p s.q (y.b - x.b) (x.a - y.a) (omega arith) in_b in
    let at-over = crossed (y.a - x.a) (x.b - y.b) s.Q s.P in_a (omega arith) in
    let a-rises = factor_counts ((x.b - y.b) * s.p) (y.a - x.a) s.q
    (omega (arith, balance x y s.p s.q, mul_comm s.p (y.b - x.b), mul_comm s.q (x.a - y.a))) in
    let b-rises = factor_counts ((x.a - y.a) * s.Q) (y.b - x.b) s.P (omega (arith, balance x y s.P s.Q)) in
    absurd (omega (arith, square_zero (x.a - y.a) (omega arith), square_counts (y.b - x.b) b-rises)))
    (cases_Bool (is_below x y))

-- two numbers apart: four times their product is less than the square of their sum
apart : (A B : ℕ) → A < B → 4 * (A * B) < (A + B) * (A + B)
apart A B l =
    let d = B - A in
    let e : B ≡ A + d = omega arith in
    omega (arith, square_sum A B, square_sum A d, ap (λ k. k * k) e, ap (λ k. A * k) e, mul-add A A d, square_counts d (omega arith))

-- the squares of 2mn and m² + 2n²
middle : (m n : ℕ) → (2 * (n * n) < m * m) ⊎ (m * m < 2 * (n * n)) →
    2 * ((2 * (m * n)) * (2 * (m * n))) < (m * m + 2 * (n * n)) * (m * m + 2 * (n * n))
middle m n h =
    let A = m * m in
    let B = 2 * (n * n) in
    let product = mul_left_comm A 2 (n * n) in
    let double = square_double (m * n) in
    let parts = square_product m n in
    ⊎_elim
    (λ l. omega (arith, apart B A l, mul_comm A B, square_sum A B, square_sum B A))
    (λ l. omega (arith, apart A B l))
    h

turned : (n m : ℕ) → n * (2 * (m * m)) ≡ m * (2 * (m * n))
turned n m = mul_left_comm n 2 (m * m) ∙ ap (λ k. 2 * k) (mul_left_comm n m m ∙ ap (λ k. m * k) (mul_comm n m)) ∙ mul_left_comm 2 m (m * n)

-- x has more in b: the fraction (m² + 2n²)/2mn lies between √2 and m/n, where m is the rise in a and n the fall in b
b_falls : (x y : Surd) → y.b < x.b → excess x y < excess y x → Separated x y
b_falls x y l h =
    let m = y.a - x.a in
    let n = x.b - y.b in
    let P = m * m + 2 * (n * n) in
    let Q = 2 * (m * n) in
    let close : 2 * (n * n) < m * m = omega (arith, square_zero (y.b - x.b) (omega arith)) in
    let far : n < m = square_lt n m (omega arith) in
    let more : n * P < n * (2 * (m * m)) = mul-lt-mul_of_pos_left (omega arith) (omega arith) in
    record {
      p = 1;
      q = 1;
      q_counts = omega arith;
      under = omega arith;
      less_under = omega arith;
      P = P;
      Q = Q;
      Q_counts = omega (arith, mul-pos {m = m} {n = n} (omega arith) (omega arith));
      over = middle m n (inl close);
      less_over = omega (arith, balance x y P Q, turned n m, none_of (x.a - y.a) Q (omega arith));
    }

-- x has more in a: the fraction 4mn/(m² + 2n²) lies between m/n and √2, where m is the fall in a and n the rise in b
a_falls : (x y : Surd) → y.a < x.a → excess x y < excess y x → Separated x y
a_falls x y l h =
    let m = x.a - y.a in
    let n = y.b - x.b in
    let half = 2 * (m * n) in
    let p = 2 * half in
    let q = m * m + 2 * (n * n) in
    let close : m * m < 2 * (n * n) = omega (arith, square_zero (y.a - x.a) (omega arith)) in
    let far : m < 2 * n = square_lt m (2 * n) (omega (arith, square_double n)) in
    let more : m * q < m * (2 * (2 * (n * n))) = mul-lt-mul_of_pos_left (omega arith) (omega arith) in
    let same : m * (2 * (2 * (n * n))) ≡ n * p =
    mul_left_comm m 2 (2 * (n * n)) ∙ ap (λ k. 2 * k) (turned m n ∙ ap (λ k. n * (2 * k)) (mul_comm n m)) ∙ mul_left_comm 2 n half in
    record {
      p = p;
      q = q;
      q_counts = omega (arith, square_counts m (omega arith));
      under = omega (arith, square_double half, middle m n (inr close));
      less_under = omega (arith, balance x y p q, none_of (x.b - y.b) p (omega arith));
      P = 2;
      Q = 1;
      Q_counts = omega arith;
      over = omega arith;
      less_over = omega arith;
    }

both_rise : (x y : Surd) → x.a ≤ y.a → x.b ≤ y.b → excess x y < excess y x → Separated x y
both_rise x y l m h =
    let rises : x.a + x.b < y.a + y.b = ⊎_elim
    (λ k. k)
    (λ k. absurd (omega (arith, square_zero (y.a - x.a) (omega arith), square_zero (y.b - x.b) (omega arith))))
    (cases_lt (x.a + x.b) (y.a + y.b)) in
    record {
      p = 1;
      q = 1;
      q_counts = omega arith;
      under = omega arith;
      less_under = omega arith;
      P = 2;
      Q = 1;
      Q_counts = omega arith;
      over = omega arith;
      less_over = omega arith;
    }

to_separated : (x y : Surd) → is_below x y ≡ true → Separated x y
to_separated x y below =
    let h = ltb-true (excess x y) (excess y x) below in
    ⊎_elim
    (λ l. b_falls x y l h)
    (λ l. ⊎_elim (λ m. a_falls x y m h) (λ m. both_rise x y m l h) (cases_lt y.a x.a))
    (cases_lt y.b x.b)

pub below_separated : (x y : Surd) → (is_below x y ≡ true) ↔ Separated x y
below_separated x y = (to_separated x y, from_separated x y)

-- the same of what `<` answers
pub less_to_separated : (x y : Surd) → is_lt (order x y) ≡ true → Separated x y
less_to_separated x y e = (below_separated x y).0 (rw (order_less x y) at e)

pub less_from_separated : (x y : Surd) → Separated x y → is_lt (order x y) ≡ true
less_from_separated x y s = rw (order_less x y) ((below_separated x y).1 s)

pub ruleset less_rules = (less_to_separated, less_from_separated)
