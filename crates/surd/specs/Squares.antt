-- Squares: they keep the order, and none but 0 is twice a square.
use Rattle.std.proofs.Common.{◌≡◌, ℕ, zero, suc, ◌+◌, ◌*◌, ◌/◌, ◌%◌, ◌<◌, ◌≤◌, ◌⊎◌, sym, ap, ◌∙◌, inl, inr, ⊎_elim, mul_comm, add-mul, mul-pos, mul-add, arith}
use native.Mathlib.Nat.{mul-mul-mul_comm}
use Rattle.std.proofs.lemmas.Bool.{cases_lt}
use Rattle.std.proofs.lemmas.Nat.{mul-lt, mul-le}

pub square_sum : (p q : ℕ) → (p + q) * (p + q) ≡ p * p + 2 * (p * q) + q * q
square_sum p q = add-mul p q (p + q) ∙ omega (arith, mul-add p p q, mul-add q p q, mul_comm q p)

pub square_product : (p q : ℕ) → (p * q) * (p * q) ≡ (p * p) * (q * q)
square_product p q = mul-mul-mul_comm p q p q

pub square_double : (n : ℕ) → (2 * n) * (2 * n) ≡ 4 * (n * n)
square_double n = square_product 2 n

pub square_zero : (n : ℕ) → n ≡ 0 → n * n ≡ 0
square_zero n e = ap (λ k. k * k) e

pub square_counts : (n : ℕ) → 0 < n → 0 < n * n
square_counts n l = mul-pos {m = n} {n = n} l l

pub zero_square : (n : ℕ) → n * n ≡ 0 → n ≡ 0
zero_square n h = ⊎_elim (λ l. absurd (omega (arith, square_counts n l))) (λ l. omega arith) (cases_lt 0 n)

pub square_le : (x y : ℕ) → x * x ≤ y * y → x ≤ y
square_le x y h = ⊎_elim (λ l. absurd (omega (arith, mul-lt y y x x l l))) (λ l. l) (cases_lt y x)

pub square_lt : (x y : ℕ) → x * x < y * y → x < y
square_lt x y h = ⊎_elim (λ l. l) (λ l. absurd (omega (arith, mul-le y y x x l l))) (cases_lt x y)

double_product : (v w : ℕ) → (2 * (v * w)) * (2 * (v * w)) ≡ (2 * (v * v)) * (2 * (w * w))
double_product v w = square_product 2 (v * w) ∙ ap (λ x. 4 * x) (square_product v w) ∙ sym (mul-mul-mul_comm 2 (v * v) 2 (w * w))

-- where p ≤ v√2 and q ≤ w√2, pq ≤ 2vw
pub product_under : (p q v w : ℕ) → p * p ≤ 2 * (v * v) → q * q ≤ 2 * (w * w) → p * q ≤ 2 * (v * w)
product_under p q v w a b = square_le (p * q) (2 * (v * w)) (rw (square_product p q, double_product v w) (mul-le _ _ _ _ a b))

-- and the other way round
pub product_over : (p q v w : ℕ) → 2 * (v * v) ≤ p * p → 2 * (w * w) ≤ q * q → 2 * (v * w) ≤ p * q
product_over p q v w a b = square_le (2 * (v * w)) (p * q) (rw (double_product v w, square_product p q) (mul-le _ _ _ _ a b))

halves : (m : ℕ) → (m ≡ 2 * (m / 2)) ⊎ (m ≡ 2 * (m / 2) + 1)
halves m = ⊎_elim (λ h. inl (omega arith)) (λ h. inr (omega arith)) (cases_lt (m % 2) 1)

-- were m² = 2n², m would be even, and its half and n a smaller such pair
descent : (k m n : ℕ) → n ≤ k → m * m ≡ 2 * (n * n) → n ≡ 0
descent zero m n le e = omega arith
descent (suc k) m n le e = ⊎_elim
    (λ even.
    let j = m / 2 in
    let sq : m * m ≡ 4 * (j * j) = ap (λ x. x * x) even ∙ square_double j in
    let e' : n * n ≡ 2 * (j * j) = omega arith in
    zero_square n (⊎_elim
    (λ small. omega (arith, square_zero j (descent k n j (omega arith) e')))
    (λ large. omega (arith, mul-le n n j j large large))
    (cases_lt j n)))
    (λ odd. absurd (
    let j = m / 2 in
    let sq : m * m ≡ (2 * j + 1) * (2 * j + 1) = ap (λ x. x * x) odd in
    omega (arith, square_sum (2 * j) 1, square_double j)))
    (halves m)

pub no_twice : (m n : ℕ) → m * m ≡ 2 * (n * n) → n ≡ 0
no_twice m n e = descent n m n (omega arith) e
