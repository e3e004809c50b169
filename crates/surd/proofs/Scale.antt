-- The whole part of b√2, by a fraction near √2.
use Rattle.std.proofs.Common.{◌≡◌, ℕ, ◌+◌, ◌*◌, ◌/◌, ◌%◌, ◌<◌, ◌≤◌, ap, ◌∙◌, ⊎_elim, mul-le-mul_right, mul_assoc, mul_comm, add-mul, mul-le-mul_left, mul-add, le_of_mul-le-mul_right, mul_left_comm, arith}
use Rattle.std.proofs.lemmas.Bool.{cases_lt, cases_eq}
use Rattle.std.proofs.lemmas.Nat.{mul-le, div-add-mod', mod_below}
use Rattle.surd.specs.Surds.{whole_part}
use Rattle.surd.specs.Squares.{square_sum, square_product, square_zero, square_counts, no_twice}
use Rattle.surd.proofs.Roots.{whole_only}

-- c is the whole part of D times √2, and b is small beside D
module _ (b c D : ℕ) (low : c * c ≤ 2 * (D * D)) (high : 2 * (D * D) < (c + 1) * (c + 1)) (small : (2 * c + 1) * (b * b) < D * D) where
  D_counts : 0 < D
  D_counts = ⊎_elim (λ l. l) (λ l. absurd (omega (arith, square_zero D (omega arith)))) (cases_lt 0 D)

  abbrev quotient : ℕ
  quotient = b * c / D

  parts : quotient * D + (b * c) % D ≡ b * c
  parts = div-add-mod' (b * c) D

  -- c/D is below √2, so the quotient is not past b√2
  quotient_low : quotient * quotient ≤ 2 * (b * b)
  quotient_low =
      let le : quotient * D ≤ b * c = omega (arith, parts) in
      let squares = mul-le _ _ _ _ le le in
      let scaled = mul-le-mul_left (b * b) low in
      le_of_mul-le-mul_right {k = D * D}
      (omega (arith, square_product quotient D, square_product b c, mul_left_comm (b * b) 2 (D * D), mul_assoc 2 (b * b) (D * D)))
      (square_counts D D_counts)

  -- were the next number not past it either, its square would be less than 2b², which is no square, and c/D too far from √2
  quotient_high : 2 * (b * b) < (quotient + 1) * (quotient + 1)
  quotient_high = ⊎_elim
      (λ l. l)
      (λ l.
      let next = quotient + 1 in
      let apart : next * next + 1 ≤ 2 * (b * b) = ⊎_elim
      (λ e. absurd (omega (arith, square_zero b (no_twice next b e), square_counts next (omega arith))))
      (λ e. omega arith)
      (cases_eq (next * next) (2 * (b * b))) in
      let le : b * c + 1 ≤ next * D = omega (arith, parts, mod_below (b * c) D D_counts, add-mul quotient 1 D) in
      let squares = mul-le _ _ _ _ le le in
      let scaled = mul-le-mul_right (D * D) apart in
      let near : b * b * (2 * (D * D)) ≤ b * b * ((c + 1) * (c + 1)) = mul-le-mul_left (b * b) (omega arith) in
      let product : b * (c + 1) ≡ b * c + b = omega (arith, mul-add b c 1) in
      let turned : b * c * b ≡ c * (b * b) = ap (λ k. k * b) (mul_comm b c) ∙ mul_assoc c b b in
      absurd (omega (
        arith,
        square_product next D,
        add-mul (next * next) 1 (D * D),
        mul_assoc 2 (b * b) (D * D),
        mul_left_comm (b * b) 2 (D * D),
        square_product b (c + 1),
        ap (λ k. k * k) product,
        square_sum (b * c) b,
        square_sum (b * c) 1,
        add-mul (2 * c) 1 (b * b),
        mul_assoc 2 c (b * b),
      )))
      (cases_lt (2 * (b * b)) ((quotient + 1) * (quotient + 1)))

  pub quotient_whole : b * c / D ≡ whole_part b
  quotient_whole = whole_only b quotient quotient_low quotient_high
