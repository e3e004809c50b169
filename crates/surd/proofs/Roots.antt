-- The whole part of b√2.
use Rattle.std.proofs.Common.{if◌then◌else◌, ◌≡◌, ℕ, zero, suc, ◌+◌, ◌*◌, ◌<◌, ◌≤◌, Bool, true, false, nat_le, refl, arith}
use Rattle.std.proofs.lemmas.Bool.{leb-true, leb-false}
use Rattle.surd.specs.Surds.{root_up_to, whole_part}
use Rattle.surd.specs.Squares.{square_sum, square_double, square_le, square_lt}

-- one step of the recursion
step_down : (c : Bool) (m t r : ℕ) → nat_le (suc t * suc t) m ≡ c → m < (suc t + 1) * (suc t + 1) →
    (m < (t + 1) * (t + 1) → (r * r ≤ m) × (m < (r + 1) * (r + 1))) →
    let s : ℕ = if c then suc t else r in (s * s ≤ m) × (m < (s + 1) * (s + 1))
step_down true m t r e high rest = (leb-true _ m e, high)
step_down false m t r e high rest = rest (let k = leb-false (suc t * suc t) m e in let f : suc t ≡ t + 1 = omega arith in rw f at k)

-- the root's square is not past m, and the next square is
root_squares : (m t : ℕ) → m < (t + 1) * (t + 1) → (root_up_to m t * root_up_to m t ≤ m) × (m < (root_up_to m t + 1) * (root_up_to m t + 1))
unfolding root_up_to
root_squares m zero high = (omega arith, high)
root_squares m (suc t) high = step_down _ m t (root_up_to m t) refl high (root_squares m t)

pub whole_squares : (b : ℕ) → (whole_part b * whole_part b ≤ 2 * (b * b)) × (2 * (b * b) < (whole_part b + 1) * (whole_part b + 1))
unfolding whole_part
whole_squares b = root_squares (2 * (b * b)) (2 * b) (omega (arith, square_sum (2 * b) 1, square_double b))

-- the square rule fixes the whole part
pub whole_only : (b t : ℕ) → t * t ≤ 2 * (b * b) → 2 * (b * b) < (t + 1) * (t + 1) → t ≡ whole_part b
whole_only b t low high =
    let w = whole_squares b in
    let up : t < whole_part b + 1 = square_lt t (whole_part b + 1) (omega arith) in
    let down : whole_part b < t + 1 = square_lt (whole_part b) (t + 1) (omega arith) in
    omega arith

pub whole_small : (b : ℕ) → whole_part b ≤ 2 * b
whole_small b = square_le (whole_part b) (2 * b) (omega (arith, whole_squares b, square_double b))

-- one more in b raises the whole part by 1 or 2
pub whole_step : (b : ℕ) → (whole_part b + 1 ≤ whole_part (b + 1)) × (whole_part (b + 1) ≤ whole_part b + 2)
whole_step b =
    let r = whole_part b in
    let s = whole_part (b + 1) in
    let x = whole_squares b in
    let y = whole_squares (b + 1) in
    let next = square_sum b 1 in
    let one = square_sum r 1 in
    let three = square_sum r 3 in
    let small = whole_small b in
    let large : b < r + 1 = square_lt b (r + 1) (omega arith) in
    let up : r + 1 < s + 1 = square_lt (r + 1) (s + 1) (omega arith) in
    let down : s < r + 3 = square_lt s (r + 3) (omega arith) in
    (omega arith, omega arith)
