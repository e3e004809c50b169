-- What raises a number a + b√2.
use Rattle.std.proofs.Common.{◌≡◌, ℕ, ◌+◌, ◌-◌, ◌<◌, ◌≤◌, true, ⊎_elim, arith}
use Rattle.std.proofs.lemmas.Bool.{cases_lt, lt-ltb}
use Rattle.std.proofs.lemmas.Nat.{mul-le}
use Rattle.surd.specs.declared.Surd.{Surd}
use Rattle.surd.specs.Surds.{is_below, whole_part, whole_of}
use Rattle.surd.specs.Squares.{square_zero, square_counts}
use Rattle.surd.specs.OrderLaws.{Rise, below_from}
use Rattle.surd.proofs.Roots.{whole_squares}

pub below_more : (x y : Surd) → x.a ≤ y.a → x.b ≤ y.b → x.a + x.b < y.a + y.b → is_below x y ≡ true
below_more x y l m h =
    let zero_a = square_zero (x.a - y.a) (omega arith) in
    let zero-b = square_zero (x.b - y.b) (omega arith) in
    lt-ltb _ _ (⊎_elim
    (λ up. omega (arith, square_counts (y.a - x.a) (omega arith)))
    (λ up. omega (arith, square_counts (y.b - x.b) (omega arith)))
    (cases_lt x.a y.a))

pub below_shift : (x y x' y' : Surd) (m n : ℕ) → x'.a ≡ x.a + m → x'.b ≡ x.b + n → y'.a ≡ y.a + m → y'.b ≡ y.b + n →
    is_below x y ≡ true → is_below x' y' ≡ true
below_shift x y x' y' m n xa xb ya yb h =
    let p : x'.a - y'.a ≡ x.a - y.a = omega arith in
    let q : x'.b - y'.b ≡ x.b - y.b = omega arith in
    let r : y'.a - x'.a ≡ y.a - x.a = omega arith in
    let t : y'.b - x'.b ≡ y.b - x.b = omega arith in
    rw (p, q, r, t) h

pub below_whole : (x y : Surd) → whole_of x < whole_of y → is_below x y ≡ true
below_whole x y h =
    let lower = whole_squares x.b in
    let upper = whole_squares y.b in
    let r = whole_part x.b in
    let P = y.a + whole_part y.b - x.a in
    let far = mul-le (r + 1) (r + 1) P P (omega arith) (omega arith) in
    let e : Rise x y 1 = record {
      P = P;
      q = whole_part y.b;
      V = y.b;
      u = x.b;
      in_a = omega arith;
      in_b = omega arith;
      b_made_good = omega arith;
      a_made_good = omega arith;
      by = omega arith;
    } in
    below_from x y 1 (omega arith) e
