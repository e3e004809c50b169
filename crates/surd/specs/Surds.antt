-- The numbers a + b√2.
use Rattle.std.specs.Prelude.{if◌then◌else◌, ◌≡◌, ℕ, zero, suc, ◌+◌, ◌-◌, ◌*◌, ◌<◌, Bool, List, ◌++◌, length, codes, decimal, nat_le, nat_lt, slice_index}
use Rattle.std.specs.Ordering.{nat_cmp}
use Rattle.std.specs.declared.cmp.Ordering.{Ordering}
use Rattle.surd.specs.declared.Surd.{Surd}

-- a + b√2
abbrev pub surd : ℕ → ℕ → Surd
surd a b = record { a = a; b = b }

-- the square of the difference in a, and twice that of the difference in b, each where x has more; the difference is 0 where x has less
abbrev pub excess : Surd → Surd → ℕ
excess x y = (x.a - y.a) * (x.a - y.a) + 2 * ((x.b - y.b) * (x.b - y.b))

-- the order, in whole numbers: where x has less in one part and more in the other, it weighs the square of the difference in a against
-- twice that of the difference in b
abbrev pub is_below : Surd → Surd → Bool
is_below x y = nat_lt (excess x y) (excess y x)

-- the same as an answer of three: the number that exceeds the other by more is the greater
abbrev pub order : Surd → Surd → Ordering
order x y = nat_cmp (excess x y) (excess y x)

-- q times what x comes to, where the fraction p/q is taken for √2
abbrev pub at : Surd → ℕ → ℕ → ℕ
at x p q = x.a * q + x.b * p

-- x is less than y as real numbers: it is so where a fraction below √2 is taken for √2, and where one above it is, hence at √2 between them
pub record Separated (x y : Surd) : Type 0 where
  -- the fraction p/q below √2
  pub p : ℕ
  pub q : ℕ
  pub q_counts : 0 < q
  pub under : p * p < 2 * (q * q)
  pub less_under : at x p q < at y p q
  -- the fraction P/Q above √2
  pub P : ℕ
  pub Q : ℕ
  pub Q_counts : 0 < Q
  pub over : 2 * (Q * Q) < P * P
  pub less_over : at x P Q < at y P Q

-- the greatest t up to the second number with t² ≤ m
unfoldable pub root_up_to : ℕ → ℕ → ℕ
root_up_to m zero = 0
root_up_to m (suc t) = if nat_le (suc t * suc t) m then suc t else root_up_to m t

-- the whole part of b√2: the greatest t with t² ≤ 2b², and no such t is past 2b
unfoldable pub whole_part : ℕ → ℕ
whole_part b = root_up_to (2 * (b * b)) (2 * b)

-- a table whose entry at b is the whole part of b√2
pub record WholeParts (table : List ℕ) : Type 0 where
  pub entries : (b : ℕ) → b < length table → slice_index table b ≡ whole_part b

-- the whole part of a + b√2
abbrev pub whole_of : Surd → ℕ
whole_of x = x.a + whole_part x.b

-- the bytes of (a, b)
abbrev pub written : Surd → List ℕ
written x = codes "(" ++ (decimal x.a ++ (codes ", " ++ (decimal x.b ++ codes ")")))
