-- The rule of the table of whole parts, proved at all of its entries by one test that is computed.
use Rattle.std.proofs.Common.{◌≡◌, ℕ, zero, suc, ◌+◌, ◌*◌, ◌<◌, Bool, true, ◌&&◌, nat_le, nat_lt, List, [], ◌∷◌, length, slice_index, subst, arith}
use Rattle.std.proofs.lemmas.Bool.{and_parts, leb-true, ltb-true}
use Rattle.surd.specs.Surds.{WholeParts}
use Rattle.surd.proofs.Roots.{whole_only}

-- the test passes at each entry of the list and its place, counted from i
abbrev pub every : (ℕ → ℕ → Bool) → ℕ → List ℕ → Bool
every test i [] = true
every test i (x ∷ xs) = test i x && every test (suc i) xs

each : (test : ℕ → ℕ → Bool) (xs : List ℕ) (i : ℕ) → every test i xs ≡ true → (k : ℕ) → k < length xs → test (i + k) (slice_index xs k) ≡ true
each test [] i all k h = absurd (omega arith)
each test (x ∷ xs) i all zero h = let e : i ≡ i + 0 = omega arith in subst (λ m. test m x ≡ true) e (and_parts _ _ all).0
each test (x ∷ xs) i all (suc k) h =
    let e : suc i + k ≡ i + suc k = omega arith in
    subst (λ m. test m (slice_index xs k) ≡ true) e (each test xs (suc i) (and_parts _ _ all).1 k (omega arith))

-- the square rule at b
abbrev pub is_whole : ℕ → ℕ → Bool
is_whole b t = nat_le (t * t) (2 * (b * b)) && nat_lt (2 * (b * b)) ((t + 1) * (t + 1))

pub whole_parts : (table : List ℕ) → every is_whole 0 table ≡ true → WholeParts table
whole_parts table all = record {
  entries = λ b h.
      let e : 0 + b ≡ b = omega arith in
      let parts = and_parts _ _ (subst (λ k. is_whole k (slice_index table b) ≡ true) e (each is_whole table 0 all b h)) in
      whole_only b (slice_index table b) (leb-true _ _ parts.0) (ltb-true _ _ parts.1);
}
