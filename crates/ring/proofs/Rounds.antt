-- The rows from one on round a ring: those from it up to the last, and then those before it.
use Rattle.std.proofs.Common.{◌≡◌, ℕ, ◌+◌, ◌-◌, ◌%◌, ◌<◌, ◌≤◌, None, Some, Option, sym, ap, ◌∙◌, ⊎_elim, mod-eq_of_lt, arith}
use native.Mathlib.Nat.{mod-eq-sub-mod}
use Rattle.std.proofs.lemmas.Bool.{cases_lt}
use Rattle.ring.specs.declared.turning.Bucket.{Bucket}
use Rattle.ring.specs.Rings.{FoundIn, Found}

module _ (heads : ℕ → Option ℕ) (rows from : ℕ) (inside : from < rows) where
  -- the rows up to the last
  straight : (j : ℕ) → from + j < rows → (from + j) % rows ≡ from + j
  straight j l = mod-eq_of_lt l

  -- and those from the first on
  round : (j : ℕ) → j < rows → rows ≤ from + j → (from + j) % rows ≡ from + j - rows
  round j lj ge = let l : from + j - rows < rows = omega arith in mod-eq-sub-mod ge ∙ mod-eq_of_lt l

  pub found_ahead : (b : Bucket) → FoundIn heads from rows (Some b) → Found heads rows from (Some b)
  found_ahead b f =
      let least = f.least in
      let most = f.most in
      let e : from + (b.row - from) ≡ b.row = omega arith in
      record {
        ahead = b.row - from;
        near = omega arith;
        here = sym (straight (b.row - from) (omega arith) ∙ e);
        passed = λ j l. ap heads (straight j (omega arith)) ∙ f.passed (from + j) (omega arith) (omega arith);
        head_is = f.head_is;
      }

  module _ (none : FoundIn heads from rows None) where
    pub found_behind : (b : Bucket) → FoundIn heads 0 from (Some b) → Found heads rows from (Some b)
    found_behind b f =
        let most = f.most in
        let k = rows - from + b.row in
        let e : from + k - rows ≡ b.row = omega arith in
        record {
          ahead = k;
          near = omega arith;
          here = sym (round k (omega arith) (omega arith) ∙ e);
          passed = λ j l. ⊎_elim
              (λ s. ap heads (straight j s) ∙ none (from + j) (omega arith) s)
              (λ s. ap heads (round j (omega arith) s) ∙ f.passed (from + j - rows) (omega arith) (omega arith))
              (cases_lt (from + j) rows);
          head_is = f.head_is;
        }

    pub found_none : FoundIn heads 0 from None → Found heads rows from None
    found_none f j l = ⊎_elim
        (λ s. ap heads (straight j s) ∙ none (from + j) (omega arith) s)
        (λ s. ap heads (round j l s) ∙ f (from + j - rows) (omega arith) (omega arith))
        (cases_lt (from + j) rows)

    pub found_rest : (o : Option Bucket) → FoundIn heads 0 from o → Found heads rows from o
    found_rest None f = found_none f
    found_rest (Some b) f = found_behind b f
