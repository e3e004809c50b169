-- The rectilinear tariff keeps the laws.
use Rattle.std.specs.Prelude.{◌≡◌, ℕ, suc, ◌+◌, ◌*◌, ◌<◌, ◌≤◌, true, false, Some, None, refl}
use Rattle.std.proofs.Common.{arith}
use Rattle.std.proofs.lemmas.Bool.Decides.{nat_tests}
use Rattle.grid.specs.declared.step.Step.{Step}
use Rattle.grid.specs.declared.step.Step.TheVariants.{Straight, Diagonal, Via}
use Rattle.tariff.specs.Rates.{Laws}
use Rattle.tariff.proofs.Lasting.{lasting}
use Rattle.rectilinear.specs.Rectilinear.{within, rectilinear_has, rectilinear_after, rectilinear_rates}

-- a sum that is not refused stays what it is
some_within : (n d : ℕ) → within n ≡ Some d → d ≡ n
some_within n d h = grind (arith, nat_tests)

within_some : (n : ℕ) → n ≤ 16777216 → within n ≡ Some n
within_some n h = grind (arith, nat_tests)

-- what a step adds
price : Step → ℕ
price Straight = 1
price Diagonal = 0
price Via = 8

-- a step that is not refused adds its price, which is 1 to 8
added : (c d : ℕ) (k : Step) → rectilinear_after c k ≡ Some d → (d ≡ c + price k) × (1 ≤ price k) × (price k ≤ 8)
unfolding price
added c d Straight h = (some_within (c + 1) d h, omega arith, omega arith)
added c d Diagonal h = absurd (let z : ◌≡◌ {A = ℕ} 0 1 = cc in omega arith)
added c d Via h = (some_within (c + 8) d h, omega arith, omega arith)

lacking : (c : ℕ) (k : Step) → rectilinear_has k ≡ false → rectilinear_after c k ≡ None
lacking c Straight h = cc
lacking c Diagonal h = refl
lacking c Via h = cc

-- n steps cost at most 8 each
goes_on : (n c : ℕ) (k : Step) → c ≤ 8 * n → n < 2097152 → rectilinear_has k ≡ true → (d : ℕ) × (rectilinear_after c k ≡ Some d) × (d ≤ 8 * suc n)
goes_on n c Straight low h had = (c + 1, within_some (c + 1) (omega arith), omega arith)
goes_on n c Diagonal low h had = absurd (let z : ◌≡◌ {A = ℕ} 0 1 = cc in omega arith)
goes_on n c Via low h had = (c + 8, within_some (c + 8) (omega arith), omega arith)

pub rectilinear_laws : Laws rectilinear_rates
rectilinear_laws = record {
  irreflexive = λ a. grind (arith, nat_tests);
  transitive = λ a b c p q. grind (arith, nat_tests);
  same = λ a b p q. grind (arith, nat_tests);
  grows = λ a b k h. let e = added a b k h in grind (arith, nat_tests);
  keeps = λ a b x y k l p q. let e = added a x k p in let f = added b y k q in grind (arith, nat_tests);
  lacks = lacking;
  lasts = lasting rectilinear_rates (λ n c. c ≤ 8 * n) (omega arith) goes_on;
  ranks = λ a b p l. grind (arith, nat_tests);
  rises = λ a b k p h. let e = added a b k h in (omega arith, omega arith);
}
