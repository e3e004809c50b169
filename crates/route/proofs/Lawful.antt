-- The laws of a tariff as the search uses them.
use Rattle.std.specs.Prelude.{◌≡◌, ℕ, ◌≤◌, true, false, List, length, is_some, Some}
use Rattle.grid.specs.declared.step.Step.{Step}
use Rattle.tariff.specs.Rates.{Rates, charge, AllHad}

-- `limit` is the number of steps up to which no charge is refused
pub record Lawful {C : Type 0} (t : Rates C) (limit : ℕ) : Type 0 where
  pub one_way : (a b : C) → t.less a b ≡ true → t.less b a ≡ false
  pub trans : (a b c : C) → t.less a b ≡ true → t.less b c ≡ true → t.less a c ≡ true
  pub same : (a b : C) → t.less a b ≡ false → t.less b a ≡ false → a ≡ b
  pub grows : (a b : C) (k : Step) → t.after a k ≡ Some b → t.less a b ≡ true
  pub keeps : (a b x y : C) (k : Step) → t.less b a ≡ false → t.after a k ≡ Some x → t.after b k ≡ Some y → t.less y x ≡ false
  pub lasts : (ks : List Step) → AllHad t ks → length ks ≤ limit → is_some (charge t ks) ≡ true
