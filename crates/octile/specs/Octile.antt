-- The octile tariff: a cost is a + b√2, a straight step adds 1, a diagonal √2, a via 8.
use Rattle.std.specs.Prelude.{if◌then◌else◌, ◌≡◌, ℕ, ◌+◌, Bool, true, ◌&&◌, Some, None, Option, nat_le}
use Rattle.grid.specs.declared.step.Step.{Step}
use Rattle.grid.specs.declared.step.Step.TheVariants.{Straight, Diagonal, Via}
use Rattle.surd.specs.declared.Surd.{Surd}
use Rattle.surd.specs.Surds.{surd, is_below, whole_of}
use Rattle.tariff.specs.Rates.{Rates}

-- neither part is past its limit
abbrev pub octile_fits : Surd → Bool
octile_fits c = nat_le c.a 16777216 && nat_le c.b 2097152

-- a cost with a part past its limit is refused
abbrev pub octile_within : ℕ → ℕ → Option Surd
octile_within a b = if octile_fits (surd a b) then Some (surd a b) else None

abbrev pub octile_after : Surd → Step → Option Surd
octile_after x Straight = octile_within (x.a + 1) x.b
octile_after x Diagonal = octile_within x.a (x.b + 1)
octile_after x Via = octile_within (x.a + 8) x.b

-- all three steps are there
abbrev pub octile_rates : Rates Surd
octile_rates = record {
  nothing = surd 0 0;
  less = is_below;
  has = λ k. true;
  after = octile_after;
  level = whole_of;
  span = 8;
}

-- costs worked out
pub record WorkedCosts : Type 0 where
  -- 2√2 is below 3
  pub two_diagonals : octile_rates.less (surd 0 2) (surd 3 0) ≡ true
  -- 1,393 is below 985√2,
  pub near : octile_rates.less (surd 1393 0) (surd 0 985) ≡ true
  -- and both have the level 1,393
  pub near_lower : octile_rates.level (surd 1393 0) ≡ 1393
  pub near_upper : octile_rates.level (surd 0 985) ≡ 1393
