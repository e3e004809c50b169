-- The rectilinear tariff: a cost is one number, a straight step adds 1, a via 8, and there are no diagonals.
use Rattle.std.specs.Prelude.{if◌then◌else◌, ℕ, ◌+◌, Bool, true, false, Some, None, Option, nat_le, nat_lt}
use Rattle.grid.specs.declared.step.Step.{Step}
use Rattle.grid.specs.declared.step.Step.TheVariants.{Straight, Diagonal, Via}
use Rattle.tariff.specs.Rates.{Rates}

-- a sum past 16,777,216 is refused
abbrev pub within : ℕ → Option ℕ
within n = if nat_le n 16777216 then Some n else None

-- the steps that there are
abbrev pub rectilinear_has : Step → Bool
rectilinear_has Straight = true
rectilinear_has Diagonal = false
rectilinear_has Via = true

-- what a step makes of a cost
abbrev pub rectilinear_after : ℕ → Step → Option ℕ
rectilinear_after c Straight = within (c + 1)
rectilinear_after c Diagonal = None
rectilinear_after c Via = within (c + 8)

-- costs are ordered as numbers, and each is its own level
abbrev pub rectilinear_rates : Rates ℕ
rectilinear_rates = record {
  nothing = 0;
  less = nat_lt;
  has = rectilinear_has;
  after = rectilinear_after;
  level = λ c. c;
  span = 8;
}
