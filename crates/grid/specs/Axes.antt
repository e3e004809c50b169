-- The coordinates of a place, one by one.
use Rattle.std.specs.Prelude.{◌≡◌, ℕ}
use Rattle.grid.specs.declared.axis.Axis.{Axis}

-- the coordinate, its bound and its stride
abbrev pub IsAxis : Axis → ℕ → ℕ → ℕ → Type 0
IsAxis a x bound stride = (a.at ≡ x) × (a.bound ≡ bound) × (a.stride ≡ stride)
