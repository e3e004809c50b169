-- A move on place numbers: a column, a row or a layer more or less is a fixed stride.
use Rattle.std.specs.Prelude.{ℕ, ◌+◌, ◌-◌, ◌*◌, if◌then◌else◌, Some, None, Option, nat_lt}
use Rattle.grid.specs.declared.shape.Shape.{Shape}
use Rattle.grid.specs.declared.shape.Coordinates.{Coordinates}
use Rattle.grid.specs.Steps.{Move, Back, Stay, Forth, Way}

-- from the place p with the coordinate x one back, and one forth
abbrev pub stride_back : ℕ → ℕ → ℕ → Option ℕ
stride_back x p stride = if nat_lt 0 x then Some (p - stride) else None

abbrev pub stride_forth : ℕ → ℕ → ℕ → ℕ → Option ℕ
stride_forth x bound p stride = if nat_lt (x + 1) bound then Some (p + stride) else None

-- the same for any move; what was absent stays absent
abbrev pub slide : Move → ℕ → ℕ → ℕ → Option ℕ → Option ℕ
slide Stay x bound stride o = o
slide Back x bound stride None = None
slide Back x bound stride (Some p) = stride_back x p stride
slide Forth x bound stride None = None
slide Forth x bound stride (Some p) = stride_forth x bound p stride

-- the neighbour of the place p at the coordinates x, by strides
abbrev pub strides : Shape → Coordinates → ℕ → Way → Option ℕ
strides s x p w =
    slide w.through x.layer s.layers (s.columns * s.rows)
    (slide w.along x.row s.rows s.columns (slide w.across x.column s.columns 1 (Some p)))
