-- What the making of a shape answers.
use Rattle.std.specs.Prelude.{ℕ, Bool, if◌then◌else◌, ◌&&◌, Ok, Err, Result, nat_le}
use Rattle.grid.specs.declared.shape.Shape.{Shape}
use Rattle.grid.specs.declared.fault.SheetFault.{SheetFault}
use Rattle.grid.specs.Faults.{Refusal, refusal, sheet_refusal}

-- the three numbers of a shape
pub record Size : Type 0 where
  pub columns : ℕ
  pub rows : ℕ
  pub layers : ℕ

abbrev pub size : ℕ → ℕ → ℕ → Size
size c r l = record { columns = c; rows = r; layers = l }

-- an answer as its numbers tell it
abbrev pub told : Result Shape SheetFault → Result Size Refusal
told (Ok s) = Ok (size s.columns s.rows s.layers)
told (Err f) = Err (sheet_refusal f)

-- 1 to most
abbrev pub ranges : ℕ → ℕ → Bool
ranges x most = nat_le 1 x && nat_le x most

-- 1 to 512 columns, 1 to 512 rows, 1 to 8 layers; else refusal 1, which names 0
abbrev pub shape_answer : ℕ → ℕ → ℕ → Result Size Refusal
shape_answer c r l = if ranges c 512 && (ranges r 512 && ranges l 8) then Ok (size c r l) else Err (refusal 1 0)
