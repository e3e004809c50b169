-- The number of a refusal, and the value that it names.
use Rattle.std.specs.Prelude.{ℕ}
use Rattle.grid.specs.declared.fault.SheetFault.{SheetFault}
use Rattle.grid.specs.declared.fault.SheetFault.TheVariants.{PastLimits, ShortList, OutsideShape, NoNet, Closed, NoSpare, NotBare, CarriesNone}

pub record Refusal : Type 0 where
  pub number : ℕ
  pub named : ℕ

abbrev pub refusal : ℕ → ℕ → Refusal
refusal n v = record { number = n; named = v }

-- the faults of shapes and sheets
abbrev pub sheet_refusal : SheetFault → Refusal
sheet_refusal PastLimits = refusal 1 0
sheet_refusal (ShortList entries) = refusal 2 entries
sheet_refusal (OutsideShape p) = refusal 3 p
sheet_refusal (NoNet n) = refusal 4 n
sheet_refusal (Closed p) = refusal 5 p
sheet_refusal (NoSpare bare) = refusal 6 bare
sheet_refusal (NotBare p) = refusal 7 p
sheet_refusal (CarriesNone p) = refusal 8 p
