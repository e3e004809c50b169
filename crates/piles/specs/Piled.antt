-- Sheets under layers, and what a path that is laid through layers leaves in the copper of the sheet below.
use Rattle.std.specs.Prelude.{◌≡◌, ℕ, if◌then◌else◌, List, Ok, Err, Result}
use Rattle.grid.specs.declared.fault.SheetFault.{SheetFault}
use Rattle.model.specs.Clear.{clear_ground}
use Rattle.model.specs.Sheets.{Metal, Sheet, sheet}
use Rattle.model.specs.Paths.{on}
use Rattle.keep_out.specs.declared.row.Row.{Row}
use Rattle.keep_out.specs.KeptOut.{apart_ground}

-- a sheet under clearance, and one under a keep-out that holds these rows
abbrev pub cleared : Sheet → Sheet
cleared b = sheet (clear_ground b.area) b.metal

abbrev pub apart : List Row → Sheet → Sheet
apart xs b = sheet (apart_ground xs b.area) b.metal

-- a grant leaves the net on each place of the path, and all other copper and the limit as they stood; a refusal leaves all copper as it stood
abbrev pub CopperCovered : Metal → Metal → List ℕ → ℕ → Result (Unit {0}) SheetFault → Type 0
CopperCovered m m' path n (Ok u) = (m'.limit ≡ m.limit) × ((q : ℕ) → m'.copper q ≡ (if on q path then n else m.copper q))
CopperCovered m m' path n (Err f) = m' ≡ m
