-- What a caller's list holds after a sheet was made on it and a path was laid.
use Rattle.std.specs.Prelude.{◌≡◌, ℕ, ◌<◌, ◌≤◌, if◌then◌else◌, List, length, Ok, Err, Result, slice_index}
use Rattle.grid.specs.declared.shape.Shape.{Shape}
use Rattle.grid.specs.declared.fault.SheetFault.{SheetFault}
use Rattle.grid.specs.Places.{count_of}
use Rattle.model.specs.Paths.{on}
use Rattle.model.specs.Wide.{Made}

-- on a list that is long enough: the net on the places of the path, 0 on the other places, and the entries past the last
-- place as they stood
pub record Wired (s : Shape) (xs ys ps : List ℕ) (n : ℕ) : Type 0 where
  pub places : (q : ℕ) → q < count_of s → slice_index ys q ≡ (if on q ps then n else 0)
  pub past : (q : ℕ) → count_of s ≤ q → slice_index ys q ≡ slice_index xs q

-- a path that is refused leaves the list as making the sheet left it
abbrev pub Wires : Shape → List ℕ → List ℕ → List ℕ → ℕ → Result (Unit {0}) SheetFault → Type 0
Wires s xs ys ps n (Ok u) = count_of s ≤ length xs → Wired s xs ys ps n
Wires s xs ys ps n (Err f) = Made s xs ys
