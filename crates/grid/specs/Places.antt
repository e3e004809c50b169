-- The places of a shape, and their numbers.
use Rattle.std.specs.Prelude.{◌≡◌, ℕ, ◌+◌, ◌*◌, ◌/◌, ◌%◌, ◌<◌, Bool, if◌then◌else◌, ◌&&◌, Some, None, Option, nat_lt}
use Rattle.grid.specs.declared.shape.Shape.{Shape}
use Rattle.grid.specs.declared.shape.Coordinates.{Coordinates}

-- how many places a shape has
abbrev pub count_of : Shape → ℕ
count_of s = s.layers * s.rows * s.columns

abbrev pub coordinates : ℕ → ℕ → ℕ → Coordinates
coordinates c r l = record { column = c; row = r; layer = l }

-- the coordinates are those of a place of the shape
pub record Inside (s : Shape) (x : Coordinates) : Type 0 where
  pub column : x.column < s.columns
  pub row : x.row < s.rows
  pub layer : x.layer < s.layers

abbrev pub is_inside : Shape → Coordinates → Bool
is_inside s x = nat_lt x.column s.columns && (nat_lt x.row s.rows && nat_lt x.layer s.layers)

-- the number of a place
abbrev pub number_of : Shape → Coordinates → ℕ
number_of s x = (x.layer * s.rows + x.row) * s.columns + x.column

-- the column, the row and the layer of the place with a number
abbrev pub column_of : Shape → ℕ → ℕ
column_of s p = p % s.columns

abbrev pub row_of : Shape → ℕ → ℕ
row_of s p = p / s.columns % s.rows

abbrev pub layer_of : Shape → ℕ → ℕ
layer_of s p = p / s.columns / s.rows

abbrev pub coordinates_of : Shape → ℕ → Coordinates
coordinates_of s p = coordinates (column_of s p) (row_of s p) (layer_of s p)

-- what is asked of a shape: absent outside it
abbrev pub number_answer : Shape → Coordinates → Option ℕ
number_answer s x = if is_inside s x then Some (number_of s x) else None

abbrev pub coordinates_answer : Shape → ℕ → Option Coordinates
coordinates_answer s p = if nat_lt p (count_of s) then Some (coordinates_of s p) else None

-- THE NUMBERING IS ONE-TO-ONE between the places of the shape and the numbers below their count
pub record OneToOne (s : Shape) : Type 0 where
  -- each place has a number below the count
  pub below : (x : Coordinates) → Inside s x → number_of s x < count_of s
  -- no two places have the same number
  pub once : (x y : Coordinates) → Inside s x → Inside s y → number_of s x ≡ number_of s y → x ≡ y
  -- each number below the count is that of the place at its column, row and layer
  pub each : (p : ℕ) → p < count_of s → Inside s (coordinates_of s p) × (number_of s (coordinates_of s p) ≡ p)
