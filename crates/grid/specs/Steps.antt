-- Which places a step joins, and the ten directions in which steps go.
use Rattle.std.specs.Prelude.{◌≡◌, ℕ, ◌+◌, ◌-◌, ◌<◌, if◌then◌else◌, ◌&&◌, ◌⊎◌, ◌↔◌, List, [], ◌∷◌, Some, None, Option, ◌==◌, nat_lt}
use Rattle.std.specs.Int.{abs_diff}
use Rattle.grid.specs.declared.shape.Shape.{Shape}
use Rattle.grid.specs.declared.shape.Coordinates.{Coordinates}
use Rattle.grid.specs.declared.step.Step.{Step}
use Rattle.grid.specs.declared.step.Step.TheVariants.{Straight, Diagonal, Via}
use Rattle.grid.specs.declared.step.Direction.{Direction}
use Rattle.grid.specs.declared.step.Direction.TheVariants.{West, East, North, South, NorthWest, NorthEast, SouthWest, SouthEast, Up, Down}
use Rattle.grid.specs.Places.{count_of, coordinates, number_of, coordinates_of}

-- two numbers that differ by 1
abbrev pub Beside : ℕ → ℕ → Type 0
Beside a b = (a ≡ b + 1) ⊎ (b ≡ a + 1)

-- A straight step goes between neighbours in a row or a column of one layer.
-- A diagonal step goes between places of one layer whose columns and rows both differ by 1.
-- A via goes between neighbouring layers at one column and row.
abbrev pub Meets : Step → Coordinates → Coordinates → Type 0
Meets Straight x y =
    (x.layer ≡ y.layer) × (((x.row ≡ y.row) × Beside x.column y.column) ⊎ ((x.column ≡ y.column) × Beside x.row y.row))
Meets Diagonal x y = (x.layer ≡ y.layer) × Beside x.column y.column × Beside x.row y.row
Meets Via x y = (x.column ≡ y.column) × (x.row ≡ y.row) × Beside x.layer y.layer

-- A STEP OF THE KIND k JOINS THE PLACES p AND q of the shape
pub record Joins (s : Shape) (k : Step) (p q : ℕ) : Type 0 where
  pub from : p < count_of s
  pub to : q < count_of s
  pub meets : Meets k (coordinates_of s p) (coordinates_of s q)

-- what a direction does to a column, a row or a layer: one less, nothing, one more
pub data Move : Type 0 where
  Back : Move
  Stay : Move
  Forth : Move

-- a number moved, where it stays below the bound
abbrev pub moved : Move → ℕ → ℕ → Option ℕ
moved Back x bound = if nat_lt 0 x then Some (x - 1) else None
moved Stay x bound = Some x
moved Forth x bound = if nat_lt (x + 1) bound then Some (x + 1) else None

pub record Way : Type 0 where
  pub across : Move
  pub along : Move
  pub through : Move

-- the moves of the column, the row and the layer
abbrev pub way : Direction → Way
way West = record { across = Back; along = Stay; through = Stay }
way East = record { across = Forth; along = Stay; through = Stay }
way North = record { across = Stay; along = Back; through = Stay }
way South = record { across = Stay; along = Forth; through = Stay }
way NorthWest = record { across = Back; along = Back; through = Stay }
way NorthEast = record { across = Forth; along = Back; through = Stay }
way SouthWest = record { across = Back; along = Forth; through = Stay }
way SouthEast = record { across = Forth; along = Forth; through = Stay }
way Up = record { across = Stay; along = Stay; through = Back }
way Down = record { across = Stay; along = Stay; through = Forth }

abbrev pub kind : Direction → Step
kind West = Straight
kind East = Straight
kind North = Straight
kind South = Straight
kind NorthWest = Diagonal
kind NorthEast = Diagonal
kind SouthWest = Diagonal
kind SouthEast = Diagonal
kind Up = Via
kind Down = Via

-- THE TRACE-BACK ORDER
abbrev pub order : List Direction
order = West ∷ East ∷ North ∷ South ∷ NorthWest ∷ NorthEast ∷ SouthWest ∷ SouthEast ∷ Up ∷ Down ∷ []

-- the number of the place at three coordinates, if there are all three
abbrev pub number_at : Shape → Option ℕ → Option ℕ → Option ℕ → Option ℕ
number_at s None r l = None
number_at s (Some c) None l = None
number_at s (Some c) (Some r) None = None
number_at s (Some c) (Some r) (Some l) = Some (number_of s (coordinates c r l))

-- the neighbour of coordinates: each is moved as the direction says
abbrev pub beyond : Shape → Coordinates → Way → Option ℕ
beyond s x w = number_at s (moved w.across x.column s.columns) (moved w.along x.row s.rows) (moved w.through x.layer s.layers)

-- the neighbour of the place p in the direction d; absent outside the shape
unfoldable pub neighbour_of : Shape → ℕ → Direction → Option ℕ
neighbour_of s p d = if nat_lt p (count_of s) then beyond s (coordinates_of s p) (way d) else None

-- d is among ds
abbrev pub Among : Direction → List Direction → Type 0
Among d [] = ⊥
Among d (x ∷ xs) = (d ≡ x) ⊎ Among d xs

-- no direction stands twice in the list
abbrev pub Distinct : List Direction → Type 0
Distinct [] = Unit {0}
Distinct (x ∷ xs) = (Among x xs → ⊥) × Distinct xs

-- THE DIRECTIONS GIVE EXACTLY THE JOINED PLACES, each once, with its kind
pub record DirectionsAreExact : Type 0 where
  -- the order has every direction, and none twice
  pub all : (d : Direction) → Among d order
  pub distinct : Distinct order
  -- a step of the kind k joins p and q exactly if q is p's neighbour in a direction of that kind
  pub joined : (s : Shape) (p q : ℕ) (k : Step) → Joins s k p q ↔ ((d : Direction) × (kind d ≡ k) × (neighbour_of s p d ≡ Some q))
  -- and that in one direction only
  pub once : (s : Shape) (p q : ℕ) (d e : Direction) → neighbour_of s p d ≡ Some q → neighbour_of s p e ≡ Some q → d ≡ e
  -- joining is symmetric, and at most one kind of step joins two places
  pub symmetric : (s : Shape) (p q : ℕ) (k : Step) → Joins s k p q → Joins s k q p
  pub one_kind : (s : Shape) (p q : ℕ) (j k : Step) → Joins s j p q → Joins s k p q → j ≡ k

-- the kind of step that has these gaps between columns, rows and layers
abbrev pub kind_of_gaps : ℕ → ℕ → ℕ → Option Step
kind_of_gaps c r l =
    if l == 0
    then (if c + r == 1 then Some Straight else (if c == 1 && r == 1 then Some Diagonal else None))
    else (if l == 1 && c + r == 0 then Some Via else None)

abbrev pub kind_between : Coordinates → Coordinates → Option Step
kind_between x y = kind_of_gaps (abs_diff x.column y.column) (abs_diff x.row y.row) (abs_diff x.layer y.layer)

-- the step that joins p and q, if one does
abbrev pub step_between : Shape → ℕ → ℕ → Option Step
step_between s p q = if nat_lt p (count_of s) && nat_lt q (count_of s) then kind_between (coordinates_of s p) (coordinates_of s q) else None
