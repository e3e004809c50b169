-- Clearance: what is open keeps clear of what is closed.
use Rattle.std.specs.Prelude.{◌≡◌, ℕ, ◌<◌, Bool, true, ◌&&◌, ◌⊎◌, List, [], ◌∷◌, Some, None, Option}
use Rattle.grid.specs.declared.step.Step.TheVariants.{Straight, Diagonal}
use Rattle.grid.specs.declared.step.Direction.{Direction}
use Rattle.grid.specs.declared.step.Direction.TheVariants.{West, East, North, South, NorthWest, NorthEast, SouthWest, SouthEast}
use Rattle.grid.specs.Places.{count_of}
use Rattle.grid.specs.Steps.{Joins, neighbour_of}
use Rattle.model.specs.Sheets.{Ground}

-- the directions of straight and diagonal steps
abbrev pub around : List Direction
around = West ∷ East ∷ North ∷ South ∷ NorthWest ∷ NorthEast ∷ SouthWest ∷ SouthEast ∷ []

-- a neighbour outside the board is skipped, any other has to be open
abbrev pub is_clear : Ground → ℕ → Option ℕ → Bool
is_clear g n None = true
is_clear g n (Some q) = g.opened q n

-- the neighbours of the place p in these directions are clear for the net n
unfoldable pub all_clear : Ground → ℕ → ℕ → List Direction → Bool
all_clear g p n [] = true
all_clear g p n (d ∷ ds) = is_clear g n (neighbour_of g.shape p d) && all_clear g p n ds

-- THE GROUND UNDER CLEARANCE: a place is open where it and its straight and diagonal neighbours are open below
abbrev pub clear_ground : Ground → Ground
clear_ground g = record { shape = g.shape; opened = λ p n. g.opened p n && all_clear g p n around }

-- The place p is in the shape, and every place of the shape that is p, or that a straight or a diagonal step joins to p,
-- is open to the net n.
pub record ClearAround (g : Ground) (p n : ℕ) : Type 0 where
  pub inside : p < count_of g.shape
  pub clear : (q : ℕ) → q < count_of g.shape → (q ≡ p) ⊎ (Joins g.shape Straight p q ⊎ Joins g.shape Diagonal p q) → g.opened q n ≡ true
