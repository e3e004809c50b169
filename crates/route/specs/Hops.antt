-- The places next to a place, with the steps to them.
use Rattle.std.specs.Prelude.{◌≡◌, ℕ, ◌⊎◌, List, [], ◌∷◌, Some, None, Option}
use Rattle.grid.specs.declared.shape.Shape.{Shape}
use Rattle.grid.specs.declared.step.Step.{Step}
use Rattle.grid.specs.declared.step.Direction.{Direction}
use Rattle.grid.specs.Steps.{kind, order, neighbour_of}

-- a step, and the place at its other end
pub record Hop : Type 0 where
  pub by : Step
  pub to : ℕ

abbrev pub hop : Step → ℕ → Hop
hop k q = record { by = k; to = q }

abbrev pub Among : Hop → List Hop → Type 0
Among h [] = ⊥
Among h (x ∷ xs) = (h ≡ x) ⊎ Among h xs

-- a neighbour, where there is one, before the others
abbrev pub put_in : Step → Option ℕ → List Hop → List Hop
put_in k None hs = hs
put_in k (Some q) hs = hop k q ∷ hs

-- the neighbours of the place p in some directions
unfoldable pub gather : Shape → ℕ → List Direction → List Hop
gather s p [] = []
gather s p (d ∷ ds) = put_in (kind d) (neighbour_of s p d) (gather s p ds)

-- the neighbours of the place p, in the trace-back order
abbrev pub around : Shape → ℕ → List Hop
around s p = gather s p order
