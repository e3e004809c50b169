-- The step between two places is the one that joins them.
use Rattle.std.proofs.Common.{◌≡◌, ℕ, ◌↔◌, Some, Option, arith}
use Rattle.std.proofs.lemmas.Grind.{common_steps}
use Rattle.grid.specs.declared.shape.Shape.{Shape}
use Rattle.grid.specs.declared.step.Step.{Step}
use Rattle.grid.specs.Steps.{Joins, step_between}

-- an answer that is the step between p and q tells which step joins them
pub between_joins : (s : Shape) (p q : ℕ) (o : Option Step) → o ≡ step_between s p q → (k : Step) → (o ≡ Some k) ↔ Joins s k p q
between_joins s p q o e k = grind (arith, common_steps)
