-- What steps and refusals are written as.
use Rattle.std.specs.Prelude.{ℕ, List, ◌++◌, codes, decimal}
use Rattle.grid.specs.declared.step.Step.{Step}
use Rattle.grid.specs.declared.step.Step.TheVariants.{Straight, Diagonal, Via}
use Rattle.grid.specs.Faults.{Refusal}

-- the word for a kind of step
abbrev pub step_text : Step → List ℕ
step_text Straight = codes "straight"
step_text Diagonal = codes "diagonal"
step_text Via = codes "via"

-- the number and the value, with a space between
abbrev pub refusal_text : Refusal → List ℕ
refusal_text r = decimal r.number ++ (codes " " ++ decimal r.named)
