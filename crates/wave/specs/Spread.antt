-- What a wave, or a search to a goal, leaves in the labels.
use Rattle.std.specs.Prelude.{◌≡◌, ℕ, ◌+◌, List, [], ◌∷◌, Some, None, Option, slice_index_or}
use Rattle.tariff.specs.Rates.{Rates}
use Rattle.route.specs.Search.{Maze, least}
use Rattle.route.specs.Wire.{Known}

-- how many places have a label, and how many have none
abbrev pub labelled : {C : Type 0} → List (Option C) → ℕ
labelled [] = 0
labelled (Some _ ∷ xs) = labelled xs + 1
labelled (None ∷ xs) = labelled xs

abbrev pub unlabelled : {C : Type 0} → List (Option C) → ℕ
unlabelled [] = 0
unlabelled (Some _ ∷ xs) = unlabelled xs
unlabelled (None ∷ xs) = unlabelled xs + 1

-- the goal has no label, if there is a goal
abbrev pub Missed : {C : Type 0} → Option ℕ → List (Option C) → Type 0
Missed None xs = Unit {0}
Missed (Some g) xs = slice_index_or xs g None ≡ None

-- each label is a least cost, with the labels that it comes from; n places are labelled; and where the goal was missed every place
-- has its least cost
pub record Spread {C : Type 0} (t : Rates C) (m : Maze) (goal : Option ℕ) (xs : List (Option C)) (n : ℕ) : Type 0 where
  pub known : Known t m 2097152 (λ p. slice_index_or xs p None)
  pub count : n ≡ labelled xs
  pub whole : Missed goal xs → (p : ℕ) → slice_index_or xs p None ≡ least t m 2097152 p
