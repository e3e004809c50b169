-- Places in a list, as facts: a wire's proof goes by cases on where a place stands. `on` and `Distinct` of model's `Paths` say
-- the same as tests, which the copper of a laid path is computed by.
use Rattle.std.specs.Prelude.{◌≡◌, ℕ, ◌⊎◌, List, [], ◌∷◌}

-- p stands in the list
abbrev pub On : ℕ → List ℕ → Type 0
On p [] = ⊥
On p (q ∷ ps) = (p ≡ q) ⊎ On p ps

-- no place stands in the list twice
abbrev pub NoneTwice : List ℕ → Type 0
NoneTwice [] = Unit {0}
NoneTwice (p ∷ ps) = (On p ps → ⊥) × NoneTwice ps
