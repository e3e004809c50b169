-- The labels of all places at once: swept as often as there are places.
use Rattle.std.specs.Prelude.{ℕ, zero, suc, if◌then◌else◌, List, [], ◌∷◌, None, Option, slice_index_or}
use Rattle.tariff.specs.Rates.{Rates}
use Rattle.route.specs.Search.{Maze, best, better, at_start}

-- f i, f (i + 1), ..: n of them
unfoldable pub row : {A : Type 0} → (ℕ → A) → ℕ → ℕ → List A
row f i zero = []
row f i (suc n) = f i ∷ row f (suc i) n

-- what a place is labelled, given labels from which one step leads to it
abbrev pub label : {C : Type 0} → Rates C → Maze → (ℕ → Option C) → ℕ → Option C
label t m f p = if m.free p then better t (at_start t m p) (best t f (m.around p)) else None

abbrev pub sweep : {C : Type 0} → Rates C → Maze → ℕ → List (Option C) → List (Option C)
sweep t m n ls = row (label t m (λ q. slice_index_or ls q None)) 0 n

-- the labels of n places after k sweeps
unfoldable pub swept : {C : Type 0} → Rates C → Maze → ℕ → ℕ → List (Option C)
swept t m n zero = sweep t m n []
swept t m n (suc k) = sweep t m n (swept t m n k)
