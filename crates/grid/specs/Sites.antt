-- What the question for a place with its coordinates answers.
use Rattle.std.specs.Prelude.{◌≡◌, ℕ, ◌≤◌, Some, None, Option}
use Rattle.grid.specs.declared.shape.Shape.{Shape}
use Rattle.grid.specs.declared.site.Site.{Site}
use Rattle.grid.specs.Places.{count_of, coordinates_of}

-- the place of the shape with its coordinates, absent exactly outside the shape
abbrev pub Sited : Shape → ℕ → Option Site → Type 0
Sited s p (Some x) = (x.shape ≡ s) × (x.place ≡ p) × (x.at ≡ coordinates_of s p)
Sited s p None = count_of s ≤ p
