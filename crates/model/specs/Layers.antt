-- Layers over sheets: what they open, and what they hold.
use Rattle.std.specs.Prelude.{◌≡◌, ℕ, Bool, true, ◌∷◌}
use Rattle.model.specs.Sheets.{Ground, Sheet, Held, sheet}

-- f opens only what is open below, and no less where more is open below
pub record Narrows (f : Ground → ℕ → ℕ → Bool) : Type 0 where
  pub below : (g : Ground) (p n : ℕ) → f g p n ≡ true → g.opened p n ≡ true
  pub keeps : (g g' : Ground) (n : ℕ) → g'.shape ≡ g.shape → ((q : ℕ) → g.opened q n ≡ true → g'.opened q n ≡ true) → (p : ℕ) → f g p n ≡ true → f g' p n ≡ true

-- THE GROUND UNDER A LAYER has the shape of the one below, and what f opens
abbrev pub narrowed : (Ground → ℕ → ℕ → Bool) → Ground → Ground
narrowed f g = record { shape = g.shape; opened = f g }

-- the sheet under a layer has that ground, and the copper and the limit of the one below
abbrev pub narrowed_sheet : (Ground → ℕ → ℕ → Bool) → Sheet → Sheet
narrowed_sheet f b = sheet (narrowed f b.area) b.metal

-- the name of the layer's loan of the sheet below goes before the loans of that sheet
abbrev pub lent_through : ℕ → Held → Held
lent_through loan h = record { loans = loan ∷ h.loans; rest = h.rest }
