-- A sheet as a list with one 16-bit number a place: 0 bare, 1 to 65,534 a net, 65,535 barred.
use Rattle.std.specs.Prelude.{◌≡◌, ℕ, ◌+◌, ◌<◌, ◌≤◌, Bool, if◌then◌else◌, ◌&&◌, ◌||◌, List, [], ◌∷◌, ◌++◌, length, drop, replicate, ◌==◌, nat_lt, slice_index, slice_set}
use Rattle.grid.specs.declared.shape.Shape.{Shape}
use Rattle.grid.specs.Places.{count_of}
use Rattle.model.specs.Entries.{served}
use Rattle.model.specs.Sheets.{Ground, Metal, Sheet, Held, sheet, is_net}

-- a place is open to a net if it is bare or carries it; no place is open on a list that is too short
abbrev pub wide_ground : Shape → List ℕ → Ground
wide_ground s xs = record {
  shape = s;
  opened = λ p n. nat_lt p (served s xs) && (is_net n && (slice_index xs p == 0 || slice_index xs p == n));
}

-- the copper of a place is its entry, and the limit is the number of places; on a list that is too short all is bare and
-- the limit is 0
abbrev pub wide_metal : Shape → List ℕ → Metal
wide_metal s xs = record { copper = λ p. if nat_lt p (served s xs) then slice_index xs p else 0; limit = served s xs }

abbrev pub wide_sheet : Shape → List ℕ → Sheet
wide_sheet s xs = sheet (wide_ground s xs) (wide_metal s xs)

-- what the copper does not tell: the entries past the last place, or the whole of a list that is too short
abbrev pub wide_rest : Shape → List ℕ → List ℕ
wide_rest s xs = drop (served s xs) xs

-- the one loan, by its name, and the rest of the list
abbrev pub wide_held : Shape → ℕ → List ℕ → Held
wide_held s loan xs = record { loans = loan ∷ []; rest = wide_rest s xs }

-- the list with v at p if a call was granted, and as it stood if it was refused
abbrev pub written : Bool → List ℕ → ℕ → ℕ → List ℕ
written granted xs p v = if granted then slice_set xs p v else xs

-- the list with 0 for its first n entries, and the others as they stood
abbrev pub zeroed : ℕ → List ℕ → List ℕ
zeroed n xs = replicate n 0 ++ drop n xs

-- MADE on the list xs, a sheet leaves ys: 0 for each place, and the entries past the last place as they stood
pub record Made (s : Shape) (xs ys : List ℕ) : Type 0 where
  pub size : length ys ≡ length xs
  pub places : (p : ℕ) → p < count_of s → slice_index ys p ≡ 0
  pub past : (p : ℕ) → count_of s ≤ p → slice_index ys p ≡ slice_index xs p

-- THE LIST IS TOLD BY THE MEANING, whatever it comes to hold
pub record Told (s : Shape) (xs : List ℕ) : Type 0 where
  -- if it is long enough, the entry of each place is its copper, and the entries past the last place are the rest
  pub entries : count_of s ≤ length xs → (p : ℕ) → p < count_of s → slice_index xs p ≡ (wide_metal s xs).copper p
  pub past : count_of s ≤ length xs → (k : ℕ) → slice_index xs (count_of s + k) ≡ slice_index (wide_rest s xs) k
  -- if it is too short, it is the rest
  pub short : length xs < count_of s → xs ≡ wide_rest s xs
  -- no other list has the same copper, limit and rest
  pub one : (ys : List ℕ) → ((p : ℕ) → (wide_metal s ys).copper p ≡ (wide_metal s xs).copper p) → (wide_metal s ys).limit ≡ (wide_metal s xs).limit → wide_rest s ys ≡ wide_rest s xs → ys ≡ xs
