-- A ground drawn as a list with one byte a place.
use Rattle.std.specs.Prelude.{ℕ, ◌&&◌, List, ◌==◌, nat_lt, slice_index}
use Rattle.grid.specs.declared.shape.Shape.{Shape}
use Rattle.model.specs.Entries.{served}
use Rattle.model.specs.Sheets.{Ground, is_net}

-- a place is open to all nets if its byte is 0; no place is open on a list that is too short
abbrev pub drawn_ground : Shape → List ℕ → Ground
drawn_ground s xs = record { shape = s; opened = λ p n. nat_lt p (served s xs) && (is_net n && slice_index xs p == 0) }
