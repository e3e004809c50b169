-- The three by three places around a place, by offsets of the row and the column: 0 is one less, 1 the same, 2 one more.
use Rattle.std.specs.Prelude.{ℕ, zero, suc}
use Rattle.grid.specs.Steps.{Move, Back, Stay, Forth, Way}

abbrev pub offset_move : ℕ → Move
offset_move zero = Back
offset_move (suc zero) = Stay
offset_move (suc (suc k)) = Forth

-- the moves of the column, the row and the layer
abbrev pub offset_way : ℕ → ℕ → Way
offset_way down across = record { across = offset_move across; along = offset_move down; through = Stay }
