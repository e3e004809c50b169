use Rattle.std.proofs.Common.{◌≡◌, true}
use Rattle.clearance.proofs.Around.{RowClear, RowsClear}
use Rattle.clearance.proofs.ClearNarrowing.is_open.Given as goal

abbrev pub invariant-around : goal.invariant-around
invariant-around g l = record {
  clear : l.clear ≡ true;
  rows : RowsClear (g.G.Ground.meaning l.below) l.site l.net l.down;
}

abbrev pub invariant-loop-across : goal.invariant-loop-across
invariant-loop-across g l = record {
  clear : l.clear ≡ true;
  rows : RowsClear (g.G.Ground.meaning l.below) l.site l.net l.down;
  row : RowClear (g.G.Ground.meaning l.below) l.site l.net l.down l.across;
}
