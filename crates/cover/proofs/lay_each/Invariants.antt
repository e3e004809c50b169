use Rattle.std.proofs.Common.{◌≡◌}
use Rattle.model.proofs.PathLaws.{Laying}
use Rattle.cover.proofs.lay_each.Given as goal

abbrev pub invariant-loop-place : goal.invariant-loop-place
invariant-loop-place g l = record {
  laying : Laying (g.S.Sheet.board l.initial.sheet) (g.S.Sheet.board l.sheet) l.path l.net l.place-index;
  kept : g.S.Sheet.held l.sheet ≡ g.S.Sheet.held l.initial.sheet;
}
