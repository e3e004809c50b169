use Rattle.model.proofs.PathLaws.{Asked}
use Rattle.cover.proofs.ask.Given as goal

abbrev pub invariant-loop-place : goal.invariant-loop-place
invariant-loop-place g l = Asked (g.S.Sheet.board l.sheet) l.path l.net l.place-index l.bare
