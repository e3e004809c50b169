use Rattle.std.proofs.Common.{sym}
use Rattle.model.proofs.PathLaws.{cover_exact}
use Rattle.cover.proofs.cover.Goals as goal

pub returns-in_err-ask-clause-exact : goal.returns-in_err-ask-clause-exact
returns-in_err-ask-clause-exact g c = cover_exact (g.S.Sheet.board c.args.sheet.now) c.args.net c.args.path.now

pub lay_each-requires : goal.lay_each-requires
lay_each-requires g c =
    (cover_exact (g.S.Sheet.board c.args.sheet.now) c.args.net c.args.path.now).0 (sym c.in_ok-ask.ensures)

pub returns-clause-exact : goal.returns-clause-exact
returns-clause-exact g c = cover_exact (g.S.Sheet.board c.args.sheet.now) c.args.net c.args.path.now
