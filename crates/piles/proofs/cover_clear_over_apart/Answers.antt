use Rattle.piles.specs.Piled.{cleared}
use Rattle.piles.proofs.Covering.{apart_answer}
use Rattle.piles.proofs.cover_clear_over_apart.Goals as goal

pub returns-clause-answer : goal.returns-clause-answer
returns-clause-answer g c =
    let made = c.new-layer.ensures in
    let added = c.in_ok-add.ensures in
    apart_answer g.S.Sheet.board cleared c.args.row _ _ _ _ _ c.args.path.now c.args.net _ made.is added.below made.start added.after added.answer c.cover_clear.ensures.answer
