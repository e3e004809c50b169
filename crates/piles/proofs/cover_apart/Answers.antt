use Rattle.std.proofs.Common.{ap, ◌∙◌, rules}
use Rattle.piles.proofs.Covering.{apart_answer, covered_copper}
use Rattle.piles.proofs.cover_apart.Goals as goal

pub returns-clause-answer : goal.returns-clause-answer
returns-clause-answer g c =
    let made = c.new-apart.ensures in
    let added = c.in_ok-add.ensures in
    apart_answer g.S.Sheet.board (λ b. b) c.args.row _ _ _ _ _ c.args.path.now c.args.net _ made.is added.below made.start added.after added.answer c.cover.ensures.answer

pub returns-clause-copper : goal.returns-clause-copper
returns-clause-copper g c =
    let metal = λ (s : g.row.S.Denot). (g.S.Sheet.board s).metal in
    covered_copper _ _ _ _ c.args.path.now c.args.net c.cover.result (ap metal c.in_ok-add.ensures.below ∙ ap metal c.new-apart.ensures.is) (search rules) c.cover.ensures.after
