use Rattle.std.proofs.Common.{refl, ◌∙◌}
use Rattle.model.proofs.PathLaws.{laying_none, laying_granted, laying_more, err_ok}
use Rattle.cover.proofs.lay_each.Goals as goal

pub loop-place-init : goal.loop-place-init
loop-place-init g c =
    record { laying = laying_none (g.S.Sheet.board c.args.sheet.now) c.args.path.now c.args.net c.requires; kept = refl }

pub returns-in_err-lay : goal.returns-in_err-lay
returns-in_err-lay g c =
    let b = g.S.Sheet.board c.args.sheet.now in
    let m = g.S.Sheet.board c.loop-place.sheet in
    let granted = laying_granted b c.args.path.now c.args.net c.requires m c.loop-place.place-index c.loop-place-test.true c.loop-place.invariant.laying in
    err_ok _ (c.in_err-lay.ensures.answer ∙ granted)

pub loop-place-preserved : goal.loop-place-preserved
loop-place-preserved g c =
    let b = g.S.Sheet.board c.args.sheet.now in
    let m = g.S.Sheet.board c.loop-place.sheet in
    let m' = g.S.Sheet.board c.lay.new.self in
    let laid = c.in_ok-lay.ensures in
    record {
      laying = laying_more b c.args.path.now c.args.net c.requires m c.loop-place.place-index c.loop-place-test.true c.loop-place.invariant.laying m' laid.after;
      kept = laid.kept ∙ c.loop-place.invariant.kept;
    }
