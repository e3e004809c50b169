use Rattle.std.proofs.Common.{ℕ, ◌+◌, min, ap, ◌∙◌, arith}
use Rattle.std.proofs.lemmas.Bool.Decides.{nat_tests}
use Rattle.model.proofs.PathLaws.{asked_more}
use Rattle.cover.proofs.ask.Goals as goal

pub loop-place-preserved : goal.loop-place-preserved
loop-place-preserved g c =
    let b = g.S.Sheet.board c.args.sheet.now in
    let bare = c.loop-place.bare in
    let grounded = g.met.S.Sheet.grounded c.args.sheet.now in
    asked_more b c.args.path.now c.args.net c.loop-place.place-index bare c.loop-place-test.true c.loop-place.invariant
    (grind (arith, nat_tests)) (grind (arith, nat_tests)) c.saturating_add-bare.result
    (c.saturating_add-bare.ensures ∙ ap (λ (k : ℕ). min (bare + k) 4294967295) c.bare_at.ensures)
