use Rattle.std.proofs.Common.{◌≡◌, sym, ◌∙◌, subst, arith, below_more}
use Rattle.clearance.proofs.Around.{RowClear, RowsClear, opens, shuts}
use Rattle.clearance.proofs.ClearNarrowing.is_open.Goals as goal

pub loop-across-preserved : goal.loop-across-preserved
loop-across-preserved g c =
    let kept = c.loop-across.invariant in
    record { clear = kept.clear; rows = kept.rows; row = below_more _ _ kept.row (sym c.if-not-is_clear.ensures) }

pub around-preserved : goal.around-preserved
around-preserved g c =
    let kept = c.loop-across.invariant in
    let three : c.loop-across.across ≡ 3 = omega arith in
    let row = subst (RowClear (g.G.Ground.meaning c.args.below.now) c.in-Some.site c.args.net c.around.down) three kept.row in
    record { clear = kept.clear; rows = below_more _ _ kept.rows row }

pub returns-after-around : goal.returns-after-around
returns-after-around g c =
    let b = g.G.Ground.meaning c.args.below.now in
    let three : c.around.down ≡ 3 = omega arith in
    let rows = subst (RowsClear b c.in-Some.site c.args.net) three c.around.invariant.rows in
    c.around.invariant.clear ∙ opens b c.shape.result c.args.place c.args.net c.in-Some.site c.shape.ensures c.in-Some.ensures rows

pub returns-then-not-is_clear : goal.returns-then-not-is_clear
returns-then-not-is_clear g c =
    shuts (g.G.Ground.meaning c.args.below.now) c.shape.result c.args.place c.args.net c.in-Some.site c.shape.ensures c.in-Some.ensures c.around.down c.loop-across.across c.if-not-is_clear.ensures
