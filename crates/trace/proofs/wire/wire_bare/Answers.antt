use Rattle.std.proofs.Common.{◌∙◌}
use Rattle.model.specs.Paths.{bare_entries}
use Rattle.trace.proofs.Answering.{refused, told}
use Rattle.trace.proofs.Walking.{bare_counted, bare_reverse}
use Rattle.trace.proofs.wire.wire_bare.Goals as goal

pub returns-in_err-trace : goal.returns-in_err-trace
returns-in_err-trace g c =
    let b = g.S.Sheet.board c.args.sheet.now in
    let (answer, wire) = refused g.met.T.Tariff.laws (g.S.Ground.meaning c.args.sheet.now) (g.S.Ground.sound c.args.sheet.now) c.args.connection c.args.labels.now (bare_entries b)
    c.in_err-trace.field-0.0 c.from_residual.result c.in_err-trace.ensures c.from_residual.ensures.1 in
    record { answer = answer; wire = wire }

pub count_bare-requires : goal.count_bare-requires
count_bare-requires g c = (c.in_ok-trace.ensures.1 c.args.connection.net).few

pub returns : goal.returns
returns g c =
    let b = g.S.Sheet.board c.args.sheet.now in
    let (answer, wire) = told g.met.T.Tariff.laws (g.S.Ground.meaning c.args.sheet.now) (g.S.Ground.sound c.args.sheet.now) c.args.connection c.args.labels.now (bare_entries b)
    c.in_ok-trace.trace c.in_ok-trace.ensures (bare_reverse b) c.count_bare.result (c.count_bare.ensures ∙ bare_counted b _) in
    record { answer = answer; wire = wire }
