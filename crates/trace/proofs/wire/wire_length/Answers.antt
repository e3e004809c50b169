use Rattle.std.proofs.Common.{length}
use Rattle.std.proofs.lemmas.List.{length-reverse}
use Rattle.trace.proofs.Answering.{refused, told}
use Rattle.trace.proofs.wire.wire_length.Goals as goal

pub returns-in_err-trace : goal.returns-in_err-trace
returns-in_err-trace g c =
    let (answer, wire) = refused g.met.T.Tariff.laws (g.G.Ground.meaning c.args.area.now) (g.G.Ground.sound c.args.area.now) c.args.connection c.args.labels.now length
    c.in_err-trace.field-0.0 c.from_residual.result c.in_err-trace.ensures c.from_residual.ensures.1 in
    record { answer = answer; wire = wire }

pub count-requires : goal.count-requires
count-requires g c = (c.in_ok-trace.ensures.1 c.args.connection.net).few

pub returns : goal.returns
returns g c =
    let (answer, wire) = told g.met.T.Tariff.laws (g.G.Ground.meaning c.args.area.now) (g.G.Ground.sound c.args.area.now) c.args.connection c.args.labels.now length
    c.in_ok-trace.trace c.in_ok-trace.ensures (λ ps. length-reverse ps) c.count.result c.count.ensures in
    record { answer = answer; wire = wire }
