use Rattle.std.proofs.Common.{◌≡◌, length, take, ap, ◌∙◌}
use Rattle.grid.specs.Places.{count_of}
use Rattle.route.specs.Paths.{label_of}
use Rattle.trace.specs.Walk.{ways}
use Rattle.trace.proofs.Tracing.{enough, traced_is, trace_short}
use Rattle.trace.proofs.walk.begin.Goals as goal

pub returns : goal.returns
returns g c =
    let m = g.G.Ground.meaning c.args.area.now in
    let k = c.places.result in
    let ls = c.args.labels.now in
    let e : k ≡ count_of m.shape = c.places.ensures.is ∙ ap count_of c.shape-shape.ensures in (
      enough m c.shape-shape.result (length ls) c.shape-shape.ensures c.in_ok-check_entries.ensures,
      λ n. record {
        is = traced_is g.T.Tariff.rates m (record c.args.connection { net = n }) ls c.shape-shape.result k c.shape-shape.ensures e;
        few = trace_short g.T.Tariff.rates (ways c.shape-shape.result c.args.connection.start) (label_of (take k ls)) 2097152 c.args.connection.goal;
      },
    )
