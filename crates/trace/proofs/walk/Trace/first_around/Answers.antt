use Rattle.std.proofs.Common.{rules, sym, ap, ◌∙◌}
use Rattle.grid.specs.Steps.{order}
use Rattle.route.specs.Paths.{label_of}
use Rattle.route.specs.Wire.{first}
use Rattle.trace.specs.Walk.{place_of, accounting_for}
use Rattle.trace.proofs.Finding.{found_mapped}
use Rattle.trace.proofs.Stepping.{first_along, gather_outside}
use Rattle.trace.proofs.walk.Trace.first_around.Goals as goal

pub returns-in_err-site : goal.returns-in_err-site
returns-in_err-site g c =
    c.from_residual.ensures
    ∙ ap (λ hs. place_of (first g.T.Tariff.rates (label_of c.args.self.now.labels.now) c.args.cost hs)) (sym (gather_outside c.args.self.now.shape c.args.place c.in_err-site.ensures order))

pub returns : goal.returns
returns g c =
    let (s, p, a) = c.in_ok-site.ensures in
    let f = accounting_for g.T.Tariff.rates (label_of c.args.self.now.labels.now) c.args.cost c.in_ok-site.site.shape c.in_ok-site.site.place in
    found_mapped f (λ x r q k. search rules) (λ x. x.rest.now) c.iter.result c.find_map.result c.iter.ensures.runs c.find_map.ensures.runs
    ∙ first_along g.T.Tariff.rates (label_of c.args.self.now.labels.now) c.args.cost s p (c.iter.ensures.rest ∙ c.directions.ensures.is)
