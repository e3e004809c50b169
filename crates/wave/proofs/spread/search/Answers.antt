use Rattle.std.proofs.Common.{◌∙◌}
use Rattle.wave.proofs.Asking.{granted, unless_none, search_allowed}
use Rattle.wave.proofs.Reaching.{finished}
use Rattle.route.proofs.Labels.{labels_are_least, wire_is_wire}
use Rattle.wave.proofs.spread.search.Goals as goal

pub returns-in_err-check_search-clause-wire : goal.returns-in_err-check_search-clause-wire
returns-in_err-check_search-clause-wire g c = wire_is_wire g.met.T.Tariff.laws

pub returns-in_err-check_search-clause-least : goal.returns-in_err-check_search-clause-least
returns-in_err-check_search-clause-least g c = labels_are_least g.met.T.Tariff.laws

pub spread-requires : goal.spread-requires
spread-requires g c =
    let a = search_allowed g.T.Tariff.rates (g.G.Ground.meaning c.args.area.now) (g.F.Front.view c.args.front.now) c.args.labels.now c.shape.ensures c.places-places.ensures.is c.args.connection (granted _ c.in_ok-check_search.ensures) in
    record { sized = a.sized; served = a.served; free = a.free }

pub returns : goal.returns
returns g c =
    let m = g.G.Ground.meaning c.args.area.now in
    let laws = g.met.T.Tariff.laws in
    let o = granted _ c.in_ok-check_search.ensures in
    let a = search_allowed g.T.Tariff.rates m (g.F.Front.view c.args.front.now) c.args.labels.now c.shape.ensures c.places-places.ensures.is c.args.connection o in
    let (answer, after) = finished laws m (g.G.Ground.sound c.args.area.now) c.args.connection _ c.args.labels.now c.spread.new.labels c.args.front.now c.spread.new.front c.places-places.result c.spread.result
    c.label_at.result c.ok_or.result o a.places a.enough (c.spread.auto.labels ∙ a.sized) c.spread.ensures c.label_at.ensures c.ok_or.ensures.value in
    record { answer = answer ∙ unless_none _ _ o; least = labels_are_least laws; wire = wire_is_wire laws; after = after }
