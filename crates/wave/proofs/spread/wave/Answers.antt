use Rattle.std.proofs.Common.{Ok, ap, ◌∙◌}
use Rattle.wave.specs.Spread.{labelled}
use Rattle.wave.proofs.Asking.{granted, unless_none, wave_allowed, whole_labels, whole_list}
use Rattle.route.proofs.Labels.{labels_are_least}
use Rattle.wave.proofs.spread.wave.Goals as goal

pub returns-in_err-check_wave-clause-least : goal.returns-in_err-check_wave-clause-least
returns-in_err-check_wave-clause-least g c = labels_are_least g.met.T.Tariff.laws

pub spread-requires : goal.spread-requires
spread-requires g c =
    let a = wave_allowed g.T.Tariff.rates (g.G.Ground.meaning c.args.area.now) (g.F.Front.view c.args.front.now) c.args.labels.now c.shape.ensures c.places-places.ensures.is c.args.net c.args.start (granted _ c.in_ok-check_wave.ensures) in
    record { sized = a.sized; served = a.served; free = a.free }

pub returns : goal.returns
returns g c =
    let m = g.G.Ground.meaning c.args.area.now in
    let sound = g.G.Ground.sound c.args.area.now in
    let laws = g.met.T.Tariff.laws in
    let o = granted _ c.in_ok-check_wave.ensures in
    let a = wave_allowed g.T.Tariff.rates m (g.F.Front.view c.args.front.now) c.args.labels.now c.shape.ensures c.places-places.ensures.is c.args.net c.args.start o in
    let size = c.spread.auto.labels ∙ a.sized in
    let all = c.spread.ensures.whole tt in
    record {
      answer = ap Ok (c.spread.ensures.count ∙ ap labelled (whole_labels laws m sound c.args.net c.args.start _ size all)) ∙ unless_none _ _ o;
      least = labels_are_least laws;
      after = whole_list laws m sound c.args.net c.args.start c.places-places.result c.args.labels.now c.spread.new.labels a.places size all;
    }
