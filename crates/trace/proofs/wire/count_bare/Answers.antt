use Rattle.std.proofs.Common.{ℕ, Bool, ◌==◌, rules, tests, refl, ◌∙◌}
use Rattle.std.proofs.lemmas.Iterator.Consumers.{YieldsList-at, YieldsList-from_first, YieldsList-from_filter, count_from_yields_List}
use Rattle.std.proofs.lemmas.List.Sums.{length-filter}
use Rattle.trace.specs.Walk.{places_left}
use Rattle.trace.proofs.wire.count_bare.Goals as goal

pub returns : goal.returns
returns g c =
    let bare : ℕ → Bool = λ place. (g.S.Sheet.board c.args.sheet.now).metal.copper place == 0 in
    let places = places_left g.T.Tariff.rates c.args.trace in
    count_from_yields_List c.filter.result c.count.result c.count.ensures.ran
    (YieldsList-from_filter _ bare (YieldsList-at c.filter.ensures.source (YieldsList-from_first (λ place. place) (places_left g.T.Tariff.rates) places refl)) c.filter.ensures.closure
    (λ x b q k. search (rules, tests)))
    ∙ length-filter bare places
