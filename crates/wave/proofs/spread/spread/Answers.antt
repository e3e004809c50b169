use Rattle.std.proofs.Common.{◌≡◌, ◌<◌, length, sym, ap, ◌∙◌, arith, rules}
use Rattle.grid.specs.Places.{count_of}
use Rattle.wave.proofs.Beginning.{begins}
use Rattle.wave.proofs.Spreading.{inside, within, fell, few, onward, arrived, ended}
use Rattle.wave.proofs.spread.spread.Goals as goal

pub loop-found-init : goal.loop-found-init
loop-found-init g c =
    let m = g.G.Ground.meaning c.args.area.now in
    let (granted, going) = begins g.met.T.Tariff.laws m (g.G.Ground.sound c.args.area.now) c.args.net c.args.start (g.F.Front.view c.args.front.now) (g.F.Front.view c.start.new.self) c.start.result
    (length c.args.labels.now) c.fill.new.self c.requires.free c.requires.served c.start.ensures.acts (c.fill.ensures.len ∙ c.requires.sized) (c.fill.ensures.after (λ y h. search rules)) in
    record { ordered = c.start.ensures.ready granted; going = going }

pub take-requires : goal.take-requires
take-requires g c = c.loop-found.invariant.ordered

pub offset_bounds-labels-found : goal.offset_bounds-labels-found
offset_bounds-labels-found g c =
    let i = within (g.G.Ground.sound c.args.area.now) c.loop-found.invariant.going c.in-Some.ensures.acts in
    let j : c.in-Some.found.place < length c.args.labels.now = omega arith in
    search rules

pub bounds-labels-found : goal.bounds-labels-found
bounds-labels-found g c = within (g.G.Ground.sound c.args.area.now) c.loop-found.invariant.going c.in-Some.ensures.acts

pub overflow_add-count : goal.overflow_add-count
overflow_add-count g c =
    let k = few (g.G.Ground.sound c.args.area.now) c.loop-found.invariant.going c.in-Some.ensures.acts in
    record { fits = omega arith }

pub offer_around-requires : goal.offer_around-requires
offer_around-requires g c =
    let G = c.loop-found.invariant.going in
    let T = c.in-Some.ensures.acts in
    let e : count_of c.shape-shape.result ≡ count_of (g.G.Ground.meaning c.args.area.now).shape = ap count_of c.shape-shape.ensures in
    let i = inside (g.G.Ground.sound c.args.area.now) G T in
    record {
      inside = omega arith;
      served = omega (arith, T.serves.served, G.served);
      order = c.take.ensures.kept;
    }

pub loop-found-smaller : goal.loop-found-smaller
loop-found-smaller g c =
    let e = fell (g.G.Ground.sound c.args.area.now) c.loop-found.invariant.going c.in-Some.ensures.acts in omega arith

pub loop-found-preserved : goal.loop-found-preserved
loop-found-preserved g c = record {
  ordered = c.offer_around.ensures.order;
  going = onward (g.G.Ground.sound c.args.area.now) c.loop-found.invariant.going c.in-Some.ensures.acts g.met.T.Tariff.laws c.shape-shape.ensures c.offer_around.ensures.offers;
}

pub returns-then-eq : goal.returns-then-eq
returns-then-eq g c = arrived (g.G.Ground.sound c.args.area.now) c.loop-found.invariant.going c.in-Some.ensures.acts c.args.goal g.met.T.Tariff.laws (sym c.eq.ensures ∙ c.if-eq.true)

pub returns : goal.returns
returns g c = ended c.args.goal g.met.T.Tariff.laws c.loop-found.invariant.going c.in_default.ensures.acts
