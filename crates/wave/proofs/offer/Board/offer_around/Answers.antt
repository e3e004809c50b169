use Rattle.std.proofs.Common.{◌≡◌, ◌<◌, length, sym, refl, ap, ◌∙◌, arith}
use Rattle.grid.proofs.Joining.{joined}
use Rattle.grid.specs.Places.{count_of}
use Rattle.route.specs.Hops.{gather}
use Rattle.wave.proofs.Offering.{offers_none, next_some, next_none}
use Rattle.wave.proofs.offer.Board.offer_around.Goals as goal
use Rattle.wave.proofs.offer.Board.offer_around.Goals.{in-Some-neighbour, in_default-neighbour}

pub loop-direction-init : goal.loop-direction-init
unfolding gather
loop-direction-init g c = record { ordered = c.requires.order; offered = offers_none _ }

pub offer-requires : goal.offer-requires
offer-requires g c =
    let e = sym c.neighbour.ensures ∙ c.in-Some-neighbour.is in
    let l = ((joined c.in-Some.site.shape c.in-Some.site.place c.in-Some-neighbour.to _).1 (_, refl, e)).to in
    let s = ap count_of c.in-Some.ensures.0 in
    let v = c.loop-direction.invariant.offered.serves.served in
    record {
      inside = omega (arith, l, s);
      served = omega (arith, c.requires.served);
      order = c.loop-direction.invariant.ordered;
    }

pub loop-direction-preserved : goal.loop-direction-preserved
loop-direction-preserved g c =
    let n : length c.directions-direction-items.result ≡ 10 = ap length c.directions-direction-items.ensures.is in
    let l : c.loop-direction.direction-index < length c.directions-direction-items.result = omega arith in
    elim c.match-neighbour.branch [
      | in-Some-neighbour w ↦
          rw w.front-is record {
            ordered = w.offer.ensures.order;
            offered = next_some _ _ _ _ _ w.in-Some-neighbour.to g.met.T.Tariff.laws l (sym c.neighbour.ensures ∙ w.in-Some-neighbour.is) c.loop-direction.invariant.offered
                (rw (← w.step.ensures) w.offer.ensures.offers);
          }
      | in_default-neighbour w ↦
          rw w.front-is record {
            ordered = c.loop-direction.invariant.ordered;
            offered = next_none _ _ _ _ _ l (sym c.neighbour.ensures ∙ w.in_default-neighbour.is) c.loop-direction.invariant.offered;
          }
    ]
