use Rattle.std.proofs.Common.{take}
use Rattle.route.specs.Hops.{gather}
use Rattle.wave.specs.Offers.{OffersAll}
use Rattle.wave.proofs.offer.Board.offer_around.Given as goal

abbrev pub invariant-loop-direction : goal.invariant-loop-direction
invariant-loop-direction g l = record {
  ordered : g.F.Front.ordered l.front;
  offered : OffersAll g.T.Tariff.rates (g.G.Ground.meaning l.self.area.now) l.self.net l.self.labels.now (g.F.Front.view l.initial.front) (g.F.Front.view l.front)
      (gather l.site.shape l.site.place (take l.direction-index l.direction-items));
}
