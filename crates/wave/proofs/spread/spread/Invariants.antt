use Rattle.wave.specs.Spread.{unlabelled}
use Rattle.wave.proofs.Spreading.{Going}
use Rattle.wave.proofs.spread.spread.Given as goal

abbrev pub invariant-loop-found : goal.invariant-loop-found
invariant-loop-found g l = record {
  ordered : g.F.Front.ordered l.front;
  going : Going g.T.Tariff.rates (g.G.Ground.meaning l.area) l.net l.start (g.F.Front.view l.front) l.labels l.count;
}

abbrev pub decreases-loop-found : goal.decreases-loop-found
decreases-loop-found g l = unlabelled l.labels
