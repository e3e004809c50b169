use Rattle.std.proofs.Common.{rules}
use Rattle.front.proofs.Offers.{offered}
use Rattle.ring.proofs.RingCostFront.put.Goals as goal

pub returns-clause-acts : goal.returns-clause-acts
returns-clause-acts g c = offered (search rules) c.cost_offered.ensures c.in-Some.is c.offer.ensures.change
