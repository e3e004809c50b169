use Rattle.std.proofs.Common.{refl, arith}
use Rattle.front.proofs.Offers.{here, others}
use Rattle.heap.proofs.HeapCostFront.take.Goals as goal

pub returns-clause-acts : goal.returns-clause-acts
returns-clause-acts g c =
    let first = c.remove_first-first.ensures.first in
    let e = c.remove_first-first.ensures.change in
    let inside = first.inside in
    record {
      inside = omega arith;
      was = first.was;
      gone = here e;
      others = others e;
      last = refl;
      serves = record { served = e.serves.served; spans = refl };
      early = first.early;
    }
