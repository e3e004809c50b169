use Rattle.std.proofs.Common.{◌≡◌, length}
use Rattle.front.specs.Places.{room}
use Rattle.sift.specs.Layouts.{layout, filled}
use Rattle.sift.proofs.Sifts.{GoingUp}
use Rattle.heap.proofs.Heap.sift_up.Given as goal

abbrev pub invariant-loop-cost : goal.invariant-loop-cost
invariant-loop-cost g l = record {
  going : GoingUp g.T.Tariff.rates (filled (layout l.initial.self.list.now) l.from l.place) (layout l.self.list.now) (room (length l.initial.self.list.now)) l.self.count l.hole l.place l.cost;
  count : l.self.count ≡ l.initial.self.count;
  last : l.self.last ≡ l.initial.self.last;
  records : length l.self.list.now ≡ length l.initial.self.list.now;
}

abbrev pub decreases-loop-cost : goal.decreases-loop-cost
decreases-loop-cost g l = l.hole
