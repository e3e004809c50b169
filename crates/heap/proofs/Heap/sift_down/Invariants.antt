use Rattle.std.proofs.Common.{◌≡◌, ◌-◌, length}
use Rattle.front.specs.Places.{room}
use Rattle.sift.specs.Layouts.{layout, filled}
use Rattle.sift.proofs.Sifts.{GoingDown}
use Rattle.heap.proofs.Heap.sift_down.Given as goal

abbrev pub invariant-loop-child : goal.invariant-loop-child
invariant-loop-child g l = record {
  going : GoingDown g.T.Tariff.rates (filled (layout l.initial.self.list.now) 1 l.place) (layout l.self.list.now) (room (length l.initial.self.list.now)) l.self.count l.hole l.place l.cost;
  count : l.self.count ≡ l.initial.self.count;
  last : l.self.last ≡ l.initial.self.last;
  records : length l.self.list.now ≡ length l.initial.self.list.now;
}

abbrev pub decreases-loop-child : goal.decreases-loop-child
decreases-loop-child g l = l.self.count - l.hole
