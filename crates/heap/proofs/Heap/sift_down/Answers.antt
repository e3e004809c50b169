use Rattle.std.proofs.Common.{◌∙◌, arith}
use Rattle.sift.specs.Layouts.{layout}
use Rattle.sift.proofs.Orders.{lower_child_some}
use Rattle.sift.proofs.Sifts.{place_inside, down_turn, down_done}
use Rattle.heap.proofs.Heap.sift_down.Goals as goal

pub link-requires-clause-place : goal.link-requires-clause-place
link-requires-clause-place g c =
    let v = c.loop-child.invariant in
    let s = v.going.0.hole in
    let h = c.loop-child in
    let l = (lower_child_some g.met.T.Tariff.laws (layout h.self.list.now) h.self.count h.hole c.args.cost c.in-Some.child c.in-Some.ensures).child in
    let first = s.first in
    let under = l.under in
    place_inside _ _ _ _ _ _ _ _ v.records s (omega arith) l.most (λ e. omega arith) _ c.slot_at-other.ensures

pub loop-child-preserved : goal.loop-child-preserved
loop-child-preserved g c =
    let v = c.loop-child.invariant in
    record {
      going = down_turn g.met.T.Tariff.laws _ _ _ _ _ _ _ _ _ _ v.going c.in-Some.ensures c.slot_at-other.ensures c.link.ensures;
      count = v.count;
      last = v.last;
      records = c.link.auto.list ∙ v.records;
    }

pub returns : goal.returns
returns g c =
    let v = c.loop-child.invariant in
    record {
      sifted = down_done g.met.T.Tariff.laws _ _ _ _ _ _ _ _ v.going c.in_default.ensures c.link-2.ensures _ v.count;
      count = v.count;
      last = v.last;
      records = c.link-2.auto.list ∙ v.records;
    }
