use Rattle.std.proofs.Common.{refl, ◌∙◌, arith}
use Rattle.sift.specs.Layouts.{layout}
use Rattle.sift.proofs.Orders.{below_parent_true}
use Rattle.sift.proofs.Sifts.{place_inside, up_turn, up_done}
use Rattle.heap.proofs.Heap.sift_up.Goals as goal

pub is_below_parent-requires-clause-parent : goal.is_below_parent-requires-clause-parent
is_below_parent-requires-clause-parent g c two =
    let v = c.loop-cost.invariant in
    let s = v.going.0.hole in
    let most = s.most in
    place_inside _ _ _ _ _ _ _ _ v.records s (omega arith) (omega arith) (λ e. omega arith) _ refl

pub link-requires-clause-place : goal.link-requires-clause-place
link-requires-clause-place g c =
    let v = c.loop-cost.invariant in
    let s = v.going.0.hole in
    let most = s.most in
    let two = (below_parent_true g.T.Tariff.rates (layout c.loop-cost.self.list.now) c.loop-cost.hole c.args.cost c.loop-cost-test.ensures).0 in
    place_inside _ _ _ _ _ _ _ _ v.records s (omega arith) (omega arith) (λ e. omega arith) _ c.slot_at-parent.ensures

pub loop-cost-preserved : goal.loop-cost-preserved
loop-cost-preserved g c =
    let v = c.loop-cost.invariant in
    record {
      going = up_turn g.met.T.Tariff.laws _ _ _ _ _ _ _ _ _ v.going c.loop-cost-test.ensures c.slot_at-parent.ensures c.link.ensures;
      count = v.count;
      last = v.last;
      records = c.link.auto.list ∙ v.records;
    }

pub returns : goal.returns
returns g c =
    let v = c.loop-cost.invariant in
    record {
      sifted = up_done g.met.T.Tariff.laws _ _ _ _ _ _ _ _ v.going c.loop-cost-test.ensures c.link-2.ensures _ v.count;
      count = v.count;
      last = v.last;
      records = c.link-2.auto.list ∙ v.records;
    }
