use Rattle.std.proofs.Common.{length, Some, sym, subst, ◌∙◌}
use Rattle.front.specs.Places.{room}
use Rattle.sift.specs.Layouts.{layout, filled, priced, Sifted}
use Rattle.sift.proofs.Offering.{decrease_hole, decreased}
use Rattle.heap.proofs.Changing.{may_rise, risen, changed_after}
use Rattle.heap.proofs.Heap.decrease.Goals as goal

pub sift_up-requires : goal.sift_up-requires
sift_up-requires g c =
    may_rise _ _ _ _ c.set_cost.ensures c.set_cost.auto.list _ _
    (rw (← c.position_of-position.ensures) (decrease_hole g.met.T.Tariff.laws _ _ _ _ _ c.requires.order c.requires.present c.requires.less))

pub returns-clause-change : goal.returns-clause-change
returns-clause-change g c =
    let t = g.T.Tariff.rates in
    let s = c.args.self.now in
    let xs = s.list.now in
    let p = c.args.place in
    let x = c.args.cost in
    let e = c.sift_up.ensures in
    let zs = c.sift_up.new.self.list.now in
    let i = c.position_of-position.result in
    let r = risen xs c.set_cost.new.list p x c.set_cost.ensures c.set_cost.auto.list s.count i zs e.sifted in
    let w = decreased g.met.T.Tariff.laws (layout xs) (room (length xs)) s.count p x c.requires.order c.requires.present c.requires.less (layout zs)
    (subst (λ j. Sifted t (filled (priced (layout xs) p x) j p) (layout zs) (room (length xs)) s.count) (sym c.position_of-position.ensures) r) in
    changed_after s c.sift_up.new.self p s.count e.count e.last (e.records ∙ c.set_cost.auto.list) (Some x) w.here w.others
