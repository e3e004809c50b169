use Rattle.std.proofs.Common.{◌+◌, length, Some, ◌∙◌}
use Rattle.front.specs.Places.{room}
use Rattle.sift.specs.Layouts.{layout}
use Rattle.sift.proofs.Offering.{insert_hole, inserted}
use Rattle.heap.proofs.Changing.{may_rise, risen, changed_after}
use Rattle.heap.proofs.Heap.insert.Goals as goal

pub sift_up-requires : goal.sift_up-requires
sift_up-requires g c =
    may_rise _ _ _ _ c.set_cost.ensures c.set_cost.auto.list _ _ (insert_hole _ _ _ _ _ c.requires.order c.requires.inside c.requires.absent)

pub returns-clause-change : goal.returns-clause-change
returns-clause-change g c =
    let s = c.args.self.now in
    let xs = s.list.now in
    let p = c.args.place in
    let x = c.args.cost in
    let e = c.sift_up.ensures in
    let zs = c.sift_up.new.self.list.now in
    let ys = c.set_cost.new.list in
    let w = inserted (layout xs) (room (length xs)) s.count p x c.requires.order c.requires.inside c.requires.absent (layout zs)
    (risen xs ys p x c.set_cost.ensures c.set_cost.auto.list (s.count + 1) (s.count + 1) zs e.sifted) in
    changed_after s c.sift_up.new.self p (s.count + 1) e.count e.last (e.records ∙ c.set_cost.auto.list) (Some x) w.here w.others
