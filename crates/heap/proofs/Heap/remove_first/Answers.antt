use Rattle.std.proofs.Common.{◌-◌, length, None}
use Rattle.front.specs.Places.{room}
use Rattle.sift.specs.Layouts.{layout}
use Rattle.sift.proofs.Removing.{first_waits, moved_hole, removed}
use Rattle.heap.proofs.Changing.{changed_after}
use Rattle.heap.proofs.Heap.remove_first.Goals as goal

pub sift_down-requires : goal.sift_down-requires
sift_down-requires g c =
    moved_hole _ _ _ c.requires.order c.if-count-gt1.true _ _ c.at-last.ensures.place c.at-last.ensures.cost

pub returns-then-count-gt1-clause-first : goal.returns-then-count-gt1-clause-first
returns-then-count-gt1-clause-first g c =
    first_waits g.met.T.Tariff.laws _ _ _ c.requires.order c.requires.some _ _ c.at-first.ensures.place c.at-first.ensures.cost

pub returns-else-count-gt1-clause-first : goal.returns-else-count-gt1-clause-first
returns-else-count-gt1-clause-first g c =
    first_waits g.met.T.Tariff.laws _ _ _ c.requires.order c.requires.some _ _ c.at-first.ensures.place c.at-first.ensures.cost

pub returns-then-count-gt1-clause-change : goal.returns-then-count-gt1-clause-change
returns-then-count-gt1-clause-change g c =
    let s = c.args.self.now in
    let xs = s.list.now in
    let s' = c.sift_down.new.self in
    let e = c.sift_down.ensures in
    let w = removed (layout xs) (room (length xs)) s.count c.requires.order c.if-count-gt1.true _ c.at-last.ensures.place (layout s'.list.now) e.sifted in
    rw (← c.at-first.ensures.place) (changed_after s s' ((layout xs).slot 1) (s.count - 1) e.count e.last e.records None w.gone w.others)
