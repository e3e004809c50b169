use Rattle.std.proofs.Common.{◌-◌, ap, ◌∙◌, arith, length-set}
use Rattle.front.specs.Places.{changed}
use Rattle.sift.specs.Layouts.{Layout}
use Rattle.sift.proofs.Records.{write_slot, write_at}
use Rattle.heap.proofs.records.link.Goals as goal

pub returns : goal.returns
returns g c =
    let i = c.args.position in
    let p = c.args.place in
    let first = c.requires.first in
    write_at _ p i (i - 1) c.index-list-place.result (simp length-set c.requires.place) (omega arith)
    ∙ ap (λ (h : Layout g.row.C.Denot). record { slot = h.slot; at = changed h.at p i; cost = h.cost })
    (write_slot c.args.list.now i p c.index-list-position.result c.requires.position)
