use Rattle.std.proofs.Common.{◌≡◌, ℕ, ◌+◌, ◌<◌, length, sym, ap, ◌∙◌, subst, arith, rules}
use Rattle.rows.specs.declared.RingRecord.{RingRecord}
use Rattle.rows.specs.Waiting.{layout}
use Rattle.rows.specs.Links.{seated}
use Rattle.front.specs.Places.{room}
use Rattle.rows.specs.Rows.{Entered}
use Rattle.rows.proofs.Vouching.{has_room, entered_known, entered_new}
use Rattle.ring.proofs.records.enter.Goals as goal

pub returns-then-known : goal.returns-then-known
returns-then-known g c =
    let xs = c.args.list.now in
    let n = room (length xs) in
    rw c.set_cost.ensures (entered_known (layout xs) c.args.touched n c.requires.vouches c.args.place c.args.cost (sym c.if-known.ensures))

pub seat-requires-clause-position : goal.seat-requires-clause-position
seat-requires-clause-position g c =
    let xs = c.args.list.now in
    let i = c.requires.inside in
    let len : length c.set_cost.new.list ≡ length xs = search rules in
    let r = has_room (layout xs) c.args.touched (room (length xs)) c.requires.vouches c.args.place (sym c.if-known.ensures) (omega arith) in
    subst (λ k. c.args.touched < room k) (sym len) r

pub returns : goal.returns
returns g c =
    let xs = c.args.list.now in
    let n = room (length xs) in
    let i = c.requires.inside in
    let e = c.seat.ensures ∙ ap (λ (h : ℕ → RingRecord g.row.C.Denot). seated h c.args.touched c.args.place) c.set_cost.ensures in
    subst (λ h. Entered (layout xs) n c.args.touched c.args.place c.args.cost h (c.args.touched + 1)) (sym e)
    (entered_new (layout xs) c.args.touched n c.requires.vouches c.args.place c.args.cost (sym c.if-known.ensures) (omega arith))
