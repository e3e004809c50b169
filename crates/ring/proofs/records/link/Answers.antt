use Rattle.std.proofs.Common.{unwrap_or, refl}
use Rattle.rows.specs.Waiting.{layout}
use Rattle.rows.proofs.Edits.{relinked}
use Rattle.ring.proofs.records.link.Goals as goal

pub returns : goal.returns
returns g c =
    let p = c.args.place in
    let q = c.unwrap_or-next.result in
    let v = unwrap_or c.args.head p in
    let e = c.unwrap_or-next.ensures in
    relinked (layout c.args.list.now) (layout c.set_next.new.list) (layout c.set_back.new.list)
    p p q v q v p p c.set_next.ensures c.set_back.ensures refl e e refl
