use Rattle.std.proofs.Common.{◌+◌, get_or, unwrap_or, ap, ◌∙◌}
use Rattle.std.proofs.lemmas.List.{get_or_default}
use Rattle.rows.specs.declared.RingRecord.{RingRecord}
use Rattle.rows.specs.Waiting.{layout, blank}
use Rattle.rows.specs.Links.{follower}
use Rattle.rows.proofs.Edits.{relinked}
use Rattle.ring.proofs.records.splice.Goals as goal

pub returns : goal.returns
returns g c =
    let xs = c.args.list.now in
    let h = layout xs in
    let p = c.args.place in
    let a = get_or_default xs (p + 1) c.index-list-place.result blank c.requires.place in
    let b = get_or_default xs (p + 1) c.index-list-place-2.result blank c.requires.place in
    let back = (get_or xs (p + 1) c.index-list-place-2.result).back in
    let en = ap (λ (r : RingRecord g.row.C.Denot). r.next) a in
    let eb = ap (λ (r : RingRecord g.row.C.Denot). r.back) b in
    let ev = c.unwrap_or-after.ensures ∙ ap (λ z. unwrap_or z back) c.next_place.ensures ∙ ap (λ z. unwrap_or (follower h p) z) eb in
    relinked h (layout c.set_next.new.list) (layout c.set_back.new.list)
    _ (h p).back _ _ _ (h p).next _ (h p).back c.set_next.ensures c.set_back.ensures eb ev en eb
