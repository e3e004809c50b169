use Rattle.std.proofs.Common.{◌≡◌, ◌+◌, sym, ap, ◌∙◌, arith}
use Rattle.rows.specs.Waiting.{some_rows}
use Rattle.rows.proofs.Keeping.{few_rows}
use Rattle.ring.proofs.Emptying.{in_order}
use Rattle.ring.proofs.RingCostFront.start.Goals as goal

pub join-requires-clause-order : goal.join-requires-clause-order
join-requires-clause-order g c =
    let t = g.T.Tariff.rates in
    let few = few_rows t.span (ap some_rows (sym c.max_rise-span.ensures) ∙ sym c.if-not-has_rows.ensures) in
    let are : c.row_count.result ≡ t.span + 1 = c.row_count.ensures ∙ ap (λ n. n + 1) c.max_rise-span.ensures in
    in_order c.clear.new.self c.row_count.result c.clear.ensures.emptied (omega arith) (omega arith) t
