use Rattle.std.proofs.Common.{sym, refl, ◌∙◌, ⊎_elim, arith}
use Rattle.rows.proofs.Keeping.{none_waits, head_inside, first_waits, first_early}
use Rattle.front.proofs.Changes.{cases_option}
use Rattle.front.proofs.Offers.{here, others}
use Rattle.ring.proofs.Taking.{taken_order}
use Rattle.ring.proofs.RingCostFront.take.Goals as goal

pub returns-in_err-first-clause-acts : goal.returns-in_err-first-clause-acts
returns-in_err-first-clause-acts g c =
    rw c.from_residual.ensures (record { none = none_waits g.T.Tariff.rates c.requires _ refl c.in_err-first.ensures; same = refl })

pub waiting_at-requires-clause-inside : goal.waiting_at-requires-clause-inside
waiting_at-requires-clause-inside g c =
    let b = c.in_ok-first.first in
    let i = head_inside g.T.Tariff.rates c.requires b.row b.head c.in_ok-first.ensures.head_is in
    omega arith

pub unwrap-cost-requires : goal.unwrap-cost-requires
unwrap-cost-requires g c =
    let b = c.in_ok-first.first in
    ⊎_elim
    (λ e. absurd (first_waits g.T.Tariff.rates c.requires _ refl b.row b.head c.in_ok-first.ensures (sym c.waiting_at.ensures ∙ e)))
    (λ x. rw x.1)
    (cases_option c.waiting_at.result)

pub returns-clause-acts : goal.returns-clause-acts
returns-clause-acts g c =
    let t = g.T.Tariff.rates in
    let b = c.in_ok-first.first in
    let x = c.unwrap-cost.result in
    let e = c.leave.ensures.change in
    let w = sym c.waiting_at.ensures ∙ c.unwrap-cost.ensures in
    let f = c.in_ok-first.ensures in
    let i = head_inside t c.requires b.row b.head f.head_is in
    record {
      inside = omega arith;
      was = w;
      gone = here e;
      others = others e;
      last = refl;
      serves = record { served = e.serves.served; spans = refl };
      early = first_early t c.requires _ refl b.row b.head f x w g.met.T.Tariff.laws;
    }

pub returns-clause-kept : goal.returns-clause-kept
returns-clause-kept g c =
    let b = c.in_ok-first.first in
    taken_order g.T.Tariff.rates c.args.self.now c.leave.new.self c.requires _ b.row b.head refl c.in_ok-first.ensures c.unwrap-cost.result
    (sym c.waiting_at.ensures ∙ c.unwrap-cost.ensures) c.leave.ensures.order c.leave.ensures.change c.leave.ensures.rows
