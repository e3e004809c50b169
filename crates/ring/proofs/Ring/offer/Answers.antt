use Rattle.std.proofs.Common.{◌≡◌, Some, sym, subst, ◌∙◌, ⊎_elim, rules}
use Rattle.front.specs.Queue.{smaller}
use Rattle.front.specs.Places.{Waits}
use Rattle.front.proofs.Changes.{cases_option}
use Rattle.front.proofs.Offers.{twice, smaller_none, smaller_less}
use Rattle.ring.specs.Rings.{view_of}
use Rattle.ring.proofs.Ring.offer.Goals as goal

pub returns-then-is_none_or-clause-change : goal.returns-then-is_none_or-clause-change
returns-then-is_none_or-clause-change g c =
    let t = g.T.Tariff.rates in
    let q = view_of c.args.self.now in
    let p = c.args.place in
    let x = c.args.cost in
    let o = q.waiting p in
    let r = view_of c.join.new.self in
    let lowered : smaller t o x ≡ x = ⊎_elim
    (λ e. smaller_none t o x e)
    (λ d. smaller_less t o x d.0 d.1 (
    let e : c.waiting_at-old.result ≡ Some d.0 = c.waiting_at-old.ensures ∙ d.1 in
    let h = rw e at c.is_none_or.ensures in
    let r = c.if-is_none_or.true in
    search rules))
    (cases_option o) in
    subst (λ z. Waits q r p (Some z)) (sym lowered) (twice c.withdraw.ensures.change c.join.ensures.change)
