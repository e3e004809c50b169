use Rattle.std.proofs.Common.{◌≡◌, ℕ, ◌%◌, ◌<◌, get_or, None, Option, subst, ⊎_elim, arith, rules}
use Rattle.front.proofs.Changes.{cases_option}
use Rattle.rows.specs.Rows.{base}
use Rattle.ring.specs.Rings.{FoundIn, Found}
use Rattle.ring.proofs.Rounds.{found_ahead, found_rest}
use Rattle.ring.proofs.Ring.first_row.Goals as goal

pub returns : goal.returns
returns g c =
    let s = c.args.self.now in
    let from = c.row_of-from.result in
    let heads : ℕ → Option ℕ = λ k. get_or s.heads k None in
    let e : from ≡ base g.T.Tariff.rates s.last % s.rows = search rules in
    let some = c.requires.some in
    let inside : from < s.rows = omega arith in
    let r = c.or_else.result in
    subst (λ k. Found heads s.rows k r) e
    (⊎_elim
    (λ n.
    let none : FoundIn heads from s.rows None = rw n at c.first_in.ensures in
    let h = rw n at c.or_else.ensures in
    let rest : FoundIn heads 0 from r = search rules in
    found_rest heads s.rows from inside none r rest)
    (λ b.
    let same = rw b.1 at c.or_else.ensures in
    rw same (found_ahead heads s.rows from inside b.0 (rw b.1 at c.first_in.ensures)))
    (cases_option c.first_in.result))
