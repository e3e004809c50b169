use Rattle.std.proofs.Common.{◌≡◌, length, sym, arith, rules}
use Rattle.rows.proofs.Keeping.{head_inside}
use Rattle.rows.proofs.Filing.{joined}
use Rattle.ring.proofs.Ring.join.Goals as goal

pub link-requires-clause-head : goal.link-requires-clause-head
link-requires-clause-head g c p e =
    let b = head_inside g.T.Tariff.rates c.requires.order c.row_of-row.result p e in
    let len : length c.enter-self.new.list ≡ length c.args.self.now.list.now = search rules in
    omega arith

pub returns : goal.returns
returns g c =
    let s = c.args.self.now in
    let len : length c.link.new.list ≡ length s.list.now = search rules in
    let heads : length s.heads ≡ 32 = search rules in
    let f = joined g.T.Tariff.rates s.list.now s.touched s.rows s.heads s.last c.requires.order heads c.args.place c.args.cost c.requires.free c.requires.near
    c.enter-self.new.list c.enter-self.result c.enter-self.ensures c.row_of-row.result (sym c.row_of-row.ensures) c.link.new.list c.link.ensures len in
    record { order = f.order; change = f.change }
