use Rattle.std.proofs.Common.{◌≡◌, length, set, sym, refl, subst, arith, rules}
use Rattle.rows.specs.Rows.{Ordered}
use Rattle.rows.proofs.Keeping.{filed_inside, next_inside, back_inside}
use Rattle.rows.proofs.Filing.{left}
use Rattle.ring.proofs.Ring.leave.Goals as goal

pub unlink-requires-clause-next : goal.unlink-requires-clause-next
unlink-requires-clause-next g c =
    let j = next_inside g.T.Tariff.rates c.requires.order c.args.row c.args.place c.requires.filed in
    omega arith

pub unlink-requires-clause-back : goal.unlink-requires-clause-back
unlink-requires-clause-back g c e =
    let k = back_inside g.T.Tariff.rates c.requires.order c.args.row c.args.place c.requires.filed e in
    omega arith

pub set_cost-requires : goal.set_cost-requires
set_cost-requires g c =
    let i = filed_inside g.T.Tariff.rates c.requires.order c.args.row c.args.place c.requires.filed in
    let len : length c.unlink.new.list ≡ length c.args.self.now.list.now = search rules in
    omega arith

pub returns : goal.returns
returns g c =
    let t = g.T.Tariff.rates in
    let s = c.args.self.now in
    let zs = c.set_cost.new.list in
    let r = c.args.row in
    let len : length zs ≡ length s.list.now = search rules in
    let heads : length s.heads ≡ 32 = search rules in
    let f = left t s.list.now s.touched s.rows s.heads s.last c.requires.order heads c.args.place r c.requires.filed
    c.unlink.new.list zs c.unlink.ensures.records c.set_cost.ensures len in
    record {
      order = subst (λ v. Ordered t zs s.touched s.rows (set s.heads r v) s.last) (sym c.unlink.ensures.head) f.order;
      change = f.change;
      rows = refl;
    }
