use Rattle.std.proofs.Common.{arith}
use Rattle.front.proofs.Counting.{counts_follow}
use Rattle.price.proofs.front_step.print_taken.Goals as goal

pub loop-next-smaller : goal.loop-next-smaller
loop-next-smaller g c =
    omega (arith, (counts_follow g.row.T-Cost.Denot).removed g.T.Tariff.rates c.in-Some.next.place c.in-Some.next.cost _ _ c.in-Some.ensures.acts)
