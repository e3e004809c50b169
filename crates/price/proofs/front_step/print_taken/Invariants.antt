use Rattle.front.specs.Queue.{waiting_count}
use Rattle.price.proofs.front_step.print_taken.Given as goal

abbrev pub invariant-loop-next : goal.invariant-loop-next
invariant-loop-next g l = g.F.Front.ordered l.front

abbrev pub decreases-loop-next : goal.decreases-loop-next
decreases-loop-next g l = waiting_count (g.F.Front.view l.front)
