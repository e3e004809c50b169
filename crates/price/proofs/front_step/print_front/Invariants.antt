use Rattle.price.proofs.front_step.print_front.Given as goal

abbrev pub invariant-loop-place : goal.invariant-loop-place
invariant-loop-place g l = g.F.Front.ordered l.front
