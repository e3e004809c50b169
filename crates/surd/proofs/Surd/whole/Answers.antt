use Rattle.std.proofs.Common.{arith}
use Rattle.surd.proofs.Roots.{whole_small}
use Rattle.surd.proofs.Surd.whole.Goals as goal

pub overflow_add-result : goal.overflow_add-result
overflow_add-result c = record { fits = omega (arith, whole_small c.args.self.b) }
