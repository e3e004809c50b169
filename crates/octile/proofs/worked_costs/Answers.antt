use Rattle.std.proofs.Common.{refl}
use Rattle.surd.specs.Surds.{root_up_to, whole_part}
use Rattle.octile.proofs.worked_costs.Goals as goal

pub returns : goal.returns
unfolding root_up_to whole_part
returns c = record {
  is = refl;
  worked = record { two_diagonals = refl; near = refl; near_lower = refl; near_upper = refl };
}
