use Rattle.std.proofs.Common.{refl}
use Rattle.grid.specs.Steps.{neighbour_of}
use Rattle.model.specs.Clear.{all_clear}
use Rattle.route.specs.Hops.{gather}
use Rattle.route.specs.Sweep.{row, swept}
use Rattle.route.specs.Wire.{trace_back}
use Rattle.worked.proofs.worked_boards.Goals as goal

pub returns : goal.returns
unfolding neighbour_of all_clear gather row swept trace_back
returns c = record {
  is = refl;
  worked = record {
    bare_cost = refl;
    bare_wire = refl;
    bare_rectilinear = refl;
    crossed_cost = refl;
    crossed_rectilinear = refl;
    blocked_cost = refl;
    row_cost = refl;
    cleared_cost = refl;
    cleared_wire = refl;
  };
}
