use Rattle.std.proofs.Common.{refl}
use Rattle.surd.specs.declared.table.TheConstants.{WHOLE_PARTS}
use Rattle.surd.proofs.Entries.{whole_parts}
use Rattle.surd.proofs.table.whole_parts.Goals as goal

-- the checker computes the test over the whole table
pub returns : goal.returns
returns c = record {
  rule = whole_parts WHOLE_PARTS refl;
  long = refl;
}
