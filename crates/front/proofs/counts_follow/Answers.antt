use Rattle.std.proofs.Common.{refl}
use Rattle.front.proofs.Counting.{counts_follow}
use Rattle.front.proofs.counts_follow.Goals as goal

pub returns : goal.returns
returns g c = record { is = refl; counts = counts_follow g.row.C.Denot }
