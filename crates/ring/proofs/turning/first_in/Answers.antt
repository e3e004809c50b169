use Rattle.std.proofs.Common.{slice_index_or, None, rules}
use Rattle.ring.proofs.Finding.{found_over}
use Rattle.ring.proofs.turning.first_in.Goals as goal

pub returns : goal.returns
returns c = found_over (λ k. slice_index_or c.args.heads.now k None) (λ x r q k. search rules) c.find_map.result c.find_map.ensures.runs
