use Rattle.std.proofs.Common.{◌≡◌, rules}
use Rattle.surd.specs.Surds.{whole_part}
use Rattle.surd.proofs.Roots.{whole_squares}
use Rattle.surd.proofs.whole.whole_part.Goals as goal

pub returns-clause-square : goal.returns-clause-square
returns-clause-square c =
    let is : c.map_or_else.result ≡ whole_part c.args.b = search rules in
    rw is (whole_squares c.args.b)
