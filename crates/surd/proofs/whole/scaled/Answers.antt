use Rattle.std.proofs.Common.{arith}
use Rattle.std.proofs.lemmas.Nat.{mul-le}
use Rattle.surd.proofs.Scale.{quotient_whole}
use Rattle.surd.proofs.whole.scaled.Goals as goal

pub returns : goal.returns
returns c =
    let b = c.args.b in
    let small = mul-le b b 4294967295 4294967295 (omega arith) (omega arith) in
    rw c.from.ensures (quotient_whole b _ _ (omega arith) (omega arith) (omega arith))
