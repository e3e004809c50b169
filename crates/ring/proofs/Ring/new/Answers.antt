use Rattle.std.proofs.Common.{lit≤}
use Rattle.rows.specs.Waiting.{layout}
use Rattle.front.specs.Places.{room}
use Rattle.std.proofs.Common.{length}
use Rattle.rows.proofs.Keeping.{empty_sound, no_heads}
use Rattle.ring.proofs.Ring.new.Goals as goal

pub returns-clause-order : goal.returns-clause-order
returns-clause-order g c t = empty_sound t (layout c.args.list.now) (room (length c.args.list.now)) 1 _ (lit≤ tt) (lit≤ tt) (λ k. no_heads 32 k)
