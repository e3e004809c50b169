use Rattle.std.proofs.Common.{◌≡◌, ◌≤◌, length}
use Rattle.std.specs.Iterator.Adapters.{rev_source, zip_first, zip_second}
use Rattle.trace.specs.Walk.{places_left}
use Rattle.trace.proofs.Walking.{filled}
use Rattle.trace.proofs.wire.write_back.Given as goal

abbrev pub invariant-loop-index : goal.invariant-loop-index
invariant-loop-index g l = record {
  can : (goal.iterator-loop-index g).can_next l.index-iterator;
  finite : (goal.iterator-loop-index g).is_finite l.index-iterator;
  from : (rev_source (zip_first l.index-iterator)).start ≡ 0;
  left : (rev_source (zip_first l.index-iterator)).end ≡ length (places_left g.T.Tariff.rates (zip_second l.index-iterator));
  within : (rev_source (zip_first l.index-iterator)).end ≤ length l.path;
  same : filled (places_left g.T.Tariff.rates (zip_second l.index-iterator)) l.path ≡ filled (places_left g.T.Tariff.rates (zip_second l.initial.index-iterator)) l.initial.path;
}
