use Rattle.std.proofs.Common.{◌≡◌, ◌<◌, ◌∷◌, arith, rules}
use Rattle.std.proofs.iter.Next.{firm}
use Rattle.trace.specs.Walk.{places_left, to_come}
use Rattle.trace.proofs.Stepping.{comes_last, comes_next, fewer}
use Rattle.trace.proofs.walk.TraceIterator.next.Goals as goal
use Rattle.trace.proofs.walk.TraceIterator.next.Goals.{then-self-eq0, else-self-eq0}

pub returns : goal.returns
returns g c =
    let t = g.T.Tariff.rates in
    let s = c.args.self.now in
    let e : places_left t s ≡ c.in_ok-place.place ∷ to_come t s.shape s.start s.labels.now c.if-self-eq0.self c.saturating_sub-self.result = elim c.if-self-eq0.branch [
      | then-self-eq0 w ↦ rw w.self-is (comes_last t s.shape s.start s.labels.now s.place s.steps c.in_ok-place.place c.in_ok-place.was w.if-self-eq0.true)
      | else-self-eq0 w ↦
          let l : 0 < s.steps = omega (arith, w.if-self-eq0.false) in
          rw (w.self-is, c.saturating_sub-self.ensures) (comes_next t s.shape s.start s.labels.now s.place s.steps c.in_ok-place.place w.before-self.result c.in_ok-place.was l w.before-self.ensures)
    ] in
    record { steps = e; goes = firm ((tt, tt, fewer e)) (λ h. search rules) }
