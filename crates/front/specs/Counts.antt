-- How the number of waiting places changes with each call of a front.
use Rattle.std.specs.Prelude.{◌≡◌, ℕ, suc, ◌+◌}
use Rattle.grid.specs.declared.step.Step.{Step}
use Rattle.tariff.specs.Rates.{Rates}
use Rattle.front.specs.Queue.{Queue, Started, NotStarted, Offered, NotOffered, Removed, Empty, one_if, waiting_count}

pub record CountsFollow (C : Type 0) : Type 0 where
  -- after a start one place waits
  pub started : (t : Rates C) (p : ℕ) (q q' : Queue C) → Started t p q q' → waiting_count q' ≡ 1
  -- a put adds the place unless it waited already
  pub offered : (t : Rates C) (p : ℕ) (k : Step) (q q' : Queue C) → Offered t p k q q' → one_if (q.waiting p) + waiting_count q' ≡ suc (waiting_count q)
  -- a take removes one
  pub removed : (t : Rates C) (p : ℕ) (c : C) (q q' : Queue C) → Removed t p c q q' → waiting_count q ≡ suc (waiting_count q')
  -- no other call changes the number,
  pub not_started : (t : Rates C) (p : ℕ) (q q' : Queue C) → NotStarted t p q q' → waiting_count q' ≡ waiting_count q
  pub not_offered : (t : Rates C) (p : ℕ) (k : Step) (q q' : Queue C) → NotOffered t p k q q' → waiting_count q' ≡ waiting_count q
  pub empty : (q q' : Queue C) → Empty q q' → waiting_count q' ≡ waiting_count q
  -- and where there is nothing to take it is 0
  pub none : (q q' : Queue C) → Empty q q' → waiting_count q ≡ 0
