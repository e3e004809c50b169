-- How many places wait after each call of a front.
use Rattle.std.proofs.Common.{◌≡◌, ℕ, zero, suc, ◌+◌, ◌<◌, None, Option, sym, refl, ap, ◌∙◌, ⊎_elim, arith}
use Rattle.std.proofs.lemmas.Bool.{cases_eq}
use Rattle.front.specs.Queue.{Queue, one_if, waiters, waiting_count}
use Rattle.front.specs.Counts.{CountsFollow}

module _ {C : Type 0} where
  -- none of the first n waits
  pub waiters_none : (f : ℕ → Option C) (n : ℕ) → ((j : ℕ) → f j ≡ None) → waiters f n ≡ 0
  unfolding waiters
  waiters_none f zero h = refl
  waiters_none f (suc n) h = let e = ap one_if (h n) in let r = waiters_none f n h in omega arith

  -- the same of the first n wait
  pub waiters_same : (f g : ℕ → Option C) (n : ℕ) → ((j : ℕ) → j < n → g j ≡ f j) → waiters g n ≡ waiters f n
  unfolding waiters
  waiters_same f g zero h = refl
  waiters_same f g (suc n) h = let e = ap one_if (h n (omega arith)) in let r = waiters_same f g n (λ j l. h j (omega arith)) in omega arith

  -- f and g differ at p alone
  pub waiters_but : (f g : ℕ → Option C) (p n : ℕ) → p < n → ((j : ℕ) → (j ≡ p → ⊥) → g j ≡ f j) → one_if (f p) + waiters g n ≡ one_if (g p) + waiters f n
  unfolding waiters
  waiters_but f g p zero l h = absurd (omega arith)
  waiters_but f g p (suc n) l h = ⊎_elim
      (λ e. let s = waiters_same f g n (λ j m. h j (λ x. omega arith)) in let a = ap (λ x. one_if (f x)) e in let b = ap (λ x. one_if (g x)) e in omega arith)
      (λ ne. let r = waiters_but f g p n (omega arith) h in let e = ap one_if (h n (λ x. ne (sym x))) in omega arith)
      (cases_eq p n)

  -- the same for two queues that serve the same places
  pub count_but : (q q' : Queue C) (p : ℕ) → q'.served ≡ q.served → p < q.served → ((j : ℕ) → (j ≡ p → ⊥) → q'.waiting j ≡ q.waiting j) →
      one_if (q.waiting p) + waiting_count q' ≡ one_if (q'.waiting p) + waiting_count q
  count_but q q' p e l h = ap (λ n. one_if (q.waiting p) + waiters q'.waiting n) e ∙ waiters_but q.waiting q'.waiting p q.served l h

pub counts_follow : (C : Type 0) → CountsFollow C
counts_follow C = record {
  started = λ t p q q' s.
      let none : ℕ → Option C = λ _. None in
      let z = waiters_none none q'.served (λ j. refl) in
      let l = s.inside in
      let b = waiters_but none q'.waiting p q'.served (omega (arith, s.serves.served)) s.others in
      let e = ap one_if s.first in
      omega arith;
  offered = λ t p k q q' o.
      let b = count_but q q' p o.serves.served o.inside o.others in
      let e = ap one_if o.here in
      omega arith;
  removed = λ t p c q q' r.
      let b = count_but q q' p r.serves.served r.inside r.others in
      let e = ap one_if r.was in
      let e' = ap one_if r.gone in
      omega arith;
  not_started = λ t p q q' n. ap waiting_count n.same;
  not_offered = λ t p k q q' n. ap waiting_count n.same;
  empty = λ q q' e. ap waiting_count e.same;
  none = λ q q' e. waiters_none q.waiting q.served e.none;
}
