-- What a front means, and what each of its calls does to that.
use Rattle.std.specs.Prelude.{◌≡◌, ℕ, zero, suc, ◌+◌, ◌<◌, ◌≤◌, Bool, true, false, cond, ◌⊎◌, Some, None, Option, ◌≢◌}
use Rattle.grid.specs.declared.step.Step.{Step}
use Rattle.tariff.specs.Rates.{Rates}
use Rattle.front.specs.declared.Taken.{Taken}

-- THE MEANING OF A FRONT
pub record Queue (C : Type 0) : Type 0 where
  -- the cost at which each place waits; None: it does not wait
  pub waiting : ℕ → Option C
  -- the cost taken last; None: nothing was taken since start
  pub last : Option C
  -- how many places are served: those with a number below this
  pub served : ℕ
  -- which tariffs are served, by their span
  pub spans : ℕ → Bool

-- What is served stays.
pub record Serves {C : Type 0} (q q' : Queue C) : Type 0 where
  pub served : q'.served ≡ q.served
  pub spans : q'.spans ≡ q.spans

-- START: the place p waits at nothing, and no other place waits
pub record Started {C : Type 0} (t : Rates C) (p : ℕ) (q q' : Queue C) : Type 0 where
  pub tariff : q.spans t.span ≡ true
  pub inside : p < q.served
  pub first : q'.waiting p ≡ Some t.nothing
  pub others : (k : ℕ) → (k ≢ p) → q'.waiting k ≡ None
  pub last : q'.last ≡ None
  pub serves : Serves q q'

-- or the place or the tariff is not served, and nothing changes
pub record NotStarted {C : Type 0} (t : Rates C) (p : ℕ) (q q' : Queue C) : Type 0 where
  pub why : (q.spans t.span ≡ false) ⊎ (q.served ≤ p)
  pub same : q' ≡ q

abbrev pub Starts : {C : Type 0} → Rates C → ℕ → Queue C → Queue C → Bool → Type 0
Starts t p q q' true = Started t p q q'
Starts t p q q' false = NotStarted t p q q'

-- what one step makes of the cost taken last; None where there is no such cost, or the tariff lacks or refuses the step
abbrev pub offer : {C : Type 0} → Rates C → Option C → Step → Option C
offer t None k = None
offer t (Some c) k = cond (t.has k) (t.after c k) None

-- the smaller of the cost at which a place waits, if it does, and a new one
abbrev pub smaller : {C : Type 0} → Rates C → Option C → C → C
smaller t None c = c
smaller t (Some d) c = cond (t.less c d) c d

-- PUT: the place p waits at the smaller of the offer and any cost at which it waited, and every other place as before
pub record Offered {C : Type 0} (t : Rates C) (p : ℕ) (k : Step) (q q' : Queue C) : Type 0 where
  pub inside : p < q.served
  pub cost : C
  pub offered : offer t q.last k ≡ Some cost
  pub here : q'.waiting p ≡ Some (smaller t (q.waiting p) cost)
  pub others : (j : ℕ) → (j ≢ p) → q'.waiting j ≡ q.waiting j
  pub last : q'.last ≡ q.last
  pub serves : Serves q q'

-- or the place is not served or there is no offer, and nothing changes
pub record NotOffered {C : Type 0} (t : Rates C) (p : ℕ) (k : Step) (q q' : Queue C) : Type 0 where
  pub why : (q.served ≤ p) ⊎ (offer t q.last k ≡ None)
  pub same : q' ≡ q

abbrev pub Puts : {C : Type 0} → Rates C → ℕ → Step → Queue C → Queue C → Bool → Type 0
Puts t p k q q' true = Offered t p k q q'
Puts t p k q q' false = NotOffered t p k q q'

-- TAKE: the place p waited at c, waits no more, and the others are as they were
pub record Removed {C : Type 0} (t : Rates C) (p : ℕ) (c : C) (q q' : Queue C) : Type 0 where
  pub inside : p < q.served
  pub was : q.waiting p ≡ Some c
  pub gone : q'.waiting p ≡ None
  pub others : (j : ℕ) → (j ≢ p) → q'.waiting j ≡ q.waiting j
  pub last : q'.last ≡ Some c
  pub serves : Serves q q'
  -- c is less than what any step makes of any waiting cost
  pub early : (j : ℕ) (d x : C) (k : Step) → q.waiting j ≡ Some d → t.after d k ≡ Some x → t.less c x ≡ true

-- or nothing waits, and nothing changes
pub record Empty {C : Type 0} (q q' : Queue C) : Type 0 where
  pub none : (j : ℕ) → q.waiting j ≡ None
  pub same : q' ≡ q

abbrev pub Takes : {C : Type 0} → Rates C → Queue C → Queue C → Option (Taken C) → Type 0
Takes t q q' None = Empty q q'
Takes t q q' (Some x) = Removed t x.place x.cost q q'

-- HOW MANY PLACES WAIT, of the first n
abbrev pub one_if : {C : Type 0} → Option C → ℕ
one_if None = 0
one_if (Some c) = 1

unfoldable pub waiters : {C : Type 0} → (ℕ → Option C) → ℕ → ℕ
waiters f zero = 0
waiters f (suc n) = one_if (f n) + waiters f n

abbrev pub waiting_count : {C : Type 0} → Queue C → ℕ
waiting_count q = waiters q.waiting q.served
