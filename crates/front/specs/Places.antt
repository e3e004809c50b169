-- The places of a front: how many have records in its list, and what changes where one of them does.
use Rattle.std.specs.Prelude.{◌≡◌, ℕ, ◌-◌, min, Some, Option, ◌==◌, if◌then◌else◌}
use Rattle.tariff.specs.Rates.{Rates}
use Rattle.front.specs.Queue.{Queue, Serves, smaller}

-- how many places a list of n records has: one fewer, and no more than there are u32
abbrev pub room : ℕ → ℕ
room n = min (n - 1) 4294967296

-- a function, changed at one argument
abbrev pub changed : {X : Type 0} → (ℕ → X) → ℕ → X → ℕ → X
changed f i x k = if k == i then x else f k

-- the place p waits at c, or not where there is no c, and nothing else changes
pub record Waits {C : Type 0} (q q' : Queue C) (p : ℕ) (c : Option C) : Type 0 where
  pub waiting : (k : ℕ) → q'.waiting k ≡ changed q.waiting p c k
  pub last : q'.last ≡ q.last
  pub serves : Serves q q'

-- the place p waits at the smaller of c and any cost at which it waited
abbrev pub Offers : {C : Type 0} → Rates C → Queue C → Queue C → ℕ → C → Type 0
Offers t q q' p c = Waits q q' p (Some (smaller t (q.waiting p) c))
