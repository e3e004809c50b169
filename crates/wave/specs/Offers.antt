-- The offers that a place makes once it is taken, on the state of a search.
use Rattle.std.specs.Prelude.{◌≡◌, ℕ, List, [], Some, None, Option, slice_index_or}
use Rattle.tariff.specs.Rates.{Rates}
use Rattle.front.specs.Queue.{Queue, Serves}
use Rattle.model.specs.Sheets.{Ground}
use Rattle.route.specs.Hops.{Hop}
use Rattle.route.specs.Paths.{maze}
use Rattle.route.specs.Queue.{State, Offered, Took}

-- the state of a search, as the labels and the front hold it; n places are labelled
abbrev pub state_of : {C : Type 0} → List (Option C) → Queue C → ℕ → State C
state_of xs q n = record { label = λ p. slice_index_or xs p None; waiting = q.waiting; taken = n }

-- the place at the end of the hop h was offered the cost taken last and the step
pub record Offers {C : Type 0} (t : Rates C) (g : Ground) (net : ℕ) (xs : List (Option C)) (q q' : Queue C) (h : Hop) : Type 0 where
  pub serves : Serves q q'
  pub last : q'.last ≡ q.last
  pub offered : (start n : ℕ) (c : C) → q.last ≡ Some c → Offered t (maze g net start) (state_of xs q n) c h (state_of xs q' n)

-- and so was each of hs
pub record OffersAll {C : Type 0} (t : Rates C) (g : Ground) (net : ℕ) (xs : List (Option C)) (q q' : Queue C) (hs : List Hop) : Type 0 where
  pub serves : Serves q q'
  pub last : q'.last ≡ q.last
  pub took : (start n p : ℕ) (s : State C) (c : C) → q.last ≡ Some c →
      Took t (maze g net start) s p c [] (state_of xs q n) → Took t (maze g net start) s p c hs (state_of xs q' n)
