-- What a wire costs.
use Rattle.std.specs.Prelude.{◌≡◌, ℕ, ◌+◌, ◌<◌, if◌then◌else◌, List, [], ◌∷◌, reverse, Some, None, Ok, Err, Option, Result, nat_lt}
use Rattle.grid.specs.declared.shape.Shape.{Shape}
use Rattle.grid.specs.declared.step.Step.{Step}
use Rattle.grid.specs.Places.{count_of}
use Rattle.grid.specs.Steps.{Joins, step_between}
use Rattle.tariff.specs.Rates.{Rates, charge, AllHad}
use Rattle.pricing.specs.declared.leg.Leg.{Leg}
use Rattle.pricing.specs.declared.fault.StepFault.{StepFault}
use Rattle.pricing.specs.declared.fault.StepFault.TheVariants.{NotJoined, Lacked, Refused}
use Rattle.pricing.specs.declared.fault.WireFault.{WireFault}
use Rattle.pricing.specs.declared.fault.WireFault.TheVariants.{NoPlace, OutsideShape, AtStep}

-- consecutive places of the list are joined by these steps; a place alone is a wire of no steps
abbrev pub Walk : Shape → List ℕ → List Step → Type 0
Walk s [] ks = ⊥
Walk s (p ∷ []) [] = p < count_of s
Walk s (p ∷ []) (k ∷ ks) = ⊥
Walk s (p ∷ (q ∷ ps)) [] = ⊥
Walk s (p ∷ (q ∷ ps)) (k ∷ ks) = Joins s k p q × Walk s (q ∷ ps) ks

-- THE COST OF A WIRE: its places are joined by steps that the tariff has, and nothing followed by these steps is c
pub record Costs {C : Type 0} (t : Rates C) (s : Shape) (ps : List ℕ) (c : C) : Type 0 where
  pub steps : List Step
  pub walk : Walk s ps steps
  pub had : AllHad t steps
  pub charged : charge t (reverse steps) ≡ Some c

-- The same, computed.

-- a step of the kind k, where the wire costs c up to its start
abbrev pub ended : {C : Type 0} → Step → Option C → Result (Leg C) StepFault
ended k None = Err (Refused k)
ended k (Some d) = Ok (record { step = k; cost = d })

abbrev pub leg_price : {C : Type 0} → Rates C → C → Option Step → Result (Leg C) StepFault
leg_price t c None = Err NotJoined
leg_price t c (Some k) = if t.has k then ended k (t.after c k) else Err (Lacked k)

abbrev pub step_price : {C : Type 0} → Rates C → Shape → ℕ → ℕ → C → Result (Leg C) StepFault
step_price t s p q c = leg_price t c (step_between s p q)

-- the price of the rest, from the end of the nth step
abbrev pub go_on : {C : Type 0} → ℕ → Result (Leg C) StepFault → (C → Result C WireFault) → Result C WireFault
go_on n (Err f) rest = Err (AtStep n f)
go_on n (Ok leg) rest = rest leg.cost

-- from the place p on, where the wire costs c up to it and its nth step is next
unfoldable pub price_from : {C : Type 0} → Rates C → Shape → ℕ → ℕ → C → List ℕ → Result C WireFault
price_from t s n p c [] = Ok c
price_from t s n p c (q ∷ qs) = go_on n (step_price t s p q c) (λ d. price_from t s (n + 1) q d qs)

abbrev pub wire_price : {C : Type 0} → Rates C → Shape → List ℕ → Result C WireFault
wire_price t s [] = Err NoPlace
wire_price t s (p ∷ ps) = if nat_lt p (count_of s) then price_from t s 1 p t.nothing ps else Err (OutsideShape p)
