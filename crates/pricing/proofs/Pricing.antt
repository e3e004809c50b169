-- The price that is computed is what the wire costs.
use Rattle.std.proofs.Common.{◌≡◌, ℕ, ◌+◌, ◌<◌, ◌≤◌, Bool, true, false, cond, ltb, ◌↔◌, List, [], ◌∷◌, length, slice_index_or, drop, Some, None, Ok, Err, Option, Result, sym, refl, ap, ◌∙◌, ⊎_elim}
use mathlib.Core.List.{reverse_aux}
use Rattle.std.proofs.lemmas.List.{drop_more, drop_all}
use Rattle.std.proofs.lemmas.Bool.{cases_lt, lt-ltb, le-ltb, cond-true, cond-false}
use Rattle.grid.specs.declared.shape.Shape.{Shape}
use Rattle.grid.specs.declared.step.Step.{Step}
use Rattle.grid.specs.Places.{count_of}
use Rattle.grid.specs.Steps.{step_between}
use Rattle.grid.proofs.Between.{between_joins}
use Rattle.tariff.specs.Rates.{Rates, followed, charge, AllHad}
use Rattle.pricing.specs.declared.leg.Leg.{Leg}
use Rattle.pricing.specs.declared.fault.StepFault.{StepFault}
use Rattle.pricing.specs.declared.fault.StepFault.TheVariants.{Lacked}
use Rattle.pricing.specs.declared.fault.WireFault.{WireFault}
use Rattle.pricing.specs.declared.fault.WireFault.TheVariants.{AtStep}
use Rattle.pricing.specs.Prices.{Walk, Costs, ended, leg_price, step_price, go_on, price_from, wire_price}

module _ {C : Type 0} (t : Rates C) (s : Shape) where
  -- one step of the loop
  price_more : (ws : List ℕ) (i n p : ℕ) (c : C) → i < length ws →
      price_from t s n p c (drop i ws) ≡
      go_on n (step_price t s p (slice_index_or ws i 0) c) (λ d. price_from t s (n + 1) (slice_index_or ws i 0) d (drop (i + 1) ws))
  unfolding price_from
  price_more ws i n p c h = ap (price_from t s n p c) (drop_more ws i 0 h)

  -- it is none
  pub price_stops : (ws : List ℕ) (i n p : ℕ) (c : C) (f : StepFault) → i < length ws → Err f ≡ step_price t s p (slice_index_or ws i 0) c →
      Err (AtStep n f) ≡ price_from t s n p c (drop i ws)
  price_stops ws i n p c f h e =
      ap (λ r. go_on n r (λ d. price_from t s (n + 1) (slice_index_or ws i 0) d (drop (i + 1) ws))) e ∙ sym (price_more ws i n p c h)

  -- it is one
  pub price_goes : (ws : List ℕ) (i n p : ℕ) (c : C) (leg : Leg C) → i < length ws → Ok leg ≡ step_price t s p (slice_index_or ws i 0) c →
      price_from t s (n + 1) (slice_index_or ws i 0) leg.cost (drop (i + 1) ws) ≡ price_from t s n p c (drop i ws)
  price_goes ws i n p c leg h e =
      ap (λ r. go_on n r (λ d. price_from t s (n + 1) (slice_index_or ws i 0) d (drop (i + 1) ws))) e ∙ sym (price_more ws i n p c h)

  -- and its end
  pub price_all : (ws : List ℕ) (i n p : ℕ) (c : C) → length ws ≤ i → price_from t s n p c (drop i ws) ≡ Ok c
  unfolding price_from
  price_all ws i n p c h = ap (price_from t s n p c) (drop_all i ws h)

  -- the rest of a wire, from the place p on: `done` are the steps up to p, the last one first
  record Rest (p : ℕ) (ps : List ℕ) (done : List Step) (d : C) : Type 0 where
    steps : List Step
    walk : Walk s (p ∷ ps) steps
    had : AllHad t steps
    charged : charge t (reverse_aux steps done) ≡ Some d

  -- a priced step, taken apart
  record Stepped (p q : ℕ) (c e : C) : Type 0 where
    by : Step
    between : step_between s p q ≡ Some by
    had : t.has by ≡ true
    made : t.after c by ≡ Some e

  -- a price that goes on: the step is there, and so is the price of the rest
  record Gone (n p q : ℕ) (c : C) (rest : C → Result C WireFault) (d : C) : Type 0 where
    cost : C
    step : Stepped p q c cost
    on : rest cost ≡ Ok d

  gone : (n p q : ℕ) (c : C) (rest : C → Result C WireFault) (d : C) → go_on n (step_price t s p q c) rest ≡ Ok d → Gone n p q c rest d
  gone n p q c rest d e = joined (step_between s p q) refl e
    where
      made : (k : Step) → step_between s p q ≡ Some k → t.has k ≡ true → (o : Option C) → t.after c k ≡ o → go_on n (ended k o) rest ≡ Ok d → Gone n p q c rest d
      made k b h None a e = cc
      made k b h (Some x) a e = record { cost = x; step = record { by = k; between = b; had = h; made = a }; on = e }

      had : (k : Step) → step_between s p q ≡ Some k → (h : Bool) → t.has k ≡ h → go_on n (cond h (ended k (t.after c k)) (Err (Lacked k))) rest ≡ Ok d → Gone n p q c rest d
      had k b true h e = made k b h (t.after c k) refl e
      had k b false h e = cc

      joined : (o : Option Step) → step_between s p q ≡ o → go_on n (leg_price t c o) rest ≡ Ok d → Gone n p q c rest d
      joined None b e = cc
      joined (Some k) b e = had k b (t.has k) refl e

  came : (n p q : ℕ) (c e : C) (rest : C → Result C WireFault) → Stepped p q c e → go_on n (step_price t s p q c) rest ≡ rest e
  came n p q c e rest x = rw (x.between, x.had, x.made) refl

  -- what is priced is a wire
  rest_from : (ps : List ℕ) (n p : ℕ) (c d : C) (done : List Step) → p < count_of s → charge t done ≡ Some c → price_from t s n p c ps ≡ Ok d → Rest p ps done d
  unfolding price_from
  rest_from [] n p c d done h e f = record { steps = []; walk = h; had = tt; charged = e ∙ (let g : c ≡ d = cc in ap Some g) }
  rest_from (q ∷ qs) n p c d done h e f =
      let x = gone n p q c (λ z. price_from t s (n + 1) q z qs) d f in
      let k = x.step.by in
      let j = (between_joins s p q (step_between s p q) refl k).0 x.step.between in
      let r = rest_from qs (n + 1) q x.cost d (k ∷ done) j.to (ap (λ o. followed t o k) e ∙ x.step.made) x.on in
      record { steps = k ∷ r.steps; walk = (j, r.walk); had = (x.step.had, r.had); charged = r.charged }

  -- no refused cost is mended by more steps
  before : (k : Step) (o : Option C) (d : C) → followed t o k ≡ Some d → (c : C) × (o ≡ Some c)
  before k None d e = cc
  before k (Some c) d e = (c, refl)

  earlier : (ks done : List Step) (d : C) → charge t (reverse_aux ks done) ≡ Some d → (c : C) × (charge t done ≡ Some c)
  earlier [] done d e = (d, e)
  earlier (k ∷ ks) done d e = let (b, f) = earlier ks (k ∷ done) d e in before k (charge t done) b f

  -- a wire is priced
  price_of : (ps : List ℕ) (n p : ℕ) (c d : C) (done ks : List Step) → charge t done ≡ Some c → Walk s (p ∷ ps) ks → AllHad t ks → charge t (reverse_aux ks done) ≡ Some d → price_from t s n p c ps ≡ Ok d
  unfolding price_from
  price_of [] n p c d done [] e w a f = ap Ok (let g : Some c ≡ Some d = sym e ∙ f in cc)
  price_of [] n p c d done (k ∷ ks) e w a f = absurd w
  price_of (q ∷ qs) n p c d done [] e w a f = absurd w
  price_of (q ∷ qs) n p c d done (k ∷ ks) e w a f =
      let (b, g) = earlier ks (k ∷ done) d f in
      let made : t.after c k ≡ Some b = sym (ap (λ o. followed t o k) e) ∙ g in
      let x : Stepped p q c b = record { by = k; between = (between_joins s p q (step_between s p q) refl k).1 w.0; had = a.0; made = made } in
      came n p q c b (λ z. price_from t s (n + 1) q z qs) x ∙ price_of qs (n + 1) q b d (k ∷ done) ks g w.1 a.1 f

  first_inside : (p : ℕ) (ps : List ℕ) (ks : List Step) → Walk s (p ∷ ps) ks → p < count_of s
  first_inside p [] [] w = w
  first_inside p [] (k ∷ ks) w = absurd w
  first_inside p (q ∷ ps) [] w = absurd w
  first_inside p (q ∷ ps) (k ∷ ks) w = w.0.from

  costs_from : (ws : List ℕ) (d : C) → wire_price t s ws ≡ Ok d → Costs t s ws d
  costs_from [] d e = cc
  costs_from (p ∷ ps) d e = ⊎_elim
      (λ h.
      let f = sym (cond-true (ltb p (count_of s)) (price_from t s 1 p t.nothing ps) _ (lt-ltb _ _ h)) ∙ e in
      let r = rest_from ps 1 p t.nothing d [] h refl f in
      record { steps = r.steps; walk = r.walk; had = r.had; charged = r.charged })
      (λ h. let f = sym (cond-false (ltb p (count_of s)) (price_from t s 1 p t.nothing ps) _ (le-ltb _ _ h)) ∙ e in cc)
      (cases_lt p (count_of s))

  price_from_costs : (ws : List ℕ) (d : C) → Costs t s ws d → wire_price t s ws ≡ Ok d
  price_from_costs [] d x = absurd x.walk
  price_from_costs (p ∷ ps) d x =
      cond-true (ltb p (count_of s)) _ _ (lt-ltb _ _ (first_inside p ps x.steps x.walk)) ∙
      price_of ps 1 p t.nothing d [] x.steps refl x.walk x.had x.charged

  pub price_is_cost : (ws : List ℕ) (r : Result C WireFault) → r ≡ wire_price t s ws → (d : C) → (r ≡ Ok d) ↔ Costs t s ws d
  price_is_cost ws r e d = (λ h. costs_from ws d (sym e ∙ h), λ x. e ∙ price_from_costs ws d x)
