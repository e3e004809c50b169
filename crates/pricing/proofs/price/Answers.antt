use Rattle.std.proofs.Common.{◌≡◌, ◌+◌, Result, Ok, Err, refl, arith, rules}
use Rattle.pricing.specs.declared.leg.Leg.{Leg}
use Rattle.pricing.specs.declared.fault.StepFault.{StepFault}
use Rattle.pricing.specs.declared.fault.WireFault.TheVariants.{AtStep}
use Rattle.pricing.specs.Prices.{wire_price}
use Rattle.pricing.proofs.Pricing.{price_stops, price_goes, price_all, price_is_cost}
use Rattle.pricing.proofs.price.Goals as goal

pub returns-in_err-leg : goal.returns-in_err-leg
returns-in_err-leg g c = let is = stops c.price_step.result refl in record { is = is; wire = price_is_cost _ _ _ _ is }
  where
    stops : (r : Result (Leg g.row.T-Cost.Denot) StepFault) → c.price_step.result ≡ r →
        c.from_residual-in_err-leg.result ≡ wire_price g.T.Tariff.rates c.args.shape c.args.wire.now
    stops (Ok leg) e = absurd (search rules)
    stops (Err fault) e =
        let gives : c.from_residual-in_err-leg.result ≡ Err (AtStep (c.loop-i.i-counter + 1) fault) = search rules in
        let rest = price_stops g.T.Tariff.rates c.args.shape c.in_ok-start.rest.now c.loop-i.i-counter (c.loop-i.i-counter + 1) c.loop-i.from c.loop-i.cost fault (omega arith) (cc (c.price_step.ensures)) in
        cc (c.loop-i.invariant)

pub loop-i-preserved : goal.loop-i-preserved
loop-i-preserved g c =
    let gives : Ok c.in_ok-leg.leg ≡ c.price_step.result = search rules in
    let rest = price_goes g.T.Tariff.rates c.args.shape c.in_ok-start.rest.now c.loop-i.i-counter (c.loop-i.i-counter + 1) c.loop-i.from c.loop-i.cost c.in_ok-leg.leg (omega arith) (cc (c.price_step.ensures)) in
    cc (c.loop-i.invariant)

pub returns : goal.returns
returns g c =
    let all = price_all g.T.Tariff.rates c.args.shape c.in_ok-start.rest.now c.loop-i.i-counter (c.loop-i.i-counter + 1) c.loop-i.from c.loop-i.cost (omega arith) in
    let is : Ok c.loop-i.cost ≡ wire_price g.T.Tariff.rates c.args.shape c.args.wire.now = cc (c.loop-i.invariant) in
    record { is = is; wire = price_is_cost _ _ _ _ is }
