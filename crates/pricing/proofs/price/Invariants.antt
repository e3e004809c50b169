use Rattle.std.proofs.Common.{◌≡◌, ◌+◌, drop}
use Rattle.pricing.specs.Prices.{price_from, wire_price}
use Rattle.pricing.proofs.price.Given as goal

abbrev pub invariant-loop-i : goal.invariant-loop-i
invariant-loop-i g l =
    price_from g.T.Tariff.rates l.shape (l.i-counter + 1) l.from l.cost (drop l.i-counter l.rest) ≡
    wire_price g.T.Tariff.rates l.shape l.wire
