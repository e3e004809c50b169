-- The via-first tariff: the number of vias decides, then the a + b√2 of the other steps.
use Rattle.std.specs.Prelude.{if◌then◌else◌, ◌≡◌, ℕ, ◌+◌, ◌<◌, Bool, true, ◌&&◌, ◌||◌, ◌⊎◌, List, ◌++◌, Some, None, codes, decimal, Option, ◌==◌, nat_le, nat_lt}
use Rattle.grid.specs.declared.step.Step.{Step}
use Rattle.grid.specs.declared.step.Step.TheVariants.{Straight, Diagonal, Via}
use Rattle.surd.specs.Surds.{surd, is_below, Separated, written}
use Rattle.tariff.specs.Rates.{Rates}
use Rattle.via_first.specs.declared.ViaFirstCost.{ViaFirstCost}

-- v vias, and a + b√2 for the other steps
abbrev pub via_first_cost : ℕ → ℕ → ℕ → ViaFirstCost
via_first_cost v a b = record { vias = v; rest = surd a b }

-- x is below y as a reader would say it: fewer vias, or as many vias and a rest that is less as a real number
abbrev pub FewerViasOrShorter : ViaFirstCost → ViaFirstCost → Type 0
FewerViasOrShorter x y = (x.vias < y.vias) ⊎ ((x.vias ≡ y.vias) × Separated x.rest y.rest)

-- the same as a test
abbrev pub via_first_below : ViaFirstCost → ViaFirstCost → Bool
via_first_below x y = nat_lt x.vias y.vias || (x.vias == y.vias && is_below x.rest y.rest)

-- no count is past 2,097,152
abbrev pub counts_fit : ViaFirstCost → Bool
counts_fit c = nat_le c.vias 2097152 && (nat_le c.rest.a 2097152 && nat_le c.rest.b 2097152)

-- a cost with a count past its limit is refused
abbrev pub via_first_within : ViaFirstCost → Option ViaFirstCost
via_first_within c = if counts_fit c then Some c else None

-- a step counts 1: a straight step in a, a diagonal in b, a via among the vias
abbrev pub via_first_next : ViaFirstCost → Step → ViaFirstCost
via_first_next c Straight = via_first_cost c.vias (c.rest.a + 1) c.rest.b
via_first_next c Diagonal = via_first_cost c.vias c.rest.a (c.rest.b + 1)
via_first_next c Via = via_first_cost (c.vias + 1) c.rest.a c.rest.b

-- what a step makes of a cost
abbrev pub via_first_after : ViaFirstCost → Step → Option ViaFirstCost
via_first_after c k = via_first_within (via_first_next c k)

-- all three steps are there, and costs have no levels
abbrev pub via_first_rates : Rates ViaFirstCost
via_first_rates = record {
  nothing = via_first_cost 0 0 0;
  less = via_first_below;
  has = λ k. true;
  after = via_first_after;
  level = λ c. 0;
  span = 0;
}

-- how a cost is written: 3 vias (2, 1)
abbrev pub via_first_text : ViaFirstCost → List ℕ
via_first_text c = decimal c.vias ++ (codes " vias " ++ written c.rest)
