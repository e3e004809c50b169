-- A tariff as far as a record of calls can know it, in Type 0: which steps it has, and which of two rows of steps it charges less for.
-- The wire, said of paths alone, is what is traced. Assumes nothing.
use Rattle.std.specs.Prelude.{◌≡◌, ℕ, Bool, true, false, List, [], ◌∷◌, ◌++◌, Some, None, Option}
use Rattle.grid.specs.declared.step.Step.{Step}
use Rattle.tariff.specs.Rates.{Rates, charge}
use Rattle.route.proofs.Lawful.{Lawful}
use Rattle.route.specs.Hops.{Hop, Among}
use Rattle.route.specs.Search.{Maze, Route, end, steps}
use Rattle.route.proofs.Traces.{Numbered, trace}
use Rattle.route.specs.Wire.{Known}
use Rattle.std.proofs.Common.{◌≡◌, ℕ, false, List, Some, sym, subst₂}
use Rattle.tariff.specs.Rates.{Rates}
use Rattle.route.proofs.Lawful.{Lawful}
use Rattle.route.specs.Hops.{Hop}
use Rattle.route.specs.Search.{Maze, Route, Least, cost}
use Rattle.route.proofs.Order.{costed}

-- rows of steps have their last step first
pub record Rule : Type 0 where
  pub has : Step → Bool
  pub cheaper : List Step → List Step → Bool

abbrev pub lower : {C : Type 0} → Rates C → Option C → Option C → Bool
lower t None o = false
lower t (Some a) None = true
lower t (Some a) (Some b) = t.less a b

abbrev pub rule_of : {C : Type 0} → Rates C → Rule
rule_of t = record { has = t.has; cheaper = λ js ks. lower t (charge t js) (charge t ks) }

abbrev pub Tie : Rule → List Step → List Step → Type 0
Tie r js ks = (r.cheaper js ks ≡ false) × (r.cheaper ks js ≡ false)

-- w is a legal path of at most `limit` steps to p, and no other is charged less
pub record Best (r : Rule) (m : Maze) (limit p : ℕ) (w : List Hop) : Type 0 where
  pub route : Route r.has m limit p w
  pub best : (u : List Hop) → Route r.has m limit p u → r.cheaper (steps u) (steps w) ≡ false

-- some best path to x's place, and the step from there, are charged as ks are
pub record Accounts (r : Rule) (m : Maze) (limit : ℕ) (x : Hop) (ks : List Step) : Type 0 where
  pub has : r.has x.by ≡ true
  pub path : List Hop
  pub best : Best r m limit x.to path
  pub tie : Tie r (x.by ∷ steps path) ks

-- x is the first of hs that accounts for ks
pub record First (r : Rule) (m : Maze) (limit : ℕ) (hs : List Hop) (x : Hop) (ks : List Step) : Type 0 where
  pub front : List Hop
  pub back : List Hop
  pub place : hs ≡ front ++ (x ∷ back)
  pub first : (y : Hop) → Among y front → Accounts r m limit y ks → ⊥

-- THE WIRE: a best path to p, that comes to each of its places from the first neighbour that accounts for it
abbrev pub Wire : Rule → Maze → ℕ → ℕ → List Hop → Type 0
Wire r m limit p [] = Best r m limit p []
Wire r m limit p (h ∷ w) = Best r m limit p (h ∷ w) × First r m limit (m.around p) (record { by = h.by; to = end m w }) (steps (h ∷ w)) × Wire r m limit (end m w) w

abbrev pub TraceIsWire : Type 0 → Type 0
TraceIsWire C = (t : Rates C) (m : Maze) (limit goal : ℕ) (f : ℕ → Option C) (c : C) → Lawful t limit → Numbered m limit →
    Known t m limit f → f goal ≡ Some c → Wire (rule_of t) m limit goal (trace t m f limit goal)

-- there is one wire at most
abbrev pub WireIsOne : Type 0 → Type 0
WireIsOne C = (t : Rates C) (m : Maze) (limit p : ℕ) (w u : List Hop) → Lawful t limit →
    Wire (rule_of t) m limit p w → Wire (rule_of t) m limit p u → w ≡ u

module _ {C : Type 0} {t : Rates C} {limit : ℕ} (L : Lawful t limit) (m : Maze) where
  -- a path at the least cost is best
  pub best_of : (p : ℕ) (c : C) (w : List Hop) → Least t m limit p c → Route t.has m limit p w → cost t w ≡ Some c → Best (rule_of t) m limit p w
  best_of p c w l r e = record {
    route = r;
    best = λ u s. let (d, ed) = costed L m u s.legal s.short in
        subst₂ (λ a b. lower t a b ≡ false) (sym ed) (sym e) (l.below u d s ed);
  }

  -- a best path's cost is least
  pub least_of : (p : ℕ) (w : List Hop) → Best (rule_of t) m limit p w → (c : C) × (cost t w ≡ Some c) × Least t m limit p c
  least_of p w b =
      let (c, e) = costed L m w b.route.legal b.route.short in (
        c,
        e,
        record {
          path = w;
          route = b.route;
          costs = e;
          below = λ u d r ed. subst₂ (λ x y. lower t x y ≡ false) ed e (b.best u r);
        },
      )
