-- LEGAL PATHS, LEAST COSTS AND THE WIRE, as lists of places.
use Rattle.std.specs.Prelude.{◌≡◌, ℕ, ◌≤◌, Bool, true, false, ◌↔◌, List, [], ◌∷◌, ◌++◌, reverse, length, Some, None, Option, ◌≢◌, slice_index_or}
use Rattle.grid.specs.declared.step.Step.{Step}
use Rattle.grid.specs.declared.step.Direction.{Direction}
use Rattle.grid.specs.Places.{count_of}
use Rattle.grid.specs.Steps.{kind, order, neighbour_of, Among as Listed}
use Rattle.model.specs.Sheets.{Ground, Sound}
use Rattle.pricing.specs.Prices.{Walk, Costs}
use Rattle.tariff.specs.Rates.{Rates}
use Rattle.route.specs.Hops.{around}
use Rattle.route.specs.Listed.{NoneTwice}
use Rattle.route.specs.Search.{Maze}
use Rattle.route.specs.Sweep.{swept}
use Rattle.route.specs.Wire.{trace_back}

-- all places of the list are open to the net
abbrev pub AllOpen : Ground → ℕ → List ℕ → Type 0
AllOpen g n [] = Unit {0}
AllOpen g n (p ∷ ps) = (g.opened p n ≡ true) × AllOpen g n ps

-- the steps of the list are had; a tariff's `AllHad`, said of the steps alone, since a legal path asks no costs
abbrev pub AllIn : (Step → Bool) → List Step → Type 0
AllIn has [] = Unit {0}
AllIn has (k ∷ ks) = (has k ≡ true) × AllIn has ks

-- the last place of a list that begins with p
abbrev pub last : ℕ → List ℕ → ℕ
last p [] = p
last p (q ∷ ps) = last q ps

-- A LEGAL PATH of a net from the start to the goal, for a tariff that has some steps
pub record LegalPath (has : Step → Bool) (g : Ground) (n start goal : ℕ) (ps : List ℕ) : Type 0 where
  -- the places after the start, and the steps between the places
  pub rest : List ℕ
  pub steps : List Step
  pub starts : ps ≡ start ∷ rest
  pub ends : last start rest ≡ goal
  -- consecutive places are joined by a step that the tariff has, at most 2,097,152 of them, and all places are open to the net
  pub walk : Walk g.shape ps steps
  pub had : AllIn has steps
  pub short : length steps ≤ 2097152
  pub open_to : AllOpen g n ps

-- THE LEAST COST of the place p: some legal path to it costs c, and none costs less
pub record LeastCost {C : Type 0} (t : Rates C) (g : Ground) (n start p : ℕ) (c : C) : Type 0 where
  pub path : List ℕ
  pub legal : LegalPath t.has g n start p path
  pub costs : Costs t g.shape path c
  pub least : (ps : List ℕ) (d : C) → LegalPath t.has g n start p ps → Costs t g.shape ps d → t.less d c ≡ false

-- THE SAME, COMPUTED.

-- the places and neighbours that a net finds on a ground, from its start
abbrev pub maze : Ground → ℕ → ℕ → Maze
maze g n start = record { start = start; free = λ q. g.opened q n; around = around g.shape }

-- the least cost of every place, by as many sweeps over all places as there are places
abbrev pub labels : {C : Type 0} → Rates C → Ground → ℕ → ℕ → List (Option C)
labels t g n start = swept t (maze g n start) (count_of g.shape) (count_of g.shape)

-- the label of a place
abbrev pub label_of : {C : Type 0} → List (Option C) → ℕ → Option C
label_of ls p = slice_index_or ls p None

-- the places traced back over labels from the goal, the start first
abbrev pub wire_over : {C : Type 0} → Rates C → Maze → List (Option C) → ℕ → List ℕ
wire_over t m ls goal = reverse (trace_back t m (label_of ls) 2097152 goal)

abbrev pub wire : {C : Type 0} → Rates C → Ground → ℕ → ℕ → ℕ → List ℕ
wire t g n start goal = wire_over t (maze g n start) (labels t g n start) goal

-- THE THEOREMS

-- The computed label is the least cost, and there is none exactly if there is no legal path.
pub record LabelsAreLeast {C : Type 0} (t : Rates C) : Type 0 where
  pub least : (g : Ground) (n start p : ℕ) (c : C) → Sound g → (label_of (labels t g n start) p ≡ Some c) ↔ LeastCost t g n start p c
  pub none : (g : Ground) (n start p : ℕ) → Sound g → (label_of (labels t g n start) p ≡ None) ↔ ((ps : List ℕ) → LegalPath t.has g n start p ps → ⊥)

-- p's neighbour q in the direction d accounts for p's least cost: q's least cost followed by the step equals it
pub record Accounts {C : Type 0} (t : Rates C) (g : Ground) (n start p : ℕ) (d : Direction) (q : ℕ) : Type 0 where
  pub leads : neighbour_of g.shape p d ≡ Some q
  pub had : t.has (kind d) ≡ true
  pub here : C
  pub there : C
  pub here_least : LeastCost t g n start p here
  pub there_least : LeastCost t g n start q there
  pub equal : t.after there (kind d) ≡ Some here

-- q is the first neighbour of p, in the trace-back order, that accounts for its least cost
pub record ComesFrom {C : Type 0} (t : Rates C) (g : Ground) (n start p q : ℕ) : Type 0 where
  pub before : List Direction
  pub at : Direction
  pub after : List Direction
  pub place : order ≡ before ++ (at ∷ after)
  pub accounts : Accounts t g n start p at q
  pub first : (e : Direction) (r : ℕ) → Listed e before → Accounts t g n start p e r → ⊥

-- backwards from p to the start
abbrev pub TracedBack : {C : Type 0} → Rates C → Ground → ℕ → ℕ → List ℕ → Type 0
TracedBack t g n start [] = ⊥
TracedBack t g n start (p ∷ []) = p ≡ start
TracedBack t g n start (p ∷ (q ∷ ps)) = (p ≢ start) × ComesFrom t g n start p q × TracedBack t g n start (q ∷ ps)

-- THE WIRE to a goal that can be reached is a legal path from the start to the goal, repeats no place, costs the goal's least cost,
-- and is traced back from the goal.
pub record IsWire {C : Type 0} (t : Rates C) (g : Ground) (n start goal : ℕ) (ps : List ℕ) : Type 0 where
  pub legal : LegalPath t.has g n start goal ps
  pub apart : NoneTwice ps
  pub cost : C
  pub costs : Costs t g.shape ps cost
  pub least : LeastCost t g n start goal cost
  pub traced : TracedBack t g n start (reverse ps)

abbrev pub WireIsWire : {C : Type 0} → Rates C → Type 0
WireIsWire {C} t = (g : Ground) (n start goal : ℕ) (c : C) → Sound g → LeastCost t g n start goal c → IsWire t g n start goal (wire t g n start goal)
