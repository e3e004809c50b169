-- Paths as lists of places are paths as hops.
use Rattle.std.proofs.Common.{◌≡◌, ℕ, ◌≤◌, Bool, true, List, [], ◌∷◌, reverse, length, Some, sym, refl, ap, ◌∙◌, subst, arith}
use Rattle.std.proofs.Math.ListN.{length-reverse_aux}
use mathlib.Core.List.{reverse_aux, reverse-reverse, reverse_aux-reverse_aux-nil}
use Rattle.grid.specs.declared.shape.Shape.{Shape}
use Rattle.grid.specs.declared.step.Step.{Step}
use Rattle.grid.proofs.Joining.{joins_back, one_kind}
use Rattle.model.specs.Sheets.{Ground, Sound}
use Rattle.pricing.specs.Prices.{Walk, Costs}
use Rattle.tariff.specs.Rates.{Rates, charge, AllHad}
use Rattle.route.specs.Hops.{Hop, hop}
use Rattle.route.specs.Search.{Maze, Legal, Route, Least, cost, end, steps}
use Rattle.route.proofs.Traces.{visited}
use Rattle.route.specs.Paths.{AllOpen, AllIn, last, LegalPath, LeastCost, maze}
use Rattle.route.proofs.Around.{around_joined}
use Rattle.route.proofs.Order.{length_steps}

-- the steps of a walk are told by its places
walk_one : (s : Shape) (ps : List ℕ) (js ks : List Step) → Walk s ps js → Walk s ps ks → js ≡ ks
walk_one s [] js ks v w = absurd v
walk_one s (p ∷ []) [] [] v w = refl
walk_one s (p ∷ []) [] (k ∷ ks) v w = absurd w
walk_one s (p ∷ []) (j ∷ js) ks v w = absurd v
walk_one s (p ∷ (q ∷ ps)) [] ks v w = absurd v
walk_one s (p ∷ (q ∷ ps)) (j ∷ js) [] v w = absurd w
walk_one s (p ∷ (q ∷ ps)) (j ∷ js) (k ∷ ks) v w =
    let e = one_kind s p q j k v.0 w.0 in
    let f = walk_one s (q ∷ ps) js ks v.1 w.1 in
    λ i. e i ∷ f i

all_back : (has : Step → Bool) (js ks : List Step) → AllIn has js → AllIn has ks → AllIn has (reverse_aux js ks)
all_back has [] ks a b = b
all_back has (j ∷ js) ks a b = all_back has js (j ∷ ks) a.1 (a.0, b)

had_in : {C : Type 0} (t : Rates C) (ks : List Step) → AllIn t.has ks → AllHad t ks
had_in t [] a = tt
had_in t (k ∷ ks) a = (a.0, had_in t ks a.1)

in_had : {C : Type 0} (t : Rates C) (ks : List Step) → AllHad t ks → AllIn t.has ks
in_had t [] a = tt
in_had t (k ∷ ks) a = (a.0, in_had t ks a.1)

module _ (g : Ground) (sound : Sound g) (n start : ℕ) where
  abbrev m : Maze
  m = maze g n start

  abbrev path_of : List Hop → List ℕ
  path_of w = reverse (visited m w)

  -- FROM HOPS TO PLACES
  end_free : (has : Step → Bool) (w : List Hop) → Legal has m w → g.opened (end m w) n ≡ true
  end_free has [] l = l
  end_free has (h ∷ w) l = l.0

  walk_back : (has : Step → Bool) (w : List Hop) (qs : List ℕ) (js : List Step) → Legal has m w → Walk g.shape (end m w ∷ qs) js →
      Walk g.shape (reverse_aux (visited m w) qs) (reverse_aux (steps w) js)
  walk_back has [] qs js l v = v
  walk_back has (h ∷ w) qs js l v =
      let j = joins_back g.shape h.to (end m w) h.by ((around_joined g.shape h.to (end m w) h.by).0 l.2) in
      walk_back has w (h.to ∷ qs) (h.by ∷ js) l.3 (j, v)

  open_back : (has : Step → Bool) (w : List Hop) (qs : List ℕ) → Legal has m w → AllOpen g n qs → AllOpen g n (reverse_aux (visited m w) qs)
  open_back has [] qs l a = (l, a)
  open_back has (h ∷ w) qs l a = open_back has w (h.to ∷ qs) l.3 (l.0, a)

  in_steps : (has : Step → Bool) (w : List Hop) → Legal has m w → AllIn has (steps w)
  in_steps has [] l = tt
  in_steps has (h ∷ w) l = (l.1, in_steps has w l.3)

  -- the path begins at the start and ends at the end
  record Begins (w : List Hop) (qs : List ℕ) : Type 0 where
    rest : List ℕ
    is : reverse_aux (visited m w) qs ≡ start ∷ rest
    ends : last start rest ≡ last (end m w) qs

  begins : (w : List Hop) (qs : List ℕ) → Begins w qs
  begins [] qs = record { rest = qs; is = refl; ends = refl }
  begins (h ∷ w) qs = let b = begins w (h.to ∷ qs) in record { rest = b.rest; is = b.is; ends = b.ends }

  pub legal_of : (has : Step → Bool) (p : ℕ) (w : List Hop) → Route has m 2097152 p w → LegalPath has g n start p (path_of w)
  legal_of has p w r =
      let b = begins w [] in
      record {
        rest = b.rest;
        steps = reverse (steps w);
        starts = b.is;
        ends = b.ends ∙ r.ends;
        walk = walk_back has w [] [] r.legal (sound.inside (end m w) n (end_free has w r.legal));
        had = all_back has (steps w) [] (in_steps has w r.legal) tt;
        short = let e = length-reverse_aux (steps w) [] in let f = length_steps w in let s : length w ≤ 2097152 = r.short in omega arith;
        open_to = open_back has w [] r.legal tt;
      }

  pub costs_of : {C : Type 0} (t : Rates C) (p : ℕ) (w : List Hop) (c : C) → Route t.has m 2097152 p w → cost t w ≡ Some c → Costs t g.shape (path_of w) c
  unfolding legal_of
  costs_of t p w c r e =
      let l = legal_of t.has p w r in
      record { steps = l.steps; walk = l.walk; had = had_in t l.steps l.had; charged = ap (charge t) (reverse-reverse (steps w)) ∙ e }

  -- FROM PLACES TO HOPS: on from w, by the places qs and the steps js
  abbrev on_from : List Hop → List ℕ → List Step → List Hop
  on_from w [] js = w
  on_from w (q ∷ qs) [] = w
  on_from w (q ∷ qs) (j ∷ js) = on_from (hop j q ∷ w) qs js

  record Along (has : Step → Bool) (w u : List Hop) (qs : List ℕ) (js : List Step) : Type 0 where
    legal : Legal has m u
    ends : end m u ≡ last (end m w) qs
    places : visited m u ≡ reverse_aux qs (visited m w)
    by : steps u ≡ reverse_aux js (steps w)

  along : (has : Step → Bool) (w : List Hop) (qs : List ℕ) (js : List Step) → Legal has m w → Walk g.shape (end m w ∷ qs) js → AllOpen g n qs → AllIn has js → Along has w (on_from w qs js) qs js
  along has w [] [] l v a b = record { legal = l; ends = refl; places = refl; by = refl }
  along has w [] (j ∷ js) l v a b = absurd v
  along has w (q ∷ qs) [] l v a b = absurd v
  along has w (q ∷ qs) (j ∷ js) l v a b =
      let k = (around_joined g.shape q (end m w) j).1 (joins_back g.shape (end m w) q j v.0) in
      let r = along has (hop j q ∷ w) qs js (a.0, b.0, k, l) v.1 a.1 b.1 in
      record { legal = r.legal; ends = r.ends; places = r.places; by = r.by }

  pub record Hopped (has : Step → Bool) (p : ℕ) (ps : List ℕ) (ks : List Step) : Type 0 where
    pub hops : List Hop
    pub route : Route has m 2097152 p hops
    pub places : path_of hops ≡ ps
    pub by : steps hops ≡ reverse ks

  pub hops_of : (has : Step → Bool) (p : ℕ) (ps : List ℕ) (x : LegalPath has g n start p ps) → Hopped has p ps x.steps
  hops_of has p ps x =
      let w = on_from [] x.rest x.steps in
      let open-all = subst (AllOpen g n) x.starts x.open_to in
      let walk = subst (λ qs. Walk g.shape qs x.steps) x.starts x.walk in
      let r = along has [] x.rest x.steps open-all.0 walk open-all.1 x.had in
      let e = ap length r.by ∙ length-reverse_aux x.steps [] in
      let f = length_steps w in
      let s : length x.steps ≤ 2097152 = x.short in
      record {
        hops = w;
        route = record { legal = r.legal; ends = r.ends ∙ x.ends; short = omega arith };
        places = ap reverse r.places ∙ reverse_aux-reverse_aux-nil x.rest (start ∷ []) ∙ sym x.starts;
        by = r.by;
      }

  -- the cost of a legal path is that of its hops
  pub cost_of : {C : Type 0} (t : Rates C) (p : ℕ) (ps : List ℕ) (c : C) (x : LegalPath t.has g n start p ps) → Costs t g.shape ps c → cost t (hops_of t.has p ps x).hops ≡ Some c
  cost_of t p ps c x y =
      ap (charge t) ((hops_of t.has p ps x).by ∙ ap reverse (walk_one g.shape ps x.steps y.steps x.walk y.walk)) ∙ y.charged

  -- LEAST COSTS
  pub least_cost : {C : Type 0} (t : Rates C) (p : ℕ) (c : C) → Least t m 2097152 p c → LeastCost t g n start p c
  least_cost t p c l = record {
    path = path_of l.path;
    legal = legal_of t.has p l.path l.route;
    costs = costs_of t p l.path c l.route l.costs;
    least = λ ps d x y. let h = hops_of t.has p ps x in l.below h.hops d h.route (cost_of t p ps d x y);
  }

  pub cost_least : {C : Type 0} (t : Rates C) (p : ℕ) (c : C) → LeastCost t g n start p c → Least t m 2097152 p c
  cost_least t p c l =
      let h = hops_of t.has p l.path l.legal in
      record {
        path = h.hops;
        route = h.route;
        costs = cost_of t p l.path c l.legal l.costs;
        below = λ w d r e. l.least (path_of w) d (legal_of t.has p w r) (costs_of t p w d r e);
      }
