-- The computed labels are least costs, and the wire traced over them is the wire.
use Rattle.std.proofs.Common.{◌≡◌, ℕ, zero, suc, ◌≤◌, Bool, true, false, cond, not, eqb, ◌⊎◌, ◌↔◌, List, [], ◌∷◌, ◌++◌, reverse, length, Some, None, Option, sym, refl, ap, ◌∙◌, subst, inl, inr, arith}
use mathlib.Core.Path.{fun_ext}
use mathlib.Core.List.{reverse_aux, reverse-reverse}
use Rattle.std.proofs.lemmas.Bool.{and_parts, not-true, both_ways, cond-true, cond-false, eq-eqb, ne_eqb}
use Rattle.grid.specs.declared.shape.Shape.{Shape}
use Rattle.grid.specs.declared.step.Direction.{Direction}
use Rattle.grid.specs.Places.{count_of}
use Rattle.grid.specs.Steps.{kind, order, neighbour_of, Among as Listed}
use Rattle.grid.proofs.Numbering.{count_most}
use Rattle.model.specs.Sheets.{Ground, Sound}
use Rattle.tariff.specs.Rates.{Rates, Laws, followed}
use Rattle.route.proofs.Lawful.{Lawful}
use Rattle.route.specs.Hops.{Hop, hop, put_in, gather}
use Rattle.route.specs.Listed.{On, NoneTwice}
use Rattle.route.specs.Search.{Maze, onward, least}
use Rattle.route.proofs.Traces.{visited, trace, Numbered, Goes, here, goes}
use Rattle.route.specs.Wire.{trace_back, on_back, back, is_cost, first, accounts, Known}
use Rattle.route.specs.Paths.{LegalPath, LeastCost, maze, labels, label_of, wire_over, wire, LabelsAreLeast, ComesFrom, TracedBack, IsWire, WireIsWire}
use Rattle.route.proofs.Order.{none_some, some_is, cond_some, then_some}
use Rattle.route.proofs.Best.{least_is_least}
use Rattle.route.proofs.Sweep.{swept_is_least}
use Rattle.route.proofs.Wire.{length_visited, least_is_known, trace_is_least, trace_is_same, trace_goes}
use Rattle.route.proofs.Bridge.{legal_of, costs_of, hops_of, least_cost, cost_least}
use Rattle.route.proofs.Laws.{lawful}

-- a list turned round has the same places
on_turned : (p : ℕ) (xs ys : List ℕ) → On p (reverse_aux xs ys) → On p xs ⊎ On p ys
on_turned p [] ys i = inr i
on_turned p (x ∷ xs) ys i = elim (on_turned p xs (x ∷ ys) i) [ inl j ↦ inl (inr j) | inr (inl e) ↦ inl (inl e) | inr (inr j) ↦ inr j ]

-- every place of a trace has a cost
goes_labelled : {C : Type 0} (t : Rates C) (m : Maze) (f : ℕ → Option C) (p : ℕ) (ps : List ℕ) → Goes t m f p ps → (q : ℕ) → On q ps → (b : C) × (f q ≡ Some b)
goes_labelled t m f _ _ (here p c e i) q (inl j) = (c, ap f j ∙ e)
goes_labelled t m f _ _ (here p c e i) q (inr j) = absurd j
goes_labelled t m f _ _ (goes p c h ps e ne a r) q (inl j) = (c, ap f j ∙ e)
goes_labelled t m f _ _ (goes p c h ps e ne a r) q (inr j) = goes_labelled t m f h.to ps r q j

-- a list of different places turned round
apart_back : (xs ys : List ℕ) → NoneTwice xs → NoneTwice ys → ((p : ℕ) → On p xs → On p ys → ⊥) → NoneTwice (reverse_aux xs ys)
apart_back [] ys a b d = b
apart_back (x ∷ xs) ys a b d = apart_back xs (x ∷ ys) a.1 (d x (inl refl), b) fresh
  where
    fresh : (p : ℕ) → On p xs → On p (x ∷ ys) → ⊥
    fresh p i (inl e) = a.0 (subst (λ q. On q xs) e i)
    fresh p i (inr j) = d p (inr i) j

-- a trace that is told place by place is the one that is computed
goes_traced : {C : Type 0} (t : Rates C) (m : Maze) (f : ℕ → Option C) (n p : ℕ) (ps : List ℕ) → Goes t m f p ps → length ps ≤ suc n → trace_back t m f n p ≡ ps
unfolding trace_back
goes_traced t m f zero _ _ (here p c e i) le = refl
goes_traced t m f (suc n) _ _ (here p c e i) le =
    ap (λ o. p ∷ on_back o (trace_back t m f n)) (cond-true (eqb p m.start) None (accounts t f (f p) (m.around p)) (eq-eqb p m.start i))
goes_traced t m f zero _ _ (goes p c h ps e ne a r) le = absurd (go ps r le)
  where
    go : (ps : List ℕ) → Goes t m f h.to ps → length (p ∷ ps) ≤ 1 → ⊥
    go _ (here q c e i) le = omega arith
    go _ (goes q c k qs e ne a r) le = omega arith
goes_traced t m f (suc n) _ _ (goes p c h ps e ne a r) le =
    let back_is : back t m f p ≡ Some h = cond-false (eqb p m.start) None (accounts t f (f p) (m.around p)) (ne_eqb p m.start ne) ∙ ap (λ o. accounts t f o (m.around p)) e ∙ a in
    ap (λ o. p ∷ on_back o (trace_back t m f n)) back_is ∙ ap (λ l. p ∷ l) (goes_traced t m f n h.to ps r (omega arith))

-- labels that are known give the one trace
pub traced : {C : Type 0} {t : Rates C} (L : Lawful t 2097152) (m : Maze) (goal : ℕ) (f : ℕ → Option C) (c : C) → Numbered m 2097152 → Known t m 2097152 f → f goal ≡ Some c →
    trace_back t m f 2097152 goal ≡ visited m (trace t m f 2097152 goal)
traced {C} {t} L m goal f c num known e =
    let (route, costs) = trace_is_least C t m 2097152 goal f c L num known e in
    let w = trace t m f 2097152 goal in
    let short : length w ≤ 2097152 = route.short in
    goes_traced t m f 2097152 goal (visited m w) (trace_goes C t m 2097152 goal f c L num known e) (omega (arith, length_visited m w))

module _ {C : Type 0} {t : Rates C} (laws : Laws t) where
  L : Lawful t 2097152
  L = lawful laws

  -- the first neighbour that accounts for a cost, by its direction
  record FirstOf (s : Shape) (p : ℕ) (f : ℕ → Option C) (c : C) (ds : List Direction) (h : Hop) : Type 0 where
    before : List Direction
    at : Direction
    after : List Direction
    place : ds ≡ before ++ (at ∷ after)
    leads : neighbour_of s p at ≡ Some h.to
    by : kind at ≡ h.by
    is : is_cost t (onward t (f h.to) h.by) c ≡ true
    others : (e : Direction) (r : ℕ) → Listed e before → neighbour_of s p e ≡ Some r → is_cost t (onward t (f r) (kind e)) c ≡ false

  first_of : (s : Shape) (p : ℕ) (f : ℕ → Option C) (c : C) (ds : List Direction) (h : Hop) → first t f c (gather s p ds) ≡ Some h → FirstOf s p f c ds h
  unfolding gather
  first_of s p f c [] h e = none_some e
  first_of s p f c (d ∷ ds) h e = go (first_of s p f c ds h) (neighbour_of s p d) refl e
    where
      later : (b : (r : ℕ) → neighbour_of s p d ≡ Some r → is_cost t (onward t (f r) (kind d)) c ≡ false) → FirstOf s p f c ds h → FirstOf s p f c (d ∷ ds) h
      later b x = record {
        before = d ∷ x.before;
        at = x.at;
        after = x.after;
        place = ap (λ l. d ∷ l) x.place;
        leads = x.leads;
        by = x.by;
        is = x.is;
        others = λ e r i l. elim i as (λ _. is_cost t (onward t (f r) (kind e)) c ≡ false) [ inl j ↦ subst (λ z. is_cost t (onward t (f r) (kind z)) c ≡ false) (sym j) (b r (subst (λ z. neighbour_of s p z ≡ Some r) j l)) | inr j ↦ x.others e r j l ];
      }

      tested : (q : ℕ) (b : Bool) → is_cost t (onward t (f q) (kind d)) c ≡ b → neighbour_of s p d ≡ Some q → (first t f c (gather s p ds) ≡ Some h → FirstOf s p f c ds h) →
          cond b (Some (hop (kind d) q)) (first t f c (gather s p ds)) ≡ Some h → FirstOf s p f c (d ∷ ds) h
      tested q true ce l ih e =
          let w : hop (kind d) q ≡ h = some_is e in
          record {
            before = [];
            at = d;
            after = ds;
            place = refl;
            leads = l ∙ ap (λ (x : Hop). Some x.to) w;
            by = ap (λ (x : Hop). x.by) w;
            is = subst (λ (x : Hop). is_cost t (onward t (f x.to) x.by) c ≡ true) w ce;
            others = λ e r i l. absurd i;
          }
      tested q false ce l ih e = later (λ r k. subst (λ z. is_cost t (onward t (f z) (kind d)) c ≡ false) (some_is (sym l ∙ k)) ce) (ih e)

      go : (first t f c (gather s p ds) ≡ Some h → FirstOf s p f c ds h) → (o : Option ℕ) → neighbour_of s p d ≡ o → first t f c (put_in (kind d) o (gather s p ds)) ≡ Some h → FirstOf s p f c (d ∷ ds) h
      go ih None l e = later (λ r k. none_some (sym l ∙ k)) (ih e)
      go ih (Some q) l e = tested q (is_cost t (onward t (f q) (kind d)) c) refl l ih e

  is_cost_true : (o : Option C) (c : C) → is_cost t o c ≡ true → o ≡ Some c
  is_cost_true None c e = let z : ◌≡◌ {A = ℕ} 0 1 = cc in absurd (omega arith)
  is_cost_true (Some a) c e = let (x, y) = and_parts (not (t.less a c)) (not (t.less c a)) e in ap Some (laws.same a c (not-true _ x) (not-true _ y))

  is_cost_self : (c : C) → is_cost t (Some c) c ≡ true
  is_cost_self c = let e = laws.irreflexive c in rw e

  module _ (g : Ground) (sound : Sound g) (n start : ℕ) where
    m : Maze
    m = maze g n start

    f : ℕ → Option C
    f p = label_of (labels t g n start) p

    few : Numbered m (count_of g.shape)
    unfolding m
    few p e = sound.inside p n e

    numbered : Numbered m 2097152
    numbered p e = omega (arith, few p e, count_most g.shape)

    label_least : (p : ℕ) → f p ≡ least t m 2097152 p
    unfolding f m
    label_least p = swept_is_least C t m 2097152 (count_of g.shape) p L (count_most g.shape) few

    label_cost : (p : ℕ) (c : C) → (f p ≡ Some c) ↔ LeastCost t g n start p c
    unfolding m
    label_cost p c = (
      (λ e. least_cost g sound n start t p c (((least_is_least C t m 2097152 p L).0 c).0 (sym (label_least p) ∙ e))),
      (λ l. label_least p ∙ ((least_is_least C t m 2097152 p L).0 c).1 (cost_least g sound n start t p c l)),
    )

    label_none : (p : ℕ) → (f p ≡ None) ↔ ((ps : List ℕ) → LegalPath t.has g n start p ps → ⊥)
    unfolding m
    label_none p = (
      (λ e ps x. let h = hops_of g sound n start t.has p ps x in (least_is_least C t m 2097152 p L).1.0 (sym (label_least p) ∙ e) h.hops h.route),
      (λ no. label_least p ∙ (least_is_least C t m 2097152 p L).1.1 (λ w r. no _ (legal_of g sound n start t.has p w r))),
    )

    known : Known t m 2097152 f
    known = subst (Known t m 2097152) (sym (fun_ext label_least)) (least_is_known C t m 2097152 L)

    -- the hop that the trace takes back from p comes from the first neighbour that accounts for p's cost
    comes_from : (p : ℕ) (c : C) (h : Hop) → f p ≡ Some c → accounts t f (Some c) (m.around p) ≡ Some h → ComesFrom t g n start p h.to
    unfolding m
    comes_from p c h e a =
        let x = first_of g.shape p f c order h a in
        let made = is_cost_true (onward t (f h.to) h.by) c x.is in
        let (has, o) = cond_some (t.has h.by) (followed t (f h.to) h.by) made in
        let (b, eb, af) = then_some t (f h.to) h.by o in
        record {
          before = x.before;
          at = x.at;
          after = x.after;
          place = x.place;
          accounts = record {
            leads = x.leads;
            had = ap t.has x.by ∙ has;
            here = c;
            there = b;
            here_least = (label_cost p c).0 e;
            there_least = (label_cost h.to b).0 eb;
            equal = ap (t.after b) x.by ∙ af;
          };
          first = λ d r i y.
              let same : y.here ≡ c = some_is (sym ((label_cost p y.here).1 y.here_least) ∙ e) in
              let on : onward t (f r) (kind d) ≡ Some c =
              cond-true (t.has (kind d)) (followed t (f r) (kind d)) None y.had ∙ ap (λ z. followed t z (kind d)) ((label_cost r y.there).1 y.there_least) ∙ y.equal ∙ ap Some same in
              both_ways _ (x.others d r i y.leads) (ap (λ z. is_cost t z c) on ∙ is_cost_self c);
        }

    -- the trace, place by place: each place is traced back, and every later one costs less
    record Back (p : ℕ) (ps : List ℕ) : Type 0 where
      cost : C
      label : f p ≡ Some cost
      rest : List ℕ
      is : ps ≡ p ∷ rest
      traced : TracedBack t g n start ps
      apart : NoneTwice ps
      below : (q : ℕ) → On q rest → (b : C) × (f q ≡ Some b) × (t.less b cost ≡ true)

    traced_back : (p : ℕ) (ps : List ℕ) → Goes t m f p ps → Back p ps
    unfolding m
    traced_back _ _ (here p c e i) = record { cost = c; label = e; rest = []; is = refl; traced = i; apart = ((λ x. x), tt); below = λ q i. absurd i }
    traced_back _ _ (goes p c h ps e ne a r) =
        let b = traced_back h.to ps r in
        let from = comes_from p c h e a in
        let y = from.accounts in
        let x = first_of g.shape p f c order h a in
        let made = is_cost_true (onward t (f h.to) h.by) c x.is in
        let (has, o) = cond_some (t.has h.by) (followed t (f h.to) h.by) made in
        let (d, ed, af) = then_some t (f h.to) h.by o in
        let low : t.less b.cost c ≡ true = subst (λ z. t.less z c ≡ true) (some_is (sym ed ∙ b.label)) (laws.grows d c h.by af) in
        let less-all : (q : ℕ) → On q ps → (z : C) × (f q ≡ Some z) × (t.less z c ≡ true) =
        λ q i. elim (subst (On q) b.is i) [ inl j ↦ (b.cost, ap f j ∙ b.label, low) | inr j ↦ (let (z, ez, lz) = b.below q j in (z, ez, laws.transitive z b.cost c lz low)) ] in
        record {
          cost = c;
          label = e;
          rest = ps;
          is = refl;
          traced = chain ps b.rest b.is ne from b.traced;
          apart = ((λ i. let (z, ez, lz) = less-all p i in both_ways _ (laws.irreflexive c) (subst (λ v. t.less v c ≡ true) (some_is (sym ez ∙ e)) lz)), b.apart);
          below = less-all;
        }
      where
        chain : (ps rest : List ℕ) → ps ≡ h.to ∷ rest → (p ≡ start → ⊥) → ComesFrom t g n start p h.to → TracedBack t g n start ps → TracedBack t g n start (p ∷ ps)
        chain ps rest is ne from tb = subst (λ (l : List ℕ). TracedBack t g n start (p ∷ l)) (sym is) (ne, from, subst (TracedBack t g n start) is tb)

    wired : (goal : ℕ) (c : C) → LeastCost t g n start goal c → IsWire t g n start goal (reverse (visited m (trace t m f 2097152 goal)))
    unfolding m
    wired goal c l =
        let e = (label_cost goal c).1 l in
        let (route, costs) = trace_is_least C t m 2097152 goal f c L numbered known e in
        let b = traced_back goal (visited m (trace t m f 2097152 goal)) (trace_goes C t m 2097152 goal f c L numbered known e) in
        record {
          legal = legal_of g sound n start t.has goal _ route;
          apart = apart_back (visited m (trace t m f 2097152 goal)) [] b.apart tt (λ p i j. j);
          cost = c;
          costs = costs_of g sound n start t goal _ c route costs;
          least = l;
          traced = subst (TracedBack t g n start) (sym (reverse-reverse (visited m (trace t m f 2097152 goal)))) b.traced;
        }

    wire_is : (goal : ℕ) (c : C) → LeastCost t g n start goal c → IsWire t g n start goal (wire t g n start goal)
    unfolding m f
    wire_is goal c l = subst (λ ps. IsWire t g n start goal (reverse ps)) (sym (traced L m goal f c numbered known ((label_cost goal c).1 l))) (wired goal c l)

    -- and each of its places is labelled
    pub wire_labelled : (xs : List (Option C)) (goal : ℕ) (c : C) → Known t (maze g n start) 2097152 (label_of xs) → label_of xs goal ≡ Some c →
        (p : ℕ) → On p (wire_over t (maze g n start) xs goal) → (b : C) × (label_of xs p ≡ Some b)
    unfolding m
    wire_labelled xs goal c K e p i =
        let w = trace t m (label_of xs) 2097152 goal in
        let j : On p (reverse (visited m w)) = subst (λ ps. On p (reverse ps)) (traced L m goal (label_of xs) c numbered K e) i in
        let k : On p (visited m w) = elim (on_turned p (visited m w) [] j) [ inl x ↦ x | inr x ↦ absurd x ] in
        goes_labelled t m (label_of xs) goal (visited m w) (trace_goes C t m 2097152 goal (label_of xs) c L numbered K e) p k

    -- over other labels that are known the wire is the same
    pub same_wire : (xs : List (Option C)) (goal : ℕ) (c : C) → Known t (maze g n start) 2097152 (label_of xs) → label_of xs goal ≡ Some c → wire_over t (maze g n start) xs goal ≡ wire t g n start goal
    unfolding m f
    same_wire xs goal c K e =
        let h : f goal ≡ Some c = (label_cost goal c).1 (least_cost g sound n start t goal c (K.exact goal c e)) in
        ap reverse (traced L m goal (label_of xs) c numbered K e ∙ ap (visited m) (trace_is_same C t m 2097152 goal (label_of xs) c L K e 2097152 ∙ sym (trace_is_same C t m 2097152 goal f c L known h 2097152)) ∙ sym (traced L m goal f c numbered known h))

  pub labels_are_least : LabelsAreLeast t
  unfolding f
  labels_are_least = record { least = λ g n start p c sound. label_cost g sound n start p c; none = λ g n start p sound. label_none g sound n start p }

  pub wire_is_wire : WireIsWire t
  wire_is_wire g n start goal c sound l = wire_is g sound n start goal c l
