-- The trace is a least path, and the same over all costs that are known. Assumes nothing.
use Rattle.std.proofs.Common.{◌≡◌, ℕ, zero, suc, ◌+◌, ◌<◌, ◌≤◌, Bool, true, false, cond, not, eqb, ◌≢◌, ◌⊎◌, List, [], ◌∷◌, ◌++◌, length, Some, None, Option, sym, refl, ap, ◌∙◌, subst, ap₂, subst₂, inl, inr, arith}
use Rattle.std.specs.Cmp.{both_ways as same_truth}
use Rattle.std.proofs.lemmas.Bool.{both_ways, cases_eq, cases_Bool, eq-eqb, ne_eqb, cond-true, cond-false, and_from, and_parts, not-true, not_from_false}
use Rattle.grid.specs.declared.step.Step.{Step}
use Rattle.tariff.specs.Rates.{Rates, followed, charge}
use Rattle.route.proofs.Lawful.{Lawful}
use Rattle.route.specs.Hops.{Hop, Among}
use Rattle.route.specs.Search.{Maze, Legal, Route, Least, cost, end, steps, onward, least}
use Rattle.route.proofs.States.{Next}
use Rattle.route.specs.Wire.{is_cost, first, accounts, back, Known}
use Rattle.route.proofs.Traces.{hang, trace, Numbered, TraceIsLeast, TraceIsSame, LeastIsKnown, visited, Goes, TraceGoes, here, goes}
use Rattle.route.proofs.Rule.{lower, rule_of, Accounts, First, Wire, TraceIsWire}
use Rattle.route.proofs.Rule.{best_of, least_of}
use Rattle.route.specs.Listed.{On, NoneTwice}
use Rattle.route.proofs.Holes.{in?, holes}
use Rattle.route.proofs.Order.{none_some, some_is, cond_some, then_some, Leq, leq_refl, leq_trans, leq_same, grown, goes_on}
use Rattle.route.proofs.Best.{least_is, is_least, routed}

pub length_visited : (m : Maze) (w : List Hop) → length (visited m w) ≡ suc (length w)
length_visited m [] = refl
length_visited m (h ∷ w) = ap suc (length_visited m w)

pub visited_free : {C : Type 0} (t : Rates C) (m : Maze) (w : List Hop) → Legal t.has m w → (q : ℕ) → On q (visited m w) → m.free q ≡ true
visited_free t m [] l q (inl e) = subst (λ z. m.free z ≡ true) (sym e) l
visited_free t m [] l q (inr i) = absurd i
visited_free t m (h ∷ w) l q (inl e) = subst (λ z. m.free z ≡ true) (sym e) l.0
visited_free t m (h ∷ w) l q (inr i) = visited_free t m w l.3 q i

pub end_free : {C : Type 0} (t : Rates C) (m : Maze) (w : List Hop) → Legal t.has m w → m.free (end m w) ≡ true
end_free t m [] l = l
end_free t m (h ∷ w) l = l.0

-- a legal path to p that comes to no place twice, of at most n steps and a cost of at most d
pub record Simple {C : Type 0} (t : Rates C) (m : Maze) (n p : ℕ) (d : C) : Type 0 where
  pub path : List Hop
  pub legal : Legal t.has m path
  pub ends : end m path ≡ p
  pub apart : NoneTwice (visited m path)
  pub short : length path ≤ n
  pub value : C
  pub costs : cost t path ≡ Some value
  pub low : Leq t value d

module _ {C : Type 0} {t : Rates C} {limit : ℕ} (L : Lawful t limit) (m : Maze) where
  loosen : {n k p : ℕ} {c d : C} → n ≤ k → Leq t c d → Simple t m n p c → Simple t m k p d
  loosen {n} {k} {p} {c} {d} le lo s =
      let short : length s.path ≤ n = s.short in
      record { path = s.path; legal = s.legal; ends = s.ends; apart = s.apart; short = omega arith; value = s.value; costs = s.costs; low = leq_trans L s.value c d s.low lo }

  cut : (u : List Hop) (x : C) (q : ℕ) → Legal t.has m u → NoneTwice (visited m u) → cost t u ≡ Some x → On q (visited m u) → Simple t m (length u) q x
  cut [] x q l apart e (inr i) = absurd i
  cut [] x q l apart e (inl i) = record { path = []; legal = l; ends = sym i; apart = apart; short = omega arith; value = x; costs = e; low = leq_refl L x }
  cut (h ∷ u) x q l apart e (inl i) = record { path = h ∷ u; legal = l; ends = sym i; apart = apart; short = omega arith; value = x; costs = e; low = leq_refl L x }
  cut (h ∷ u) x q l apart e (inr i) =
      let (d0, e0, e1) = then_some t (cost t u) h.by e in
      loosen (omega arith) (grown L d0 x h.by e1) (cut u d0 q l.3 apart.1 e0 i)

  pub simple : (w : List Hop) (d : C) → Legal t.has m w → length w ≤ limit → cost t w ≡ Some d → Simple t m (length w) (end m w) d
  simple [] d l short e = record { path = []; legal = l; ends = refl; apart = (λ i. i, tt); short = omega arith; value = d; costs = e; low = leq_refl L d }
  simple (h ∷ w) d l short e =
      let (d0, e0, e1) = then_some t (cost t w) h.by e in
      let s = simple w d0 l.3 (omega arith) e0 in
      go d0 e1 s (in? h.to (visited m s.path))
    where
      go : (d0 : C) → t.after d0 h.by ≡ Some d → (s : Simple t m (length w) (end m w) d0) →
          On h.to (visited m s.path) ⊎ (On h.to (visited m s.path) → ⊥) → Simple t m (length (h ∷ w)) h.to d
      go d0 e1 s (inl i) =
          let lo : Leq t s.value d = leq_trans L s.value d0 d s.low (grown L d0 d h.by e1) in
          let fewer : length s.path ≤ length w = s.short in
          loosen (omega arith) lo (cut s.path s.value h.to s.legal s.apart s.costs i)
      go d0 e1 s (inr n) =
          let fewer : length s.path ≤ length w = s.short in
          let (x, ex) = goes_on L m s.path s.value h.by s.legal s.costs l.1 (omega arith) in
          record {
            path = h ∷ s.path;
            legal = (l.0, l.1, subst (λ z. Next m h.to h.by z) (sym s.ends) l.2, s.legal);
            ends = refl;
            apart = (n, s.apart);
            short = omega arith;
            value = x;
            costs = ap (λ o. followed t o h.by) s.costs ∙ ex;
            low = L.keeps s.value d0 x d h.by s.low ex e1;
          }

  -- a least cost is that of a path with room for one step more
  pub brief : (p : ℕ) (c : C) → Numbered m limit → Least t m limit p c →
      (u : List Hop) × Legal t.has m u × (end m u ≡ p) × (length u < limit) × (cost t u ≡ Some c)
  brief p c num l =
      let r = l.route in
      let s = simple l.path c r.legal r.short l.costs in
      let fewer : length s.path ≤ length l.path = s.short in
      let rshort : length l.path ≤ limit = r.short in
      let few : length (visited m s.path) ≤ limit = holes limit (visited m s.path) s.apart (λ q i. num q (visited_free t m s.path s.legal q i)) in
      let ends : end m s.path ≡ p = s.ends ∙ r.ends in
      let back : Leq t c s.value = l.below s.path s.value (record { legal = s.legal; ends = ends; short = omega arith }) s.costs in
      (s.path, s.legal, ends, omega (arith, length_visited m s.path), s.costs ∙ ap Some (leq_same L s.value c s.low back))

  pub nothing_low : (w : List Hop) (d : C) → cost t w ≡ Some d → Leq t t.nothing d
  nothing_low [] d e = subst (λ x. Leq t t.nothing x) (some_is e) (leq_refl L t.nothing)
  nothing_low (h ∷ w) d e =
      let (d0, e0, e1) = then_some t (cost t w) h.by e in
      leq_trans L t.nothing d0 d (nothing_low w d0 e0) (grown L d0 d h.by e1)

  -- from where the least cost of a place comes
  pub record Comes (p : ℕ) (c : C) : Type 0 where
    pub from : ℕ
    pub by : Step
    pub was : C
    pub next : Next m p by from
    pub has : t.has by ≡ true
    pub least : Least t m limit from was
    pub made : t.after was by ≡ Some c

  pub comes : (p : ℕ) (c : C) → Numbered m limit → Least t m limit p c → p ≢ m.start → Comes p c
  comes p c num l ne = go l.path l.route.legal l.route.ends l.route.short l.costs
    where
      go : (w : List Hop) → Legal t.has m w → end m w ≡ p → length w ≤ limit → cost t w ≡ Some c → Comes p c
      go [] lg ends short e = absurd (ne (sym ends))
      go (h ∷ w) lg ends short e =
          let (d0, e0, e1) = then_some t (cost t w) h.by e in
          let (d1, e2, v) = routed L m limit (end m w) w (omega arith) (record { legal = lg.3; ends = refl; short = omega arith }) in
          let b = v.value in
          let bl : Least t m limit (end m w) b = least_is L m limit (end m w) b (omega arith) v.is in
          let (u, ul, ue, us, uc) = brief (end m w) b num bl in
          let (x, ex) = goes_on L m u b h.by ul uc lg.1 us in
          let low : Leq t b d0 = subst (λ z. Leq t b z) (some_is (sym e2 ∙ e0)) v.low in
          let xc : Leq t x c = L.keeps b d0 x c h.by low ex e1 in
          let cx : Leq t c x = l.below (h ∷ u) x (record {
            legal = (lg.0, lg.1, subst (λ z. Next m h.to h.by z) (sym ue) lg.2, ul);
            ends = ends;
            short = omega arith;
          }) (ap (λ o. followed t o h.by) uc ∙ ex) in
          record {
            from = end m w;
            by = h.by;
            was = b;
            next = subst (λ z. Next m z h.by (end m w)) ends lg.2;
            has = lg.1;
            least = bl;
            made = ex ∙ ap Some (leq_same L x c xc cx);
          }

module _ {C : Type 0} {t : Rates C} {limit : ℕ} (L : Lawful t limit) where
  cost_is : (o : Option C) (c : C) → is_cost t o c ≡ true → o ≡ Some c
  cost_is None c e = absurd (both_ways false refl e)
  cost_is (Some a) c e =
      let (p, q) = and_parts (not (t.less a c)) (not (t.less c a)) e in
      ap Some (L.same a c (not-true (t.less a c) p) (not-true (t.less c a) q))

  is_cost_of : (o : Option C) (c : C) → o ≡ Some c → is_cost t o c ≡ true
  is_cost_of o c e = subst (λ x. is_cost t x c ≡ true) (sym e)
      (and_from (not (t.less c c)) (not (t.less c c)) (not_from_false (t.less c c) (leq_refl L c)) (not_from_false (t.less c c) (leq_refl L c)))

  -- h is the first of hs that comes to c
  record Found (f : ℕ → Option C) (c : C) (hs : List Hop) : Type 0 where
    hop : Hop
    is : first t f c hs ≡ Some hop
    among : Among hop hs
    on : onward t (f hop.to) hop.by ≡ Some c
    front : List Hop
    back : List Hop
    place : hs ≡ front ++ (hop ∷ back)
    none : (y : Hop) → Among y front → onward t (f y.to) y.by ≡ Some c → ⊥

  first_found : (f : ℕ → Option C) (c : C) (hs : List Hop) (x : Hop) → Among x hs → onward t (f x.to) x.by ≡ Some c → Found f c hs
  first_found f c [] x i e = absurd i
  first_found f c (h ∷ hs) x i e = go (λ j. first_found f c hs x j e) i (cases_Bool (is_cost t (onward t (f h.to) h.by) c))
    where
      go : (Among x hs → Found f c hs) → Among x (h ∷ hs) → (is_cost t (onward t (f h.to) h.by) c ≡ true) ⊎ (is_cost t (onward t (f h.to) h.by) c ≡ false) → Found f c (h ∷ hs)
      go ih i (inl y) = record {
        hop = h;
        is = cond-true _ (Some h) (first t f c hs) y;
        among = inl refl;
        on = cost_is _ c y;
        front = [];
        back = hs;
        place = refl;
        none = λ z j. absurd j;
      }
      go ih (inl i) (inr y) = absurd (both_ways _ y (is_cost_of _ c (subst (λ z. onward t (f z.to) z.by ≡ Some c) i e)))
      go ih (inr i) (inr y) = let r = ih i in record {
        hop = r.hop;
        is = cond-false _ (Some h) (first t f c hs) y ∙ r.is;
        among = inr r.among;
        on = r.on;
        front = h ∷ r.front;
        back = r.back;
        place = ap (λ l. h ∷ l) r.place;
        none = λ z j on. elim j [
          | inl zh ↦ both_ways _ y (is_cost_of _ c (subst (λ v. onward t (f v.to) v.by ≡ Some c) zh on))
          | inr k ↦ r.none z k on
        ];
      }

  module _ (m : Maze) (num : Numbered m limit) (f : ℕ → Option C) (K : Known t m limit f) where
    free_of : (p : ℕ) (c : C) → f p ≡ Some c → m.free p ≡ true
    free_of p c e = let l = K.exact p c e in subst (λ z. m.free z ≡ true) l.route.ends (end_free t m l.path l.route.legal)

    -- w is a legal path of at most n steps to p, at cost c, and the wire
    abbrev Traced : ℕ → ℕ → C → List Hop → Type 0
    Traced n p c w = Route t.has m n p w × (cost t w ≡ Some c) × Wire (rule_of t) m limit p w

    abbrev Above : C → List ℕ → Type 0
    Above c V = (q : ℕ) → On q V → (e : C) × (f q ≡ Some e) × (t.less c e ≡ true)

    fresh : (p : ℕ) (c : C) (V : List ℕ) → f p ≡ Some c → Above c V → On p V → ⊥
    fresh p c V e above i = let (b, e1, lt) = above p i in both_ways _ (leq_refl L c) (subst (λ z. t.less c z ≡ true) (some_is (sym e1 ∙ e)) lt)

    full : (p : ℕ) (c : C) (V : List ℕ) → f p ≡ Some c → NoneTwice V → Above c V → length V < limit
    full p c V e apart above = holes limit (p ∷ V) (fresh p c V e above, apart) (λ q i. elim i [
      | inl z ↦ num q (subst (λ y. m.free y ≡ true) (sym z) (free_of p c e))
      | inr j ↦ num q (free_of q (above q j).0 (above q j).1)
    ])

    -- what accounts for a place's cost comes to it
    accounted : (p : ℕ) (c : C) (ks : List Step) (y : Hop) → f p ≡ Some c → charge t ks ≡ Some c → Accounts (rule_of t) m limit y ks → onward t (f y.to) y.by ≡ Some c
    accounted p c ks y e ek a =
        let (b, eb, lb) = least_of L m y.to a.path a.best in
        let (u, ul, ue, us, uc) = brief L m y.to b num lb in
        let (x, ex) = goes_on L m u b y.by ul uc a.has us in
        let ey : charge t (y.by ∷ steps a.path) ≡ Some x = ap (λ o. followed t o y.by) eb ∙ ex in
        let xc : x ≡ c = L.same x c (subst₂ (λ v z. lower t v z ≡ false) ey ek a.tie.0) (subst₂ (λ v z. lower t v z ≡ false) ek ey a.tie.1) in
        let made : t.after b y.by ≡ Some c = ex ∙ ap Some xc in
        let eq : f y.to ≡ Some b = K.closed p y.to y.by b c e lb a.has made in
        cond-true (t.has y.by) (followed t (f y.to) y.by) None a.has ∙ ap (λ o. followed t o y.by) eq ∙ made

    -- the step back from a place that is not the start
    record Back (p : ℕ) (c : C) : Type 0 where
      found : Found f c (m.around p)
      goes-back : back t m f p ≡ Some found.hop
      has : t.has found.hop.by ≡ true
      from : C
      was : f found.hop.to ≡ Some from
      made : t.after from found.hop.by ≡ Some c

    steps_back : (p : ℕ) (c : C) → f p ≡ Some c → (p ≡ m.start → ⊥) → Back p c
    steps_back p c e ne =
        let k = comes L m p c num (K.exact p c e) ne in
        let eq = K.closed p k.from k.by k.was c e k.least k.has k.made in
        let on : onward t (f k.from) k.by ≡ Some c = cond-true (t.has k.by) (followed t (f k.from) k.by) None k.has ∙ ap (λ o. followed t o k.by) eq ∙ k.made in
        let F = first_found f c (m.around p) (record { by = k.by; to = k.from }) k.next on in
        let (has, e3) = cond_some (t.has F.hop.by) (followed t (f F.hop.to) F.hop.by) F.on in
        let (b, eb, made) = then_some t (f F.hop.to) F.hop.by e3 in
        record {
          found = F;
          goes-back = cond-false (eqb p m.start) None (accounts t f (f p) (m.around p)) (ne_eqb p m.start ne) ∙ ap (λ o. accounts t f o (m.around p)) e ∙ F.is;
          has = has;
          from = b;
          was = eb;
          made = made;
        }

    -- nothing is labelled so low that it stands on the way already
    lower_still : (p : ℕ) (c b : C) (V : List ℕ) → f p ≡ Some c → Above c V → t.less b c ≡ true → Above b (p ∷ V)
    lower_still p c b V e above lt q (inl i) = (c, ap f i ∙ e, lt)
    lower_still p c b V e above lt q (inr i) = let (x, e1, lt1) = above q i in (x, e1, L.trans b c x lt lt1)

    traced : (n p : ℕ) (c : C) (V : List ℕ) → f p ≡ Some c → NoneTwice V → Above c V →
        limit ≤ length V + n → n ≤ limit → Traced n p c (trace t m f n p)
    unfolding trace
    traced zero p c V e apart above room le = absurd (let h = full p c V e apart above in omega arith)
    traced (suc n) p c V e apart above room le = at (λ q b ep. traced n q b (p ∷ V) ep) (cases_eq p m.start)
      where
        at : ((q : ℕ) (b : C) → f q ≡ Some b → NoneTwice (p ∷ V) → Above b (p ∷ V) →
            limit ≤ length (p ∷ V) + n → n ≤ limit → Traced n q b (trace t m f n q)) →
            (p ≡ m.start) ⊎ (p ≡ m.start → ⊥) → Traced (suc n) p c (hang p (back t m f p) (trace t m f n))
        at ih (inl i) =
            let stop : back t m f p ≡ None = cond-true (eqb p m.start) None (accounts t f (f p) (m.around p)) (eq-eqb p m.start i) in
            let l = K.exact p c e in
            let free : m.free m.start ≡ true = subst (λ z. m.free z ≡ true) i (free_of p c e) in
            let here : Route t.has m limit p [] = record { legal = free; ends = sym i; short = omega arith } in
            let ce : t.nothing ≡ c = leq_same L t.nothing c (nothing_low L m l.path c l.costs) (l.below [] t.nothing here refl) in
            subst (λ o. Traced (suc n) p c (hang p o (trace t m f n))) (sym stop)
            (record { legal = free; ends = sym i; short = omega arith }, ap Some ce, best_of L m p c [] l here (ap Some ce))
        at ih (inr ne) =
            let B = steps_back p c e ne in
            let F = B.found in
            let h = F.hop in
            let (r, costs, wire) = ih h.to B.from B.was (fresh p c V e above, apart) (lower_still p c B.from V e above (L.grows B.from c h.by B.made)) (omega arith) (omega arith) in
            let w = trace t m f n h.to in
            let hop : Hop = record { by = h.by; to = p } in
            let short : length w ≤ n = r.short in
            let legal : Legal t.has m (hop ∷ w) = (free_of p c e, B.has, subst (λ z. Next m p h.by z) (sym r.ends) F.among, r.legal) in
            let comes-to : cost t (hop ∷ w) ≡ Some c = ap (λ o. followed t o h.by) costs ∙ B.made in
            subst (λ o. Traced (suc n) p c (hang p o (trace t m f n))) (sym B.goes-back) (
              record { legal = legal; ends = refl; short = omega arith },
              comes-to,
              (
                best_of L m p c (hop ∷ w) (K.exact p c e) (record { legal = legal; ends = refl; short = omega arith }) comes-to,
                subst (λ z. First (rule_of t) m limit (m.around p) (record { by = h.by; to = z }) (steps (hop ∷ w))) (sym r.ends)
                    (record { front = F.front; back = F.back; place = F.place; first = λ y i a. F.none y i (accounted p c (steps (hop ∷ w)) y e comes-to a) }),
                subst (λ z. Wire (rule_of t) m limit z w) (sym r.ends) wire,
              ),
            )

    chained : (n p : ℕ) (c : C) (V : List ℕ) → f p ≡ Some c → NoneTwice V → Above c V → limit ≤ length V + n → Goes t m f p (visited m (trace t m f n p))
    unfolding trace
    chained zero p c V e apart above room = absurd (let h = full p c V e apart above in omega arith)
    chained (suc n) p c V e apart above room = at (λ q b ep. chained n q b (p ∷ V) ep) (cases_eq p m.start)
      where
        at : ((q : ℕ) (b : C) → f q ≡ Some b → NoneTwice (p ∷ V) → Above b (p ∷ V) → limit ≤ length (p ∷ V) + n → Goes t m f q (visited m (trace t m f n q))) →
            (p ≡ m.start) ⊎ (p ≡ m.start → ⊥) → Goes t m f p (visited m (hang p (back t m f p) (trace t m f n)))
        at ih (inl i) =
            let stop : back t m f p ≡ None = cond-true (eqb p m.start) None (accounts t f (f p) (m.around p)) (eq-eqb p m.start i) in
            let h : Goes t m f p (m.start ∷ []) = subst (λ z. Goes t m f p (z ∷ [])) i (here p c e i) in
            subst (λ o. Goes t m f p (visited m (hang p o (trace t m f n)))) (sym stop) h
        at ih (inr ne) =
            let B = steps_back p c e ne in
            let h = B.found.hop in
            let rest = ih h.to B.from B.was (fresh p c V e above, apart) (lower_still p c B.from V e above (L.grows B.from c h.by B.made)) (omega arith) in
            subst (λ o. Goes t m f p (visited m (hang p o (trace t m f n)))) (sym B.goes-back) (goes p c h (visited m (trace t m f n h.to)) e ne B.found.is rest)

pub least_is_known : (C : Type 0) → LeastIsKnown C
least_is_known C t m limit L = record {
  exact = λ p c e. least_is L m limit p c (omega arith) e;
  closed = λ p q k b c e l has made. is_least L m limit q b (omega arith) l;
}

pub trace_is_least : (C : Type 0) → TraceIsLeast C
trace_is_least C t m limit goal f c L num K e =
    let (r, costs, wire) = traced L m num f K limit goal c [] e tt (λ q i. absurd i) (omega arith) (omega arith) in (r, costs)

pub trace_is_wire : (C : Type 0) → TraceIsWire C
trace_is_wire C t m limit goal f c L num K e = (traced L m num f K limit goal c [] e tt (λ q i. absurd i) (omega arith) (omega arith)).2

not_cond : {A : Type 0} {x : A} (b : Bool) (o : Option A) → cond b None o ≡ Some x → o ≡ Some x
not_cond true o e = none_some e
not_cond false o e = e

first_gives : {C : Type 0} {t : Rates C} {limit : ℕ} (L : Lawful t limit) (f : ℕ → Option C) (c : C) (hs : List Hop) (h : Hop) →
    first t f c hs ≡ Some h → onward t (f h.to) h.by ≡ Some c
first_gives L f c [] h e = none_some e
first_gives {C} {t} L f c (x ∷ hs) h e = go (first_gives L f c hs h) (cases_Bool (is_cost t (onward t (f x.to) x.by) c))
  where
    go : (first t f c hs ≡ Some h → onward t (f h.to) h.by ≡ Some c) →
        (is_cost t (onward t (f x.to) x.by) c ≡ true) ⊎ (is_cost t (onward t (f x.to) x.by) c ≡ false) → onward t (f h.to) h.by ≡ Some c
    go ih (inl y) = subst (λ z. onward t (f z.to) z.by ≡ Some c) (some_is (sym (cond-true _ (Some x) (first t f c hs) y) ∙ e)) (cost_is L _ c y)
    go ih (inr y) = ih (sym (cond-false _ (Some x) (first t f c hs) y) ∙ e)

-- what accounts for c over f does so over g
shared : {C : Type 0} {t : Rates C} {limit : ℕ} (L : Lawful t limit) (m : Maze) (f g : ℕ → Option C) → Known t m limit f → Known t m limit g →
    (p : ℕ) (c : C) (h : Hop) → g p ≡ Some c → onward t (f h.to) h.by ≡ Some c → (b : C) × (f h.to ≡ Some b) × (g h.to ≡ Some b) × (onward t (g h.to) h.by ≡ Some c)
shared {C} {t} L m f g K G p c h e on =
    let (has, e1) = cond_some (t.has h.by) (followed t (f h.to) h.by) on in
    let (b, eb, made) = then_some t (f h.to) h.by e1 in
    let gb = G.closed p h.to h.by b c e (K.exact h.to b eb) has made in
    (b, eb, gb, cond-true (t.has h.by) (followed t (g h.to) h.by) None has ∙ ap (λ o. followed t o h.by) gb ∙ made)

module _ {C : Type 0} {t : Rates C} {limit : ℕ} (L : Lawful t limit) (m : Maze) (f g : ℕ → Option C) (K : Known t m limit f) (G : Known t m limit g) where
  first_same : (p : ℕ) (c : C) → f p ≡ Some c → g p ≡ Some c → (hs : List Hop) → first t f c hs ≡ first t g c hs
  first_same p c ef eg [] = refl
  first_same p c ef eg (h ∷ hs) = ap₂ (λ b r. cond b (Some h) r)
      (same_truth (is_cost t (onward t (f h.to) h.by) c) (is_cost t (onward t (g h.to) h.by) c)
      (λ y. is_cost_of L _ c (shared L m f g K G p c h eg (cost_is L _ c y)).3)
      (λ y. is_cost_of L _ c (shared L m g f G K p c h ef (cost_is L _ c y)).3))
      (first_same p c ef eg hs)

  back_same : (p : ℕ) (c : C) → f p ≡ Some c → g p ≡ Some c → back t m f p ≡ back t m g p
  back_same p c ef eg = ap (cond (eqb p m.start) None)
      (ap (λ o. accounts t f o (m.around p)) ef ∙ first_same p c ef eg (m.around p) ∙ sym (ap (λ o. accounts t g o (m.around p)) eg))

  trace_same : (n p : ℕ) (c : C) → f p ≡ Some c → g p ≡ Some c → trace t m f n p ≡ trace t m g n p
  unfolding trace
  trace_same zero p c ef eg = refl
  trace_same (suc n) p c ef eg =
      go (back t m f p) (λ h e. let (b, fb, gb, on) = shared L m f g K G p c h eg
      (first_gives L f c (m.around p) h (sym (ap (λ o. accounts t f o (m.around p)) ef) ∙ not_cond (eqb p m.start) _ e)) in trace_same n h.to b fb gb) refl
      ∙ ap (λ o. hang p o (trace t m g n)) (back_same p c ef eg)
    where
      go : (o : Option Hop) → ((h : Hop) → back t m f p ≡ Some h → trace t m f n h.to ≡ trace t m g n h.to) → back t m f p ≡ o → hang p o (trace t m f n) ≡ hang p o (trace t m g n)
      go None ih e = refl
      go (Some h) ih e = ap (λ w. (record { by = h.by; to = p }) ∷ w) (ih h e)

pub trace_is_same : (C : Type 0) → TraceIsSame C
trace_is_same C t m limit goal f c L K e n =
    trace_same L m f (least t m limit) K (least_is_known C t m limit L) n goal c e (is_least L m limit goal c (omega arith) (K.exact goal c e))

pub trace_goes : (C : Type 0) → TraceGoes C
trace_goes C t m limit goal f c L num K e = chained L m num f K limit goal c [] e tt (λ q i. absurd i) (omega arith)
