-- `least` is the least cost. Assumes nothing.
use Rattle.std.proofs.Common.{◌≡◌, ◌↔◌, ℕ, zero, suc, ◌≤◌, Bool, true, false, cond, eqb, ◌⊎◌, List, [], ◌∷◌, length, Some, None, Option, sym, refl, ap, ◌∙◌, subst, subst₂, inl, inr, arith}
use Rattle.std.proofs.lemmas.Bool.{eqb-true, eq-eqb}
use Rattle.tariff.specs.Rates.{Rates, followed}
use Rattle.route.proofs.Lawful.{Lawful}
use Rattle.route.specs.Hops.{Hop, Among}
use Rattle.route.specs.Search.{Maze, Legal, Route, Least, cost, end, better, onward, best, at_start, least}
use Rattle.route.specs.Queue.{Within}
use Rattle.route.proofs.Order.{none_some, some_is, cond_some, cases_option, then_some, Leq, within_cond, leq_refl, leq_trans, leq_same, goes_on, costed}

abbrev pub LeastIsLeast : Type 0 → Type 0
LeastIsLeast C = (t : Rates C) (m : Maze) (limit p : ℕ) → Lawful t limit →
    ((c : C) → least t m limit p ≡ Some c ↔ Least t m limit p c) ×
    (least t m limit p ≡ None ↔ ((w : List Hop) → Route t.has m limit p w → ⊥))

pick : {C : Type 0} {c : C} (b : Bool) (x y : C) → Some (cond b x y) ≡ Some c → (Some y ≡ Some c) ⊎ (Some x ≡ Some c)
pick true x y e = inr e
pick false x y e = inl e

pub better_either : {C : Type 0} {c : C} (t : Rates C) (a b : Option C) → better t a b ≡ Some c → (a ≡ Some c) ⊎ (b ≡ Some c)
better_either t None b e = inr e
better_either t (Some x) None e = inl e
better_either t (Some x) (Some y) e = pick (t.less y x) y x e

pub best_found : {C : Type 0} {c : C} (t : Rates C) (f : ℕ → Option C) (hs : List Hop) → best t f hs ≡ Some c →
    (h : Hop) × Among h hs × (t.has h.by ≡ true) × (followed t (f h.to) h.by ≡ Some c)
best_found t f [] e = none_some e
best_found {c} t f (h ∷ hs) e = go (best_found t f hs) (better_either t (onward t (f h.to) h.by) (best t f hs) e)
  where
    Found : List Hop → Type 0
    Found hs = (x : Hop) × Among x hs × (t.has x.by ≡ true) × (followed t (f x.to) x.by ≡ Some c)

    go : (best t f hs ≡ Some c → Found hs) → (onward t (f h.to) h.by ≡ Some c) ⊎ (best t f hs ≡ Some c) → Found (h ∷ hs)
    go ih (inl e) = let p = cond_some (t.has h.by) (followed t (f h.to) h.by) e in (h, inl refl, p.0, p.1)
    go ih (inr e) = let p = ih e in (p.0, inr p.1, p.2, p.3)

module _ {C : Type 0} {t : Rates C} {limit : ℕ} (L : Lawful t limit) where
  pub better_left : {d : C} (a b : Option C) → Within t a d → Within t (better t a b) d
  better_left None b h = none_some h.is
  better_left (Some x) None h = h
  better_left {d} (Some x) (Some y) h = go (t.less y x) refl
    where
      le : Leq t x d
      le = subst (λ v. Leq t v d) (sym (some_is h.is)) h.low

      go : (b : Bool) → t.less y x ≡ b → Within t (Some (cond b y x)) d
      go true e = record { value = y; is = refl; low = leq_trans L y x d (L.one_way y x e) le }
      go false e = record { value = x; is = refl; low = le }

  pub better_right : {d : C} (a b : Option C) → Within t b d → Within t (better t a b) d
  better_right None b h = h
  better_right (Some x) None h = none_some h.is
  better_right {d} (Some x) (Some y) h = go (t.less y x) refl
    where
      le : Leq t y d
      le = subst (λ v. Leq t v d) (sym (some_is h.is)) h.low

      go : (b : Bool) → t.less y x ≡ b → Within t (Some (cond b y x)) d
      go true e = record { value = y; is = refl; low = le }
      go false e = record { value = x; is = refl; low = leq_trans L x y d e le }

  pub best_within : {d : C} (f : ℕ → Option C) (hs : List Hop) (h : Hop) → Among h hs → t.has h.by ≡ true → Within t (followed t (f h.to) h.by) d → Within t (best t f hs) d
  best_within f [] h i has w = absurd i
  best_within {d} f (x ∷ hs) h (inl e) has w =
      better_left (onward t (f x.to) x.by) (best t f hs)
      (subst (λ y. Within t (onward t (f y.to) y.by) d) e (within_cond (t.has h.by) has w))
  best_within f (x ∷ hs) h (inr i) has w =
      better_right (onward t (f x.to) x.by) (best t f hs) (best_within f hs h i has w)

  module _ (m : Maze) where
    begun : {c : C} (p n : ℕ) → m.free p ≡ true → at_start t m p ≡ Some c → (w : List Hop) × Route t.has m n p w × (cost t w ≡ Some c)
    begun p n f e =
        let s = cond_some (eqb p m.start) (Some t.nothing) e in
        let here : p ≡ m.start = eqb-true p m.start s.0 in
        ([], record { legal = subst (λ q. m.free q ≡ true) here f; ends = sym here; short = omega arith }, s.1)

    pub found : {c : C} (n p : ℕ) → least t m n p ≡ Some c → (w : List Hop) × Route t.has m n p w × (cost t w ≡ Some c)
    unfolding least
    found zero p e = let f = cond_some (m.free p) (at_start t m p) e in begun p zero f.0 f.1
    found {c} (suc n) p e = go (λ d q. found {c = d} n q) (better_either t (at_start t m p) (best t (least t m n) (m.around p)) f.1)
      where
        f : (m.free p ≡ true) × (better t (at_start t m p) (best t (least t m n) (m.around p)) ≡ Some c)
        f = cond_some (m.free p) _ e

        go : ((d : C) (q : ℕ) → least t m n q ≡ Some d → (w : List Hop) × Route t.has m n q w × (cost t w ≡ Some d)) →
            (at_start t m p ≡ Some c) ⊎ (best t (least t m n) (m.around p) ≡ Some c) → (w : List Hop) × Route t.has m (suc n) p w × (cost t w ≡ Some c)
        go ih (inl e) = begun p (suc n) f.0 e
        go ih (inr e) =
            let (h, i, has, e1) = best_found t (least t m n) (m.around p) e in
            let (d, e2, e3) = then_some t (least t m n h.to) h.by e1 in
            let (w, r, costs) = ih d h.to e2 in
            let short : length w ≤ n = r.short in (
              (record { by = h.by; to = p }) ∷ w,
              record {
                legal = (f.0, has, subst (λ q. Among (record { by = h.by; to = q }) (m.around p)) (sym r.ends) i, r.legal);
                ends = refl;
                short = omega arith;
              },
              ap (λ o. followed t o h.by) costs ∙ e3,
            )

    start_within : (d : C) → Some t.nothing ≡ Some d → Within t (at_start t m m.start) d
    start_within d e = within_cond (eqb m.start m.start) (eq-eqb m.start m.start refl)
        (record { value = t.nothing; is = refl; low = subst (λ x. Leq t t.nothing x) (some_is e) (leq_refl L t.nothing) })

    pub within : (w : List Hop) (n : ℕ) (d : C) → Legal t.has m w → length w ≤ n → n ≤ limit → cost t w ≡ Some d → Within t (least t m n (end m w)) d
    unfolding least
    within [] zero d l short le e = within_cond (m.free m.start) l (start_within d e)
    within [] (suc n) d l short le e = within_cond (m.free m.start) l (better_left (at_start t m m.start) _ (start_within d e))
    within (h ∷ w) zero d l short le e = absurd (omega arith)
    within (h ∷ w) (suc n) d l short le e =
        let (d0, e0, e1) = then_some t (cost t w) h.by e in
        let ih : Within t (least t m n (end m w)) d0 = within w n d0 l.3 (omega arith) (omega arith) e0 in
        let (u, r, costs) = found n (end m w) ih.is in
        let ushort : length u ≤ n = r.short in
        let (x, e2) = goes_on L m u ih.value h.by r.legal costs l.1 (omega arith) in
        let one : Within t (followed t (least t m n (end m w)) h.by) d = record {
          value = x;
          is = ap (λ o. followed t o h.by) ih.is ∙ e2;
          low = L.keeps ih.value d0 x d h.by ih.low e2 e1;
        } in
        within_cond (m.free h.to) l.0
        (better_right (at_start t m h.to) (best t (least t m n) (m.around h.to))
        (best_within (least t m n) (m.around h.to) (record { by = h.by; to = end m w }) l.2 l.1 one))

    pub routed : (n p : ℕ) (w : List Hop) → n ≤ limit → Route t.has m n p w → (d : C) × (cost t w ≡ Some d) × Within t (least t m n p) d
    routed n p w le r =
        let short : length w ≤ n = r.short in
        let (d, e) = costed L m w r.legal (omega arith) in
        (d, e, subst (λ q. Within t (least t m n q) d) r.ends (within w n d r.legal short le e))

    pub least_is : (n p : ℕ) (c : C) → n ≤ limit → least t m n p ≡ Some c → Least t m n p c
    least_is n p c le e =
        let (w, r, costs) = found n p e in
        record {
          path = w;
          route = r;
          costs = costs;
          below = λ u d s e1.
              let (d1, e2, h) = routed n p u le s in
              subst₂ (λ a b. Leq t a b) (some_is (sym h.is ∙ e)) (some_is (sym e2 ∙ e1)) h.low;
        }

    pub is_least : (n p : ℕ) (c : C) → n ≤ limit → Least t m n p c → least t m n p ≡ Some c
    is_least n p c le l =
        let (d, e, h) = routed n p l.path le l.route in
        let (u, s, e1) = found n p h.is in
        let low : Leq t h.value c = subst (λ x. Leq t h.value x) (some_is (sym e ∙ l.costs)) h.low in
        h.is ∙ ap Some (leq_same L h.value c low (l.below u h.value s e1))

    pub none_is : (n p : ℕ) → n ≤ limit → least t m n p ≡ None → (w : List Hop) → Route t.has m n p w → ⊥
    none_is n p le e w r = none_some (sym e ∙ (routed n p w le r).2.is)

    pub is_none : (n p : ℕ) → ((w : List Hop) → Route t.has m n p w → ⊥) → least t m n p ≡ None
    is_none n p h = go (cases_option (least t m n p))
      where
        go : (least t m n p ≡ None) ⊎ ((c : C) × (least t m n p ≡ Some c)) → least t m n p ≡ None
        go (inl e) = e
        go (inr (c, e)) = let (w, r, costs) = found n p e in absurd (h w r)

pub least_is_least : (C : Type 0) → LeastIsLeast C
least_is_least C t m limit p L =
    let le : limit ≤ limit = omega arith in
    ((λ c. (least_is L m limit p c le, is_least L m limit p c le)), (none_is L m limit p le, is_none L m limit p))
