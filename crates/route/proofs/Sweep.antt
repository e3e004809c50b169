-- Swept labels are least costs. Assumes nothing.
use Rattle.std.proofs.Common.{◌≡◌, ℕ, zero, suc, ◌+◌, ◌<◌, ◌≤◌, Bool, true, false, cond, ◌⊎◌, List, [], ◌∷◌, length, get_or, Some, None, Option, sym, refl, ap, ◌∙◌, inl, inr, arith}
use mathlib.Core.Path.{fun_ext}
use Rattle.std.proofs.lemmas.Bool.{cases_Bool, cond-false}
use Rattle.tariff.specs.Rates.{Rates}
use Rattle.route.proofs.Lawful.{Lawful}
use Rattle.route.specs.Hops.{Hop}
use Rattle.route.specs.Search.{Maze, Route, Least, best, better, at_start, least, cost}
use Rattle.route.proofs.Traces.{Numbered, visited}
use Rattle.route.specs.Sweep.{row, label, sweep, swept}
use Rattle.route.proofs.Order.{none_some, cases_option, Leq, leq_trans}
use Rattle.route.proofs.Best.{least_is, is_least, found, routed}
use Rattle.route.proofs.Wire.{simple, visited_free, length_visited}
use Rattle.route.proofs.Holes.{holes}

-- after k sweeps each label is the least cost over at most k steps
abbrev pub SweptIsShort : Type 0 → Type 0
SweptIsShort C = (t : Rates C) (m : Maze) (n k p : ℕ) → Numbered m n → get_or (swept t m n k) p None ≡ least t m k p

-- after as many sweeps as there are places, it is the least cost
abbrev pub SweptIsLeast : Type 0 → Type 0
SweptIsLeast C = (t : Rates C) (m : Maze) (limit n p : ℕ) → Lawful t limit → n ≤ limit → Numbered m n → get_or (swept t m n n) p None ≡ least t m limit p

row_in : {A : Type 0} (f : ℕ → A) (d : A) (n i j : ℕ) → j < n → get_or (row f i n) j d ≡ f (i + j)
unfolding row
row_in f d zero i j lt = absurd (omega arith)
row_in f d (suc n) i zero lt = ap f (let e : i ≡ i + 0 = omega arith in e)
row_in f d (suc n) i (suc j) lt = row_in f d n (suc i) j (omega arith) ∙ ap f (let e : suc i + j ≡ i + suc j = omega arith in e)

row_out : {A : Type 0} (f : ℕ → A) (d : A) (n i j : ℕ) → n ≤ j → get_or (row f i n) j d ≡ d
unfolding row
row_out f d zero i j le = refl
row_out f d (suc n) i zero le = absurd (omega arith)
row_out f d (suc n) i (suc j) le = row_out f d n (suc i) j (omega arith)

best_none : {C : Type 0} (t : Rates C) (hs : List Hop) → best t (λ q. None) hs ≡ None
best_none t [] = refl
best_none t (h ∷ hs) = go (t.has h.by) (best_none t hs)
  where
    go : (b : Bool) → best t (λ q. None) hs ≡ None → better t (cond b None None) (best t (λ q. None) hs) ≡ None
    go true e = e
    go false e = e

better_none : {C : Type 0} (t : Rates C) (o : Option C) → better t o None ≡ o
better_none t None = refl
better_none t (Some c) = refl

module _ {C : Type 0} (t : Rates C) (m : Maze) (n : ℕ) (num : Numbered m n) where
  shut : (f : ℕ → Option C) (p : ℕ) → n ≤ p → label t m f p ≡ None
  shut f p le = go (cases_Bool (m.free p))
    where
      go : (m.free p ≡ true) ⊎ (m.free p ≡ false) → label t m f p ≡ None
      go (inl e) = let h = num p e in absurd (omega arith)
      go (inr e) = cond-false (m.free p) _ None e

  swept_label : (ls : List (Option C)) (p : ℕ) → get_or (sweep t m n ls) p None ≡ label t m (λ q. get_or ls q None) p
  swept_label ls p = go (cases_le p n)
    where
      cases_le : (a b : ℕ) → (a < b) ⊎ (b ≤ a)
      cases_le zero zero = inr (omega arith)
      cases_le zero (suc b) = inl (omega arith)
      cases_le (suc a) zero = inr (omega arith)
      cases_le (suc a) (suc b) = elim (cases_le a b) [ inl h ↦ inl (omega arith) | inr h ↦ inr (omega arith) ]

      go : (p < n) ⊎ (n ≤ p) → get_or (sweep t m n ls) p None ≡ label t m (λ q. get_or ls q None) p
      go (inl lt) = row_in (label t m (λ q. get_or ls q None)) None n 0 p lt ∙ ap (label t m (λ q. get_or ls q None)) (let e : 0 + p ≡ p = omega arith in e)
      go (inr le) = row_out (label t m (λ q. get_or ls q None)) None n 0 p le ∙ sym (shut (λ q. get_or ls q None) p le)

  pub short : (k p : ℕ) → get_or (swept t m n k) p None ≡ least t m k p
  unfolding swept least
  short zero p = swept_label [] p ∙ ap (λ o. cond (m.free p) o None) (ap (better t (at_start t m p)) (best_none t (m.around p)) ∙ better_none t (at_start t m p))
  short (suc k) p = swept_label (swept t m n k) p ∙ ap (λ (f : ℕ → Option C). label t m f p) (fun_ext (short k))

pub swept_is_short : (C : Type 0) → SweptIsShort C
swept_is_short C t m n k p num = short t m n num k p

module _ {C : Type 0} {t : Rates C} {limit : ℕ} (L : Lawful t limit) (m : Maze) (n : ℕ) (le : n ≤ limit) (num : Numbered m n) where
  -- a path has one of fewer than n steps at no greater cost
  few : (p : ℕ) (w : List Hop) (d : C) → Route t.has m limit p w → cost t w ≡ Some d →
      (u : List Hop) × (c : C) × Route t.has m n p u × (cost t u ≡ Some c) × Leq t c d
  few p w d r e =
      let s = simple L m w d r.legal r.short e in
      let many : length (visited m s.path) ≤ n = holes n (visited m s.path) s.apart (λ q i. num q (visited_free t m s.path s.legal q i)) in
      (s.path, s.value, record { legal = s.legal; ends = s.ends ∙ r.ends; short = omega (arith, length_visited m s.path) }, s.costs, s.low)

  longer : (p : ℕ) (w : List Hop) → Route t.has m n p w → Route t.has m limit p w
  longer p w r = let short : length w ≤ n = r.short in record { legal = r.legal; ends = r.ends; short = omega arith }

  widen : (p : ℕ) (c : C) → Least t m n p c → Least t m limit p c
  widen p c l = record {
    path = l.path;
    route = longer p l.path l.route;
    costs = l.costs;
    below = λ w d r e. let (u, x, s, ex, lo) = few p w d r e in leq_trans L c x d (l.below u x s ex) lo;
  }

  pub enough : (p : ℕ) → least t m n p ≡ least t m limit p
  enough p = go (cases_option (least t m n p))
    where
      none : least t m n p ≡ None → (least t m limit p ≡ None) ⊎ ((c : C) × (least t m limit p ≡ Some c)) → least t m n p ≡ least t m limit p
      none e (inl e1) = e ∙ sym e1
      none e (inr (c, e1)) =
          let (w, r, ew) = found L m limit p e1 in
          let (u, x, s, ex, lo) = few p w c r ew in
          none_some (sym e ∙ (routed L m n p u le s).2.is)

      go : (least t m n p ≡ None) ⊎ ((c : C) × (least t m n p ≡ Some c)) → least t m n p ≡ least t m limit p
      go (inl e) = none e (cases_option (least t m limit p))
      go (inr (c, e)) = e ∙ sym (is_least L m limit p c (omega arith) (widen p c (least_is L m n p c le e)))

pub swept_is_least : (C : Type 0) → SweptIsLeast C
swept_is_least C t m limit n p L le num = short t m n num n p ∙ enough L m n le num p
