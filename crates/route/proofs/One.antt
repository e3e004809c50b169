-- There is one wire at most. Assumes nothing.
use Rattle.std.proofs.Common.{◌≡◌, ℕ, true, ◌⊎◌, List, [], ◌∷◌, ◌++◌, sym, refl, ap, ◌∙◌, subst, ap₂, inl, inr}
use Rattle.std.proofs.lemmas.Bool.{both_ways}
use Rattle.tariff.specs.Rates.{Rates}
use Rattle.route.proofs.Lawful.{Lawful}
use Rattle.route.specs.Hops.{Hop, Among}
use Rattle.route.specs.Search.{Maze, cost, end, steps}
use Rattle.route.proofs.Rule.{Rule, rule_of, Best, Accounts, First, Wire, WireIsOne}
use Rattle.route.proofs.Order.{then_some, Leq}
use Rattle.route.proofs.Rule.{least_of}
use Rattle.route.proofs.Wire.{nothing_low}

head_is : {x y : Hop} {xs ys : List Hop} → x ∷ xs ≡ y ∷ ys → x ≡ y
head_is e = cc

tail_is : {x y : Hop} {xs ys : List Hop} → x ∷ xs ≡ y ∷ ys → xs ≡ ys
tail_is e = cc

-- of two places in one list, one stands before the other, or they are one
two_places : (f g : List Hop) (x y : Hop) (b d : List Hop) → f ++ (x ∷ b) ≡ g ++ (y ∷ d) → (Among x g ⊎ Among y f) ⊎ (x ≡ y)
two_places [] [] x y b d e = inr (head_is e)
two_places [] (z ∷ g) x y b d e = inl (inl (inl (head_is e)))
two_places (z ∷ f) [] x y b d e = inl (inr (inl (sym (head_is e))))
two_places (z ∷ f) (v ∷ g) x y b d e = elim (two_places f g x y b d (tail_is e)) [
  | inl i ↦ inl (elim i [ inl j ↦ inl (inr j) | inr j ↦ inr (inr j) ])
  | inr i ↦ inr i
]

wire_best : (r : Rule) (m : Maze) (limit p : ℕ) (w : List Hop) → Wire r m limit p w → Best r m limit p w
wire_best r m limit p [] i = i
wire_best r m limit p (h ∷ w) i = i.0

module _ {C : Type 0} {t : Rates C} {limit : ℕ} (L : Lawful t limit) (m : Maze) where
  -- no best path goes on to the start
  not_longer : {A : Type 0} (p : ℕ) (h : Hop) (u : List Hop) → Best (rule_of t) m limit p [] → Best (rule_of t) m limit p (h ∷ u) → A
  not_longer p h u a b =
      let (c, e, l) = least_of L m p (h ∷ u) b in
      let (d0, e0, e1) = then_some t (cost t u) h.by e in
      let low : Leq t c t.nothing = l.below [] t.nothing a.route refl in
      let cn : c ≡ t.nothing = L.same c t.nothing (nothing_low L m (h ∷ u) c e) low in
      absurd (both_ways _ (nothing_low L m u d0 e0) (subst (λ z. t.less d0 z ≡ true) cn (L.grows d0 c h.by e1)))

  pub wire_one : (w u : List Hop) (p : ℕ) → Wire (rule_of t) m limit p w → Wire (rule_of t) m limit p u → w ≡ u
  wire_one [] [] p a b = refl
  wire_one [] (h ∷ u) p a b = not_longer p h u a b.0
  wire_one (h ∷ w) [] p a b = not_longer p h w b a.0
  wire_one (h ∷ w) (g ∷ u) p a b =
      go (two_places F.front G.front x y F.back G.back (sym F.place ∙ G.place)) (λ q i. wire_one w u (end m w) a.2 (subst (λ z. Wire (rule_of t) m limit z u) (sym q) i))
    where
      F : First (rule_of t) m limit (m.around p) (record { by = h.by; to = end m w }) (steps (h ∷ w))
      F = a.1

      G : First (rule_of t) m limit (m.around p) (record { by = g.by; to = end m u }) (steps (g ∷ u))
      G = b.1

      x : Hop
      x = record { by = h.by; to = end m w }

      y : Hop
      y = record { by = g.by; to = end m u }

      ax : Accounts (rule_of t) m limit x (steps (g ∷ u))
      ax = record {
        has = a.0.route.legal.1;
        path = w;
        best = wire_best (rule_of t) m limit (end m w) w a.2;
        tie = (b.0.best (h ∷ w) a.0.route, a.0.best (g ∷ u) b.0.route);
      }

      ay : Accounts (rule_of t) m limit y (steps (h ∷ w))
      ay = record {
        has = b.0.route.legal.1;
        path = u;
        best = wire_best (rule_of t) m limit (end m u) u b.2;
        tie = (a.0.best (g ∷ u) b.0.route, b.0.best (h ∷ w) a.0.route);
      }

      go : (Among x G.front ⊎ Among y F.front) ⊎ (x ≡ y) → (end m w ≡ end m u → Wire (rule_of t) m limit (end m u) u → w ≡ u) → h ∷ w ≡ g ∷ u
      go (inl (inl i)) ih = absurd (G.first x i ax)
      go (inl (inr i)) ih = absurd (F.first y i ay)
      go (inr i) ih =
          let bys : h.by ≡ g.by = ap (λ z. z.by) i in
          let tos : h.to ≡ g.to = a.0.route.ends ∙ sym b.0.route.ends in
          ap₂ (λ z v. z ∷ v) (ap₂ (λ k q. record { by = k; to = q }) bys tos) (ih (ap (λ z. z.to) i) b.2)

pub wire_is_one : (C : Type 0) → WireIsOne C
wire_is_one C t m limit p w u L a b = wire_one L m w u p a b
