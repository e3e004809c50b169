-- A take, hop by hop. Assumes nothing.
use Rattle.std.proofs.Common.{◌≡◌, ℕ, Bool, true, false, cond, ◌&&◌, ◌≢◌, ◌⊎◌, List, [], ◌∷◌, ◌++◌, Some, None, Option, sym, refl, ap, ◌∙◌, subst, inl, inr}
use Rattle.std.proofs.lemmas.Bool.{cases_eq, both_ways, cond-true, cond-false, and_parts, and_from, and_right}
use Rattle.tariff.specs.Rates.{Rates}
use Rattle.route.proofs.Lawful.{Lawful}
use Rattle.route.specs.Hops.{Hop, Among}
use Rattle.route.specs.Search.{Maze, better, onward}
use Rattle.route.specs.Queue.{State, Within, Offers, Took, Offered, is_new}
use Rattle.route.proofs.States.{TookNone, TookMore}
use Rattle.route.proofs.Order.{cond_some, leq_refl}
use Rattle.route.proofs.Best.{better_either, better_left, better_right}

among_front : (x : Hop) (hs js : List Hop) → Among x hs → Among x (hs ++ js)
among_front x [] js i = absurd i
among_front x (h ∷ hs) js (inl e) = inl e
among_front x (h ∷ hs) js (inr i) = inr (among_front x hs js i)

among_back : (x : Hop) (hs js : List Hop) → Among x js → Among x (hs ++ js)
among_back x [] js i = i
among_back x (h ∷ hs) js i = inr (among_back x hs js i)

among_last : (x h : Hop) (hs : List Hop) → Among x (hs ++ (h ∷ [])) → Among x hs ⊎ (x ≡ h)
among_last x h [] (inl e) = inr e
among_last x h [] (inr i) = absurd i
among_last x h (y ∷ hs) (inl e) = inl (inl e)
among_last x h (y ∷ hs) (inr i) = elim (among_last x h hs i) [ inl j ↦ inl (inr j) | inr e ↦ inr e ]

new_is : {C : Type 0} (o : Option C) → is_new o ≡ true → o ≡ None
new_is None e = refl
new_is (Some c) e = absurd (both_ways false refl e)

pub took_none : (C : Type 0) → TookNone C
took_none C t m limit s s' p c L K = record {
  count = K.count;
  named = K.named;
  others = K.others;
  gone = K.gone;
  from = λ q e n w. inl (sym (K.rest q n) ∙ w);
  stays = λ q e n w. record { value = e; is = K.rest q n ∙ w; low = leq_refl L e };
  offered = λ q e n o. absurd o.among;
}

module _ {C : Type 0} {t : Rates C} {m : Maze} {limit : ℕ} {s s' s'' : State C} {p : ℕ} {c : C} {hs : List Hop} {h : Hop}
    (L : Lawful t limit) (K : Took t m s p c hs s') (O : Offered t m s' c h s'') where
  Longer : List Hop
  Longer = hs ++ (h ∷ [])

  test : Bool
  test = m.free h.to && is_new (s'.label h.to)

  more : {q : ℕ} {e : C} → Offers t m s c hs q e → Offers t m s c (hs ++ (h ∷ [])) q e
  more o = record { by = o.by; among = among_front _ hs (h ∷ []) o.among; has = o.has; free = o.free; fresh = o.fresh; made = o.made }

  wait_from : (q : ℕ) (e : C) → q ≢ p → s''.waiting q ≡ Some e → (s.waiting q ≡ Some e) ⊎ Offers t m s c (hs ++ (h ∷ [])) q e
  wait_from q e n w = split (cases_eq q h.to)
    where
      before : s'.waiting q ≡ Some e → (s.waiting q ≡ Some e) ⊎ Offers t m s c (hs ++ (h ∷ [])) q e
      before w1 = elim (K.from q e n w1) [ inl i ↦ inl i | inr o ↦ inr (more o) ]

      fresh_offer : q ≡ h.to → (m.free h.to && is_new (s'.label h.to)) ≡ true → onward t (Some c) h.by ≡ Some e → Offers t m s c (hs ++ (h ∷ [])) q e
      fresh_offer i y on =
          let (f, new) = and_parts (m.free h.to) (is_new (s'.label h.to)) y in
          let (has, made) = cond_some (t.has h.by) (t.after c h.by) on in
          record {
            by = h.by;
            among = among_back (record { by = h.by; to = q }) hs (h ∷ []) (inl (ap (λ z. record { by = h.by; to = z }) i));
            has = has;
            free = ap m.free i ∙ f;
            fresh = sym (K.others q n) ∙ ap s'.label i ∙ new_is (s'.label h.to) new;
            made = made;
          }

      at : q ≡ h.to → (b : Bool) → (m.free h.to && is_new (s'.label h.to)) ≡ b →
          cond b (better t (s'.waiting h.to) (onward t (Some c) h.by)) (s'.waiting h.to) ≡ Some e → (s.waiting q ≡ Some e) ⊎ Offers t m s c (hs ++ (h ∷ [])) q e
      at i false y w1 = before (ap s'.waiting i ∙ w1)
      at i true y w1 = elim (better_either t (s'.waiting h.to) (onward t (Some c) h.by) w1) [
        | inl w2 ↦ before (ap s'.waiting i ∙ w2)
        | inr on ↦ inr (fresh_offer i y on)
      ]

      split : (q ≡ h.to) ⊎ (q ≡ h.to → ⊥) → (s.waiting q ≡ Some e) ⊎ Offers t m s c (hs ++ (h ∷ [])) q e
      split (inl i) = at i (m.free h.to && is_new (s'.label h.to)) refl (sym O.there ∙ sym (ap s''.waiting i) ∙ w)
      split (inr k) = before (sym (O.rest q k) ∙ w)

  kept : (q : ℕ) (e : C) → Within t (s'.waiting q) e → Within t (s''.waiting q) e
  kept q e v = split (cases_eq q h.to)
    where
      at : (b : Bool) → Within t (s'.waiting h.to) e → Within t (cond b (better t (s'.waiting h.to) (onward t (Some c) h.by)) (s'.waiting h.to)) e
      at false v = v
      at true v = better_left L (s'.waiting h.to) (onward t (Some c) h.by) v

      split : (q ≡ h.to) ⊎ (q ≡ h.to → ⊥) → Within t (s''.waiting q) e
      split (inl i) = subst (λ o. Within t o e) (sym (ap s''.waiting i ∙ O.there))
          (at (m.free h.to && is_new (s'.label h.to)) (subst (λ z. Within t (s'.waiting z) e) i v))
      split (inr k) = subst (λ o. Within t o e) (sym (O.rest q k)) v

  new_offer : (q : ℕ) (e : C) → q ≢ p → Offers t m s c (hs ++ (h ∷ [])) q e → Within t (s''.waiting q) e
  new_offer q e n o = split (among_last (record { by = o.by; to = q }) h hs o.among)
    where
      split : Among (record { by = o.by; to = q }) hs ⊎ (record { by = o.by; to = q } ≡ h) → Within t (s''.waiting q) e
      split (inl i) = kept q e (K.offered q e n (record { by = o.by; among = i; has = o.has; free = o.free; fresh = o.fresh; made = o.made }))
      split (inr i) =
          let qi : q ≡ h.to = ap (λ x. x.to) i in
          let ki : o.by ≡ h.by = ap (λ x. x.by) i in
          let has : t.has h.by ≡ true = subst (λ k. t.has k ≡ true) ki o.has in
          let made : t.after c h.by ≡ Some e = subst (λ k. t.after c k ≡ Some e) ki o.made in
          let on : onward t (Some c) h.by ≡ Some e = cond-true (t.has h.by) (t.after c h.by) None has ∙ made in
          let new : is_new (s'.label h.to) ≡ true = ap is_new (sym (ap s'.label qi) ∙ K.others q n ∙ o.fresh) in
          let y : (m.free h.to && is_new (s'.label h.to)) ≡ true = and_from (m.free h.to) (is_new (s'.label h.to)) (sym (ap m.free qi) ∙ o.free) new in
          let w : s''.waiting q ≡ better t (s'.waiting h.to) (onward t (Some c) h.by) = ap s''.waiting qi ∙ O.there ∙ cond-true _ _ (s'.waiting h.to) y in
          subst (λ z. Within t z e) (sym w) (better_right L (s'.waiting h.to) (onward t (Some c) h.by) (record { value = e; is = on; low = leq_refl L e }))

  still_gone : s''.waiting p ≡ None
  still_gone = split (cases_eq p h.to)
    where
      split : (p ≡ h.to) ⊎ (p ≡ h.to → ⊥) → s''.waiting p ≡ None
      split (inr k) = O.rest p k ∙ K.gone
      split (inl i) =
          let old : is_new (s'.label h.to) ≡ false = ap is_new (sym (ap s'.label i) ∙ K.named) in
          ap s''.waiting i ∙ O.there ∙ cond-false _ (better t (s'.waiting h.to) (onward t (Some c) h.by)) (s'.waiting h.to) (and_right (m.free h.to) (is_new (s'.label h.to)) old)
          ∙ sym (ap s'.waiting i) ∙ K.gone

pub took_more : (C : Type 0) → TookMore C
took_more C t m limit s s' s'' p c hs h L K O = record {
  count = O.count ∙ K.count;
  named = O.labels p ∙ K.named;
  others = λ q n. O.labels q ∙ K.others q n;
  gone = still_gone L K O;
  from = wait_from L K O;
  stays = λ q e n w. kept L K O q e (K.stays q e n w);
  offered = new_offer L K O;
}
