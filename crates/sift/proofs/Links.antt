-- Which places wait, and the links between places and positions.
use Rattle.std.proofs.Common.{◌≡◌, ℕ, ◌<◌, ◌≤◌, true, false, cond, ◌&&◌, eqb, leb, Some, None, sym, refl, ap, ◌∙◌, subst, ⊎_elim, arith}
use Rattle.std.proofs.lemmas.Bool.{cases_eq, cases_Bool, cond-true, cond-false, and_parts, and_from, leb-true, le-leb, eqb-true, eq-eqb}
use Rattle.std.specs.Cmp.{both_ways}
use Rattle.front.specs.Places.{changed}
use Rattle.sift.specs.Layouts.{Layout, filled, Linked, waits, wait_cost}
use Rattle.front.proofs.Changes.{changed_at, changed_off, changed_same}
use Rattle.sift.proofs.Records.{layout_same}

-- `waits` in words
pub record IsWaiting {C : Type 0} (h : Layout C) (count p : ℕ) : Type 0 where
  pub first : 1 ≤ h.at p
  pub most : h.at p ≤ count
  pub back : h.slot (h.at p) ≡ p

-- the place k stands at one of the positions 1 to count
pub record HasPosition {C : Type 0} (h : Layout C) (count k : ℕ) : Type 0 where
  pub position : ℕ
  pub first : 1 ≤ position
  pub most : position ≤ count
  pub here : h.slot position ≡ k

module _ {C : Type 0} (h : Layout C) (count : ℕ) where
  pub waits_true : (p : ℕ) → waits h count p ≡ true → IsWaiting h count p
  waits_true p e =
      let a = and_parts (leb 1 (h.at p)) (leb (h.at p) count && eqb (h.slot (h.at p)) p) e in
      let b = and_parts (leb (h.at p) count) (eqb (h.slot (h.at p)) p) a.1 in
      record { first = leb-true 1 (h.at p) a.0; most = leb-true (h.at p) count b.0; back = eqb-true (h.slot (h.at p)) p b.1 }

  pub waits_from : (p : ℕ) → IsWaiting h count p → waits h count p ≡ true
  waits_from p w = and_from (leb 1 (h.at p)) (leb (h.at p) count && eqb (h.slot (h.at p)) p) (le-leb 1 (h.at p) w.first)
      (and_from (leb (h.at p) count) (eqb (h.slot (h.at p)) p) (le-leb (h.at p) count w.most) (eq-eqb (h.slot (h.at p)) p w.back))

  pub waits_false : (p : ℕ) → (IsWaiting h count p → ⊥) → waits h count p ≡ false
  waits_false p f = ⊎_elim (λ e. absurd (f (waits_true p e))) (λ e. e) (cases_Bool (waits h count p))

  -- what stands at a position waits
  pub slot_waits : (n : ℕ) → Linked h n count → (i : ℕ) → 1 ≤ i → i ≤ count → waits h count (h.slot i) ≡ true
  slot_waits n l i i1 ic =
      let e = (l.slots i i1 ic).1 in
      waits_from (h.slot i) (record { first = omega arith; most = omega arith; back = ap h.slot e })

  pub position_waits : (n : ℕ) → Linked h n count → (k : ℕ) → HasPosition h count k → waits h count k ≡ true
  position_waits n l k s = ap (waits h count) (sym s.here) ∙ slot_waits n l s.position s.first s.most

  pub waits_position : (k : ℕ) → waits h count k ≡ true → HasPosition h count k
  waits_position k e = let w = waits_true k e in record { position = h.at k; first = w.first; most = w.most; here = w.back }

-- none waits in a heap of none
pub empty_waits : {C : Type 0} (h : Layout C) (k : ℕ) → waits h 0 k ≡ false
empty_waits h k = waits_false h 0 k (λ a. let a1 = a.first in let am = a.most in omega arith)

pub empty_wait_cost : {C : Type 0} (h : Layout C) (k : ℕ) → wait_cost h 0 k ≡ None
empty_wait_cost h k = cond-false (waits h 0 k) (h.cost k) None (empty_waits h k)

-- a place that waits has its cost
pub waiting_cost : {C : Type 0} (h : Layout C) (count p : ℕ) (d : C) → waits h count p ≡ true → h.cost p ≡ Some d → wait_cost h count p ≡ Some d
waiting_cost h count p d w e = cond-true (waits h count p) (h.cost p) None w ∙ e

-- a place waits in k as in h
pub wait_cost_same : {C : Type 0} (h k : Layout C) (count m q : ℕ) → waits k m q ≡ waits h count q → k.cost q ≡ h.cost q → wait_cost k m q ≡ wait_cost h count q
wait_cost_same h k count m q ew ec = ap (λ w. cond w (k.cost q) None) ew ∙ ap (λ z. cond (waits h count q) z None) ec

-- a place is put where it is
pub filled_self : {C : Type 0} (h : Layout C) (a p : ℕ) → h.at p ≡ a → h.slot a ≡ p → filled h a p ≡ h
filled_self h a p ea es = layout_same _ _ (λ x. changed_same h.slot a p x (sym es)) (λ x. changed_same h.at p a x (sym ea)) (λ x. refl)

-- the place that is to be at i, and the one at u, change places
module _ {C : Type 0} (h : Layout C) (n count i u q : ℕ) (l : Linked (filled h i q) n count) (qn : q < n)
    (u1 : 1 ≤ u) (um : u ≤ count) (i1 : 1 ≤ i) (im : i ≤ count) (ne : u ≡ i → ⊥) where
  pub link_step : Linked (filled (filled h i (h.slot u)) u q) n count
  link_step =
      let o = h.slot u in
      let V = filled h i q in
      let su : V.slot u ≡ o = changed_off h.slot i q u ne in
      let lu = l.slots u u1 um in
      let on : o < n = subst (λ x. x < n) su lu.0 in
      let ao : V.at o ≡ u = ap V.at (sym su) ∙ lu.1 in
      let oq : (o ≡ q → ⊥) = λ e. ne (sym ao ∙ changed_at h.at q i o e) in
      let S = (filled (filled h i o) u q).slot in
      let A = (filled (filled h i o) u q).at in
      record {
        few = l.few;
        slots = λ j j1 jm. ⊎_elim
            (λ e. let sj : S j ≡ q = changed_at (changed h.slot i o) u q j e in
            (subst (λ x. x < n) (sym sj) qn, ap A sj ∙ changed_at (changed h.at o i) q u q refl ∙ sym e))
            (λ n1. ⊎_elim
            (λ e. let sj : S j ≡ o = changed_off (changed h.slot i o) u q j n1 ∙ changed_at h.slot i o j e in
            (subst (λ x. x < n) (sym sj) on, ap A sj ∙ changed_off (changed h.at o i) q u o oq ∙ changed_at h.at o i o refl ∙ sym e))
            (λ n2.
            let x = h.slot j in
            let sj : S j ≡ x = changed_off (changed h.slot i o) u q j n1 ∙ changed_off h.slot i o j n2 in
            let vj : V.slot j ≡ x = changed_off h.slot i q j n2 in
            let lj = l.slots j j1 jm in
            let ax : V.at x ≡ j = ap V.at (sym vj) ∙ lj.1 in
            let xq : (x ≡ q → ⊥) = λ e. n2 (sym ax ∙ changed_at h.at q i x e) in
            let xo : (x ≡ o → ⊥) = λ e. n1 (sym ax ∙ ap V.at e ∙ ao) in (
              subst (λ y. y < n) (vj ∙ sym sj) lj.0,
              ap A sj ∙ changed_off (changed h.at o i) q u x xq ∙ changed_off h.at o i x xo ∙ sym (changed_off h.at q i x xq) ∙ ax,
            ))
            (cases_eq j i))
            (cases_eq j u);
      }

  pub link_waits : (k : ℕ) → waits (filled (filled h i (h.slot u)) u q) count k ≡ waits (filled h i q) count k
  link_waits k =
      let o = h.slot u in
      let V = filled h i q in
      let W = filled (filled h i o) u q in
      let iu : (i ≡ u → ⊥) = λ e. ne (sym e) in
      let vu : V.slot u ≡ o = changed_off h.slot i q u ne in
      let vi : V.slot i ≡ q = changed_at h.slot i q i refl in
      let wu : W.slot u ≡ q = changed_at (changed h.slot i o) u q u refl in
      let wi : W.slot i ≡ o = changed_off (changed h.slot i o) u q i iu ∙ changed_at h.slot i o i refl in
      let off : ((j : ℕ) → (j ≡ i → ⊥) → (j ≡ u → ⊥) → W.slot j ≡ V.slot j) =
      λ j n1 n2. changed_off (changed h.slot i o) u q j n2 ∙ changed_off h.slot i o j n1 ∙ sym (changed_off h.slot i q j n1) in
      both_ways (waits W count k) (waits V count k)
      (λ e. let s = waits_position W count k e in position_waits V count n l k (⊎_elim
      (λ a. record { position = i; first = i1; most = im; here = vi ∙ sym wu ∙ ap W.slot (sym a) ∙ s.here })
      (λ n2. ⊎_elim
      (λ a. record { position = u; first = u1; most = um; here = vu ∙ sym wi ∙ ap W.slot (sym a) ∙ s.here })
      (λ n1. record { position = s.position; first = s.first; most = s.most; here = sym (off s.position n1 n2) ∙ s.here })
      (cases_eq s.position i))
      (cases_eq s.position u)))
      (λ e. let s = waits_position V count k e in position_waits W count n link_step k (⊎_elim
      (λ a. record { position = i; first = i1; most = im; here = wi ∙ sym vu ∙ ap V.slot (sym a) ∙ s.here })
      (λ n2. ⊎_elim
      (λ a. record { position = u; first = u1; most = um; here = wu ∙ sym vi ∙ ap V.slot (sym a) ∙ s.here })
      (λ n1. record { position = s.position; first = s.first; most = s.most; here = off s.position n1 n2 ∙ s.here })
      (cases_eq s.position i))
      (cases_eq s.position u)))
