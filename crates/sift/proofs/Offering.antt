-- A place waits at a new cost.
use Rattle.std.proofs.Common.{◌≡◌, ℕ, ◌+◌, ◌/◌, ◌<◌, ◌≤◌, true, false, Some, sym, refl, ap, ◌∙◌, subst, ⊎_elim, arith}
use Rattle.std.proofs.lemmas.Bool.{cases_eq}
use Rattle.std.specs.Cmp.{both_ways}
use Rattle.tariff.specs.Rates.{Rates, Laws}
use Rattle.sift.specs.Layouts.{Layout, filled, priced, lower, key, waits, Linked, Heaped, OrderUp, HoleUp, Sifted, WaitsAt}
use Rattle.front.proofs.Changes.{changed_at, changed_off}
use Rattle.sift.proofs.Links.{waits_true, waits_position, position_waits, waiting_cost, wait_cost_same, filled_self}
use Rattle.sift.proofs.Orders.{not_lower, lower_not}
use Rattle.sift.proofs.Rooms.{absent, has_room}

-- in v the place p waits at x, and every other as in h
record Entered {C : Type 0} (h v : Layout C) (count m p : ℕ) (x : C) : Type 0 where
  here : waits v m p ≡ true
  cost : v.cost p ≡ Some x
  others : (k : ℕ) → (k ≡ p → ⊥) → waits v m k ≡ waits h count k
  costs : (k : ℕ) → (k ≡ p → ⊥) → v.cost k ≡ h.cost k

-- so it does after a sift
waits_at : {C : Type 0} {t : Rates C} {h v k : Layout C} {n count m p : ℕ} {x : C} → Entered h v count m p x → Sifted t v k n m → WaitsAt t h k n count m p x
waits_at {h} {k} {count} {m} {p} {x} b r = record {
  heaped = r.heaped;
  here = waiting_cost k m p x (r.same.waits p ∙ b.here) (r.same.cost p ∙ b.cost);
  others = λ q ne. wait_cost_same h k count m q (r.same.waits q ∙ b.others q ne) (r.same.cost q ∙ b.costs q ne);
}

-- INSERT: a place that did not wait takes the next position
module _ {C : Type 0} {t : Rates C} (h : Layout C) (n count p : ℕ) (c : C) (s : Heaped t h n count) (pn : p < n) (w : waits h count p ≡ false) where
  insert_linked : Linked (filled (priced h p c) (count + 1) p) n (count + 1)
  insert_linked =
      let m = count + 1 in
      let l = s.linked in
      let v = filled (priced h p c) m p in
      let r = has_room h n count p l w pn in
      record {
        few = omega arith;
        slots = λ i i1 im. ⊎_elim
            (λ e. let si : v.slot i ≡ p = changed_at h.slot m p i e in
            (subst (λ x. x < n) (sym si) pn, changed_at h.at p m (v.slot i) si ∙ sym e))
            (λ ne. let si : v.slot i ≡ h.slot i = changed_off h.slot m p i ne in
            let li = l.slots i i1 (omega arith) in (
              subst (λ x. x < n) (sym si) li.0,
              ap v.at si ∙ changed_off h.at p m (h.slot i) (absent h n count p l w i i1 (omega arith)) ∙ li.1,
            ))
            (cases_eq i m);
      }

  pub insert_hole : HoleUp t (priced h p c) n (count + 1) (count + 1) p c
  insert_hole =
      let m = count + 1 in
      let v = filled (priced h p c) m p in
      let k : ((j : ℕ) → 1 ≤ j → j ≤ count → key v j ≡ key h j) = λ j j1 jc.
      let sj : v.slot j ≡ h.slot j = changed_off h.slot m p j (λ e. omega arith) in
      ap v.cost sj ∙ changed_off h.cost p (Some c) (h.slot j) (absent h n count p s.linked w j j1 jc) in
      record {
        hole = record { first = omega arith; most = omega arith; place = pn; here = changed_at h.cost p (Some c) p refl; linked = insert_linked };
        order = record {
          rest = λ j two jm ne.
              let ej = k j (omega arith) (omega arith) in
              let eu = k (j / 2) (omega arith) (omega arith) in
              rw (ej, eu) (s.order j two (omega arith));
          over = λ j two jm e. absurd (omega arith);
        };
      }

  insert_entered : Entered h (filled (priced h p c) (count + 1) p) count (count + 1) p c
  insert_entered =
      let m = count + 1 in
      let v = filled (priced h p c) m p in
      record {
        here = position_waits v m n insert_linked p (record { position = m; first = omega arith; most = omega arith; here = changed_at h.slot m p m refl });
        cost = changed_at h.cost p (Some c) p refl;
        others = λ k ne. both_ways (waits v m k) (waits h count k)
            (λ e. let a = waits_position v m k e in
            let nm : (a.position ≡ m → ⊥) = λ x. ne (sym a.here ∙ changed_at h.slot m p a.position x) in
            let am = a.most in
            let ac : a.position ≤ count = ⊎_elim (λ x. absurd (nm x)) (λ x. omega arith) (cases_eq a.position m) in
            position_waits h count n s.linked k (record {
              position = a.position;
              first = a.first;
              most = ac;
              here = sym (changed_off h.slot m p a.position nm) ∙ a.here;
            }))
            (λ e. let a = waits_position h count k e in
            let ac = a.most in
            position_waits v m n insert_linked k (record {
              position = a.position;
              first = a.first;
              most = omega arith;
              here = changed_off h.slot m p a.position (λ x. omega arith) ∙ a.here;
            }));
        costs = λ k ne. changed_off h.cost p (Some c) k ne;
      }

  pub inserted : (k : Layout C) → Sifted t (filled (priced h p c) (count + 1) p) k n (count + 1) → WaitsAt t h k n count (count + 1) p c
  inserted k r = waits_at insert_entered r

-- DECREASE: a place that waited at more keeps its position
module _ {C : Type 0} {t : Rates C} (laws : Laws t) (h : Layout C) (n count p : ℕ) (c : C) (s : Heaped t h n count) (w : waits h count p ≡ true)
    (b : lower t (Some c) (h.cost p) ≡ true) where
  decrease_same : filled (priced h p c) (h.at p) p ≡ priced h p c
  decrease_same = filled_self (priced h p c) (h.at p) p refl (waits_true h count p w).back

  pub decrease_hole : HoleUp t (priced h p c) n count (h.at p) p c
  decrease_hole =
      let i = h.at p in
      let v = priced h p c in
      let wp = waits_true h count p w in
      let i1 = wp.first in
      let ic = wp.most in
      let l = s.linked in
      let ki : key v i ≡ Some c = changed_at h.cost p (Some c) (h.slot i) wp.back in
      let hi : key h i ≡ h.cost p = ap h.cost wp.back in
      let k : ((j : ℕ) → 1 ≤ j → j ≤ count → (j ≡ i → ⊥) → key v j ≡ key h j) = λ j j1 jc ne.
      changed_off h.cost p (Some c) (h.slot j) (λ e. ne (sym (l.slots j j1 jc).1 ∙ ap h.at e)) in
      let low : lower t (key h i) (Some c) ≡ false = ap (λ x. lower t x (Some c)) hi ∙ lower_not laws (Some c) (h.cost p) b in
      let above : ((j : ℕ) → 2 ≤ j → j ≤ count → j / 2 ≡ i → lower t (key h j) (key h i) ≡ false) = λ j two jc e.
      ap (λ x. lower t (key h j) (key h x)) (sym e) ∙ s.order j two jc in
      let lv : Linked v n count = record { few = l.few; slots = l.slots } in
      let ov : OrderUp t (key v) count i = record {
        rest = λ j two jc ne.
            let ej = k j (omega arith) jc ne in
            ⊎_elim
            (λ e. let eu : key v (j / 2) ≡ Some c = ap (key v) e ∙ ki in rw (ej, eu) (not_lower laws (key h j) (key h i) (Some c) (above j two jc e) low))
            (λ nu. let eu = k (j / 2) (omega arith) (omega arith) nu in rw (ej, eu) (s.order j two jc))
            (cases_eq (j / 2) i);
        over = λ j two jc e.
            let ej = k j (omega arith) jc (λ x. omega arith) in
            let eu = k (i / 2) (omega arith) (omega arith) (λ x. omega arith) in
            rw (ej, eu) (not_lower laws (key h j) (key h i) (key h (i / 2)) (above j (omega arith) jc e) (s.order i two ic));
      } in
      record {
        hole = record {
          first = i1;
          most = ic;
          place = subst (λ x. x < n) wp.back (l.slots i i1 ic).0;
          here = changed_at h.cost p (Some c) p refl;
          linked = subst (λ x. Linked x n count) (sym decrease_same) lv;
        };
        order = subst (λ x. OrderUp t (key x) count i) (sym decrease_same) ov;
      }

  pub decreased : (k : Layout C) → Sifted t (filled (priced h p c) (h.at p) p) k n count → WaitsAt t h k n count count p c
  decreased k r =
      let e : Entered h (priced h p c) count count p c = record {
        here = w;
        cost = changed_at h.cost p (Some c) p refl;
        others = λ k ne. refl;
        costs = λ k ne. changed_off h.cost p (Some c) k ne;
      } in
      waits_at (subst (λ x. Entered h x count count p c) (sym decrease_same) e) r

-- no place waits in a heap of none
pub empty_heaped : {C : Type 0} (t : Rates C) (h : Layout C) (n : ℕ) → Heaped t h n 0
empty_heaped t h n = record {
  linked = record { few = omega arith; slots = λ i i1 ic. absurd (omega arith) };
  order = λ j j2 jc. absurd (omega arith);
}
