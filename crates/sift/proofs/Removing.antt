-- The first place waits no more.
use Rattle.std.proofs.Common.{◌≡◌, ℕ, ◌-◌, ◌/◌, ◌<◌, ◌≤◌, true, false, Some, None, sym, refl, ap, ◌∙◌, subst, ⊎_elim, arith}
use Rattle.std.proofs.lemmas.Bool.{cases_eq, cases_Bool, cond-true, cond-false}
use Rattle.std.specs.Cmp.{both_ways}
use Rattle.tariff.specs.Rates.{Rates, Laws}
use Rattle.front.proofs.Costs.{under}
use Rattle.sift.specs.Layouts.{Layout, filled, lower, key, waits, wait_cost, Linked, Heaped, HoleDown, Sifted, WaitsNoMore, LeastWaits}
use Rattle.front.proofs.Changes.{changed_at, changed_off}
use Rattle.sift.proofs.Links.{waits_true, waits_position, position_waits, slot_waits, waiting_cost, wait_cost_same}
use Rattle.sift.proofs.Orders.{first_least}

-- in v the place p does not wait, and every other does as in h
record Without {C : Type 0} (h v : Layout C) (count m p : ℕ) : Type 0 where
  gone : waits v m p ≡ false
  others : (k : ℕ) → (k ≡ p → ⊥) → waits v m k ≡ waits h count k
  costs : (k : ℕ) → v.cost k ≡ h.cost k

-- so it does after a sift
waits_no_more : {C : Type 0} {t : Rates C} {h v k : Layout C} {n count m p : ℕ} → Without h v count m p → Sifted t v k n m → WaitsNoMore t h k n count m p
waits_no_more {h} {k} {count} {m} {p} b r = record {
  heaped = r.heaped;
  gone = cond-false (waits k m p) (k.cost p) None (r.same.waits p ∙ b.gone);
  others = λ q ne. wait_cost_same h k count m q (r.same.waits q ∙ b.others q ne) (r.same.cost q ∙ b.costs q);
}

-- the first place waits at a cost that none is below
module _ {C : Type 0} {t : Rates C} (laws : Laws t) (h : Layout C) (n count : ℕ) (s : Heaped t h n count) (c1 : 1 ≤ count) where
  -- no place waits at less
  first_lowest : (c : C) → key h 1 ≡ Some c → (k : ℕ) (d : C) → wait_cost h count k ≡ Some d → t.less d c ≡ false
  first_lowest c top k d e = ⊎_elim
      (λ w.
      let a = waits_true h count k w in
      let f : h.cost k ≡ Some d = sym (cond-true (waits h count k) (h.cost k) None w) ∙ e in
      let g : key h (h.at k) ≡ Some d = ap h.cost a.back ∙ f in
      let l = first_least laws (key h) count (h.at k) s.order a.first a.most in
      ap (λ x. lower t x (Some c)) (sym g) ∙ ap (λ x. lower t (key h (h.at k)) x) (sym top) ∙ l)
      (λ w. absurd (
      let f : wait_cost h count k ≡ None = cond-false (waits h count k) (h.cost k) None w in
      let z : ◌≡◌ {A = ℕ} 0 1 = cc in omega arith))
      (cases_Bool (waits h count k))

  pub first_waits : (p : ℕ) (c : C) → h.slot 1 ≡ p → key h 1 ≡ Some c → LeastWaits t h n count p c
  first_waits p c e top = rw (← e) (record {
    inside = (s.linked.slots 1 (omega arith) c1).0;
    was = waiting_cost h count (h.slot 1) c (slot_waits h count n s.linked 1 (omega arith) c1) top;
    least = first_lowest c top;
    early = λ k d x q e a. under laws c d x (first_lowest c top k d e) (laws.grows d x q a);
  })

-- the place at the last position goes to the first
module _ {C : Type 0} {t : Rates C} (h : Layout C) (n count : ℕ) (s : Heaped t h n count) (two : 2 ≤ count) where
  moved_linked : Linked (filled h 1 (h.slot count)) n (count - 1)
  moved_linked =
      let q = h.slot count in
      let v = filled h 1 q in
      let l = s.linked in
      let few = l.few in
      let lq = l.slots count (omega arith) (omega arith) in
      record {
        few = omega arith;
        slots = λ i i1 im. ⊎_elim
            (λ e. let si : v.slot i ≡ q = changed_at h.slot 1 q i e in
            (subst (λ x. x < n) (sym si) lq.0, changed_at h.at q 1 (v.slot i) si ∙ sym e))
            (λ ne. let si : v.slot i ≡ h.slot i = changed_off h.slot 1 q i ne in
            let li = l.slots i i1 (omega arith) in
            let off : (h.slot i ≡ q → ⊥) = λ e. let x : i ≡ count = sym li.1 ∙ ap h.at e ∙ lq.1 in omega arith in
            (subst (λ x. x < n) (sym si) li.0, ap v.at si ∙ changed_off h.at q 1 (h.slot i) off ∙ li.1))
            (cases_eq i 1);
      }

  pub moved_hole : (p : ℕ) (c : C) → h.slot count ≡ p → key h count ≡ Some c → HoleDown t h n (count - 1) 1 p c
  moved_hole p c e here =
      let q = h.slot count in
      let v = filled h 1 q in
      let k : ((j : ℕ) → (j ≡ 1 → ⊥) → key v j ≡ key h j) = λ j ne. ap h.cost (changed_off h.slot 1 q j ne) in
      subst (λ x. HoleDown t h n (count - 1) 1 x c) e
      (record {
        hole = record { first = omega arith; most = omega arith; place = (s.linked.slots count (omega arith) (omega arith)).0; here = here; linked = moved_linked };
        order = record {
          rest = λ j tw jm ne. let ej = k j (λ e. omega arith) in let eu = k (j / 2) ne in rw (ej, eu) (s.order j tw (omega arith));
          over = λ j tw jm e. absurd (omega arith);
        };
      })

  moved_without : Without h (filled h 1 (h.slot count)) count (count - 1) (h.slot 1)
  moved_without =
      let q = h.slot count in
      let m = count - 1 in
      let v = filled h 1 q in
      let l = s.linked in
      let c1 : 1 ≤ count = omega arith in
      let back : ((k : ℕ) → waits v m k ≡ true → (waits h count k ≡ true) × (k ≡ h.slot 1 → ⊥)) = λ k e.
      let a = waits_position v m k e in
      let am = a.most in
      let a1 = a.first in
      ⊎_elim
      (λ x. let f : k ≡ q = sym a.here ∙ changed_at h.slot 1 q a.position x in (
        ap (waits h count) f ∙ slot_waits h count n l count c1 (omega arith),
        λ y. let z : count ≡ 1 = sym (l.slots count c1 (omega arith)).1 ∙ ap h.at (sym f ∙ y) ∙ (l.slots 1 (omega arith) c1).1 in omega arith,
      ))
      (λ x. let f : k ≡ h.slot a.position = sym a.here ∙ changed_off h.slot 1 q a.position x in (
        ap (waits h count) f ∙ slot_waits h count n l a.position a1 (omega arith),
        λ y. x (sym (l.slots a.position a1 (omega arith)).1 ∙ ap h.at (sym f ∙ y) ∙ (l.slots 1 (omega arith) c1).1),
      ))
      (cases_eq a.position 1) in
      record {
        gone = ⊎_elim (λ e. absurd ((back (h.slot 1) e).1 refl)) (λ e. e) (cases_Bool (waits v m (h.slot 1)));
        others = λ k ne. both_ways (waits v m k) (waits h count k)
            (λ e. (back k e).0)
            (λ e. let a = waits_position h count k e in
            let am = a.most in
            position_waits v m n moved_linked k (⊎_elim
            (λ x. record {
              position = 1;
              first = omega arith;
              most = omega arith;
              here = changed_at h.slot 1 q 1 refl ∙ ap h.slot (sym x) ∙ a.here;
            })
            (λ x. let n1 : (a.position ≡ 1 → ⊥) = λ y. ne (sym a.here ∙ ap h.slot y) in
            record { position = a.position; first = a.first; most = omega arith; here = changed_off h.slot 1 q a.position n1 ∙ a.here })
            (cases_eq a.position count)));
        costs = λ k. refl;
      }

  pub removed : (q : ℕ) → h.slot count ≡ q → (k : Layout C) → Sifted t (filled h 1 q) k n (count - 1) → WaitsNoMore t h k n count (count - 1) (h.slot 1)
  removed q e k r = waits_no_more moved_without (subst (λ x. Sifted t (filled h 1 x) k n (count - 1)) (sym e) r)
