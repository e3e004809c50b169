-- What a place that waits, or waits no more, changes.
use Rattle.std.proofs.Common.{◌≡◌, ℕ, ◌-◌, List, length, Option, ◌≢◌, sym, refl, ap, ◌∙◌, subst, ⊎_elim}
use Rattle.std.proofs.lemmas.Bool.{cases_eq}
use Rattle.tariff.specs.Rates.{Rates}
use Rattle.front.specs.Places.{room, Waits}
use Rattle.front.proofs.Changes.{changed_at, changed_off}
use Rattle.sift.specs.declared.record.HeapRecord.{HeapRecord}
use Rattle.sift.specs.Layouts.{layout, filled, priced, wait_cost, HoleUp, Sifted}
use Rattle.heap.specs.declared.Heap.{Heap}
use Rattle.heap.specs.Queues.{view_of}

-- a place is given a cost, and then it is to fill a hole
module _ {C : Type 0} {t : Rates C} (xs ys : List (HeapRecord C)) (p : ℕ) (c : C) (priced_is : layout ys ≡ priced (layout xs) p c) (records : length ys ≡ length xs) (m i : ℕ) where
  pub may_rise : HoleUp t (priced (layout xs) p c) (room (length xs)) m i p c → HoleUp t (layout ys) (room (length ys)) m i p c
  may_rise s =
      subst (λ n. HoleUp t (layout ys) (room n) m i p c) (sym records)
      (subst (λ h. HoleUp t h (room (length xs)) m i p c) (sym priced_is) s)

  pub risen : (zs : List (HeapRecord C)) → Sifted t (filled (layout ys) i p) (layout zs) (room (length ys)) m → Sifted t (filled (priced (layout xs) p c) i p) (layout zs) (room (length xs)) m
  risen zs s =
      subst (λ h. Sifted t (filled h i p) (layout zs) (room (length xs)) m) priced_is
      (subst (λ n. Sifted t (filled (layout ys) i p) (layout zs) (room n) m) records s)

-- the queue after that
module _ {C : Type 0} (s s' : Heap C) (p m : ℕ) (count : s'.count ≡ m) (last : s'.last ≡ s.last) (records : length s'.list.now ≡ length s.list.now) where
  pub changed_after : (o : Option C) → wait_cost (layout s'.list.now) m p ≡ o →
      ((k : ℕ) → (k ≢ p) → wait_cost (layout s'.list.now) m k ≡ wait_cost (layout s.list.now) s.count k) → Waits (view_of s) (view_of s') p o
  changed_after o here others =
      let f = wait_cost (layout s.list.now) s.count in
      record {
        waiting = λ k. ap (λ n. wait_cost (layout s'.list.now) n k) count ∙ ⊎_elim
            (λ e. ap (wait_cost (layout s'.list.now) m) e ∙ here ∙ sym (changed_at f p o k e))
            (λ ne. others k ne ∙ sym (changed_off f p o k ne))
            (cases_eq k p);
        last = last;
        serves = record { served = ap (λ n. n - 1) records; spans = refl };
      }
