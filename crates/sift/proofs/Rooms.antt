-- A place that does not wait finds a position.
use Rattle.std.proofs.Common.{◌≡◌, ℕ, ◌+◌, ◌<◌, ◌≤◌, false, sym, ap, ◌∙◌, arith}
use Rattle.std.proofs.lemmas.Bool.{both_ways}
use Rattle.sift.specs.Layouts.{Layout, waits, Linked}
use Rattle.front.proofs.Numbers.{leaves_room}
use Rattle.sift.proofs.Links.{slot_waits}

module _ {C : Type 0} (h : Layout C) (n count p : ℕ) (l : Linked h n count) (w : waits h count p ≡ false) where
  -- it stands at no position in use
  pub absent : (i : ℕ) → 1 ≤ i → i ≤ count → h.slot i ≡ p → ⊥
  absent i i1 ic e = both_ways (waits h count p) w (ap (waits h count) (sym e) ∙ slot_waits h count n l i i1 ic)

  pub has_room : p < n → count < n
  has_room = leaves_room n count p (λ i. h.slot (i + 1))
      (λ i li. (l.slots (i + 1) (omega arith) (omega arith)).0)
      (λ i j li lj e.
      let s : i + 1 ≡ j + 1 = sym (l.slots (i + 1) (omega arith) (omega arith)).1 ∙ ap h.at e ∙ (l.slots (j + 1) (omega arith) (omega arith)).1 in
      omega arith)
      (λ i li e. absent (i + 1) (omega arith) (omega arith) e)
