-- A ring where no place waits is in order.
use Rattle.std.proofs.Common.{ℕ, ◌≤◌, length, get_or, None, sym, ap, ◌∙◌, subst, arith}
use Rattle.tariff.specs.Rates.{Rates}
use Rattle.rows.specs.Waiting.{layout}
use Rattle.front.specs.Places.{room}
use Rattle.rows.specs.Rows.{Sound}
use Rattle.rows.proofs.Keeping.{no_heads, empty_sound}
use Rattle.ring.specs.declared.Ring.{Ring}
use Rattle.ring.specs.Rings.{InOrder, Emptied}

module _ {C : Type 0} (s : Ring C) (rows : ℕ) (e : Emptied s rows) where
  pub in_order : 1 ≤ rows → rows ≤ 32 → (t : Rates C) → InOrder t s
  in_order some most t =
      let h = layout s.list.now in
      let n = room (length s.list.now) in
      let r = e.rows_are in
      subst (λ z. Sound t h n z s.rows (λ k. get_or s.heads k None) s.last) (sym e.touched)
      (subst (λ z. Sound t h n 0 s.rows (λ k. get_or s.heads k None) z) (sym e.last)
      (empty_sound t h n s.rows (λ k. get_or s.heads k None) (omega arith) (omega arith)
      (λ k. ap (λ z. get_or z k None) e.heads ∙ no_heads 32 k)))
