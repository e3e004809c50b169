-- What a ring gives, and its order after that.
use Rattle.std.proofs.Common.{◌≡◌, ℕ, ◌%◌, ◌≤◌, get_or, Some, None, sym, ap, ◌∙◌, subst, ⊎_elim}
use Rattle.std.proofs.lemmas.Bool.{cases_eq}
use Rattle.tariff.specs.Rates.{Rates}
use Rattle.rows.specs.Rows.{base, Fits, First, Ordered}
use Rattle.front.proofs.Changes.{none_some}
use Rattle.rows.proofs.Keeping.{first_least, moved_on}
use Rattle.ring.specs.declared.Ring.{Ring}
use Rattle.front.specs.Places.{Waits}
use Rattle.front.proofs.Offers.{here, others}
use Rattle.ring.specs.Rings.{view_of, InOrder}

module _ {C : Type 0} (t : Rates C) (s s' : Ring C) (S : InOrder t s) (from row head : ℕ) (ef : from ≡ base t s.last % s.rows)
    (F : First (λ k. get_or s.heads k None) s.rows from row head) (c : C) (w : (view_of s).waiting head ≡ Some c)
    (S' : InOrder t s') (e : Waits (view_of s) (view_of s') head None) (er : s'.rows ≡ s.rows) where
  -- what still waits has no lower level
  rest : (p : ℕ) (d : C) → (view_of s').waiting p ≡ Some d → t.level c ≤ t.level d
  rest p d u = ⊎_elim
      (λ z. absurd (none_some ((view_of s').waiting p) d (ap (view_of s').waiting z ∙ here e) u))
      (λ z. first_least t S from ef row head F c w p d (sym (others e p z) ∙ u))
      (cases_eq p head)

  pub taken_order : Ordered t s'.list.now s'.touched s'.rows s'.heads (Some c)
  taken_order =
      let n = S.near head c w in
      moved_on t S' c (subst (Fits t) (sym er) n.fits) (subst (λ l. base t l ≤ t.level c) (sym e.last) n.least) rest
