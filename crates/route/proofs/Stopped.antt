-- A search that stops when a place is taken: its labels are costs that are known.
use Rattle.std.proofs.Common.{◌≡◌, ℕ, true, ◌⊎◌, Some, sym, ap, ◌∙◌, subst₂, inl, inr}
use Rattle.std.proofs.lemmas.Bool.{cases_eq}
use Rattle.grid.specs.declared.step.Step.{Step}
use Rattle.tariff.specs.Rates.{Rates}
use Rattle.route.proofs.Lawful.{Lawful}
use Rattle.route.specs.Search.{Maze, Least}
use Rattle.route.specs.Queue.{State}
use Rattle.route.proofs.States.{Sound, MayTake, Labelled}
use Rattle.route.specs.Wire.{Known}
use Rattle.route.proofs.Order.{none_some, some_is}
use Rattle.route.proofs.Queue.{least_taken, behind}

module _ {C : Type 0} {t : Rates C} {m : Maze} {limit : ℕ} {s s' : State C} {p : ℕ} {c : C}
    (L : Lawful t limit) (S : Sound t m limit s) (M : MayTake t limit s p c) (K : Labelled s p c s') where
  still : (q : ℕ) (b : C) → s.label q ≡ Some b → s'.label q ≡ Some b
  still q b e = K.others q (λ i. none_some (sym (S.unlabelled p c M.waits) ∙ sym (ap s.label i) ∙ e)) ∙ e

  exact : (q : ℕ) (e : C) → s'.label q ≡ Some e → (q ≡ p) ⊎ (q ≡ p → ⊥) → Least t m limit q e
  exact q e h (inl i) = subst₂ (λ z d. Least t m limit z d) (sym i) (some_is (sym K.named ∙ sym (ap s'.label i) ∙ h)) (least_taken L S M)
  exact q e h (inr n) = S.least q e (sym (K.others q n) ∙ h)

  close : (a q : ℕ) (k : Step) (b e : C) → s'.label a ≡ Some e → Least t m limit q b → t.has k ≡ true → t.after b k ≡ Some e → (a ≡ p) ⊎ (a ≡ p → ⊥) → s'.label q ≡ Some b
  close a q k b e la lq has made (inl i) =
      let ec : e ≡ c = some_is (sym la ∙ ap s'.label i ∙ K.named) in
      still q b (behind L S M q b k lq has (made ∙ ap Some ec))
  close a q k b e la lq has made (inr n) = still q b (S.closed a q k b e (sym (K.others a n) ∙ la) lq has made)

  pub known_taken : Known t m limit s'.label
  known_taken = record {
    exact = λ q e h. exact q e h (cases_eq q p);
    closed = λ a q k b e la lq has made. close a q k b e la lq has made (cases_eq a p);
  }
