-- Changes of the cost at which one place waits.
use Rattle.std.proofs.Common.{◌≡◌, ℕ, true, nat_lt, Some, None, Option, sym, refl, ap, ◌∙◌, ⊎_elim}
use Rattle.std.proofs.lemmas.Bool.{cases_eq, cases_Bool, cond-true, cond-false, ltb-true}
use Rattle.grid.specs.declared.step.Step.{Step}
use Rattle.tariff.specs.Rates.{Rates, Laws, followed}
use Rattle.front.specs.Queue.{Queue, Offered, offer, smaller}
use Rattle.front.specs.Places.{Waits, Offers}
use Rattle.front.proofs.Changes.{changed_at, changed_off}

module _ {C : Type 0} where
  pub here : {q q' : Queue C} {p : ℕ} {c : Option C} → Waits q q' p c → q'.waiting p ≡ c
  here {q} {q'} {p} {c} e = e.waiting p ∙ changed_at q.waiting p c p refl

  pub others : {q q' : Queue C} {p : ℕ} {c : Option C} → Waits q q' p c → (k : ℕ) → (k ≡ p → ⊥) → q'.waiting k ≡ q.waiting k
  others {q} {q'} {p} {c} e k ne = e.waiting k ∙ changed_off q.waiting p c k ne

  -- the second of two changes stands
  pub twice : {q q' q'' : Queue C} {p : ℕ} {b c : Option C} → Waits q q' p b → Waits q' q'' p c → Waits q q'' p c
  twice {q} {q'} {q''} {p} {b} {c} e f = record {
    waiting = λ k. ⊎_elim
        (λ z. ap q''.waiting z ∙ here f ∙ sym (changed_at q.waiting p c k z))
        (λ z. others f k z ∙ others e k z ∙ sym (changed_off q.waiting p c k z))
        (cases_eq k p);
    last = f.last ∙ e.last;
    serves = record { served = f.serves.served ∙ e.serves.served; spans = f.serves.spans ∙ e.serves.spans };
  }

  -- the smaller of a cost and none, or a greater one
  pub smaller_none : (t : Rates C) (o : Option C) (c : C) → o ≡ None → smaller t o c ≡ c
  smaller_none t o c e = ap (λ z. smaller t z c) e

  pub smaller_less : (t : Rates C) (o : Option C) (c d : C) → o ≡ Some d → t.less c d ≡ true → smaller t o c ≡ c
  smaller_less t o c d e l = ap (λ z. smaller t z c) e ∙ cond-true (t.less c d) c d l

  module _ {t : Rates C} where
    -- a step that the tariff lacks is refused, so what the step makes of the cost taken last is the offer
    pub offer_is : Laws t → (l : Option C) (k : Step) → offer t l k ≡ followed t l k
    offer_is laws None k = refl
    offer_is laws (Some c) k = ⊎_elim
        (λ h. cond-true (t.has k) (t.after c k) None h)
        (λ h. cond-false (t.has k) (t.after c k) None h ∙ sym (laws.lacks c k h))
        (cases_Bool (t.has k))

    -- PUT: it is offered that
    pub offered : {q q' : Queue C} {p : ℕ} {k : Step} {o : Option C} {c : C} → nat_lt p q.served ≡ true → o ≡ offer t q.last k → o ≡ Some c → Offers t q q' p c → Offered t p k q q'
    offered {c} i a s e = record { inside = ltb-true _ _ i; cost = c; offered = sym a ∙ s; here = here e; others = others e; last = e.last; serves = e.serves }
