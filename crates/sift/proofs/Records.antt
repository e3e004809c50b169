-- What reads and writes of the list are in the layout.
use Rattle.std.proofs.Common.{◌≡◌, ℕ, ◌+◌, ◌<◌, List, length, get_or, set, Some, Option, sym, refl, ap, ◌∙◌, ⊎_elim, arith, length-set, get_or-set_other, get_or-set_same}
use Rattle.std.proofs.lemmas.Bool.{cases_eq, cases_lt}
use Rattle.std.proofs.lemmas.Option.{slice_get-get_or, slice_get_past}
use Rattle.std.specs.List.{slice_get}
use Rattle.front.proofs.Changes.{changed_at, changed_off}
use Rattle.sift.specs.declared.record.HeapRecord.{HeapRecord}
use Rattle.front.specs.Places.{changed}
use Rattle.sift.specs.Layouts.{Layout, layout, slot_in, at_in, cost_in}

-- one record is written
nth_set_same : {X : Type 0} (xs : List X) (i : ℕ) (r : X) → i < length xs → slice_get (set xs i r) i ≡ Some r
nth_set_same xs i r l = slice_get-get_or (set xs i r) i r (simp length-set l) ∙ ap Some (get_or-set_same xs i r r l)

nth_set_other : {X : Type 0} (xs : List X) (i x : ℕ) (r : X) → (x ≡ i → ⊥) → slice_get (set xs i r) x ≡ slice_get xs x
nth_set_other xs i x r ne = ⊎_elim
    (λ l. slice_get-get_or (set xs i r) x r (simp length-set l) ∙ ap Some (get_or-set_other xs i x r r ne) ∙ sym (slice_get-get_or xs x r l))
    (λ l. slice_get_past (set xs i r) x (simp length-set l) ∙ sym (slice_get_past xs x l))
    (cases_lt x (length xs))

module _ {C : Type 0} where
  pub layout_same : (h k : Layout C) → ((x : ℕ) → h.slot x ≡ k.slot x) → ((x : ℕ) → h.at x ≡ k.at x) → ((x : ℕ) → h.cost x ≡ k.cost x) → h ≡ k
  layout_same h k s a c = λ i. record { slot = λ x. s x i; at = λ x. a x i; cost = λ x. c x i }

  -- a field that the write leaves as it is
  left : {X : Type 0} (f : Option (HeapRecord C) → X) (xs : List (HeapRecord C)) (i : ℕ) (r d : HeapRecord C) (x : ℕ) → i < length xs → f (Some r) ≡ f (Some (get_or xs i d)) →
      f (slice_get (set xs i r) x) ≡ f (slice_get xs x)
  left f xs i r d x l e = ⊎_elim
      (λ s. ap (λ k. f (slice_get (set xs i r) k)) s ∙ ap f (nth_set_same xs i r l) ∙ e ∙ ap f (sym (slice_get-get_or xs i d l)) ∙ ap (λ k. f (slice_get xs k)) (sym s))
      (λ ne. ap f (nth_set_other xs i x r ne))
      (cases_eq x i)

  -- a field that is written; the record for x stands at g x
  wrote : {X : Type 0} (f : Option (HeapRecord C) → X) (g : ℕ → ℕ) (xs : List (HeapRecord C)) (p : ℕ) (r : HeapRecord C) (x : ℕ) → g p < length xs → (g x ≡ g p → x ≡ p) →
      f (slice_get (set xs (g p) r) (g x)) ≡ changed (λ k. f (slice_get xs (g k))) p (f (Some r)) x
  wrote f g xs p r x l one = ⊎_elim
      (λ e. ap (λ k. f (slice_get (set xs (g p) r) (g k))) e ∙ ap f (nth_set_same xs (g p) r l) ∙ sym (changed_at (λ k. f (slice_get xs (g k))) p (f (Some r)) x e))
      (λ ne. ap f (nth_set_other xs (g p) (g x) r (λ e. ne (one e))) ∙ sym (changed_off (λ k. f (slice_get xs (g k))) p (f (Some r)) x ne))
      (cases_eq x p)

  pub write_slot : (xs : List (HeapRecord C)) (i v : ℕ) (d : HeapRecord C) → i < length xs →
      layout (set xs i (record { cost = (get_or xs i d).cost; slot = v; at = (get_or xs i d).at })) ≡ record { slot = changed (layout xs).slot i v; at = (layout xs).at; cost = (layout xs).cost }
  write_slot xs i v d l =
      let r : HeapRecord C = record { cost = (get_or xs i d).cost; slot = v; at = (get_or xs i d).at } in
      layout_same _ _
      (λ x. wrote slot_in (λ k. k) xs i r x l (λ e. e))
      (λ x. ap (λ z. z + 1) (left at_in xs i r d (x + 1) l refl))
      (λ x. left cost_in xs i r d (x + 1) l refl)

  -- the position v is written as the number before it
  pub write_at : (xs : List (HeapRecord C)) (p v w : ℕ) (d : HeapRecord C) → p + 1 < length xs → w + 1 ≡ v →
      layout (set xs (p + 1) (record { cost = (get_or xs (p + 1) d).cost; slot = (get_or xs (p + 1) d).slot; at = w })) ≡ record { slot = (layout xs).slot; at = changed (layout xs).at p v; cost = (layout xs).cost }
  write_at xs p v w d l e =
      let r : HeapRecord C = record { cost = (get_or xs (p + 1) d).cost; slot = (get_or xs (p + 1) d).slot; at = w } in
      layout_same _ _
      (λ x. left slot_in xs (p + 1) r d x l refl)
      (λ x. wrote (λ o. at_in o + 1) (λ k. k + 1) xs p r x l (λ s. omega arith) ∙ ap (λ z. changed (layout xs).at p z x) e)
      (λ x. left cost_in xs (p + 1) r d (x + 1) l refl)
