-- What a write to the list does to the records, and an edit to their fields.
use Rattle.std.proofs.Common.{◌≡◌, ℕ, ◌+◌, ◌<◌, List, length, get_or, set, sym, ap, ◌∙◌, ⊎_elim, arith, get_or-set_other, get_or-set_same}
use Rattle.std.proofs.lemmas.Bool.{cases_eq}
use Rattle.std.proofs.lemmas.List.{get_or_default}
use Rattle.rows.specs.declared.RingRecord.{RingRecord}
use Rattle.rows.specs.Waiting.{layout, blank, vouched, awaits}
use Rattle.front.specs.Places.{changed}
use Rattle.rows.specs.Links.{edit, new_next, new_back}
use Rattle.rows.specs.Rows.{Vouches}
use Rattle.front.proofs.Changes.{equal, changed_at, changed_off}

-- a list of any elements after a write
pub wrote : {X : Type 0} (xs : List X) (i : ℕ) (v d : X) (k : ℕ) → i < length xs → get_or (set xs i v) k d ≡ changed (λ j. get_or xs j d) i v k
wrote xs i v d k l = ⊎_elim
    (λ e. ap (λ j. get_or (set xs i v) j d) e ∙ get_or-set_same xs i v d l ∙ sym (changed_at (λ j. get_or xs j d) i v k e))
    (λ ne. get_or-set_other xs i k v d ne ∙ sym (changed_off (λ j. get_or xs j d) i v k ne))
    (cases_eq k i)

module _ {C : Type 0} where
  pub written : (xs : List (RingRecord C)) (p : ℕ) (g : RingRecord C → RingRecord C) (d : RingRecord C) → p + 1 < length xs →
      layout (set xs (p + 1) (g (get_or xs (p + 1) d))) ≡ edit (layout xs) p g
  written xs p g d l = equal (λ k.
      wrote xs (p + 1) (g (get_or xs (p + 1) d)) blank (k + 1) l
      ∙ ⊎_elim
      (λ e. changed_at (λ j. get_or xs j blank) (p + 1) (g (get_or xs (p + 1) d)) (k + 1) (ap (λ z. z + 1) e)
      ∙ ap g (get_or_default xs (p + 1) d blank l)
      ∙ sym (changed_at (layout xs) p (g (layout xs p)) k e))
      (λ ne. changed_off (λ j. get_or xs j blank) (p + 1) (g (get_or xs (p + 1) d)) (k + 1) (λ e. ne (omega arith))
      ∙ sym (changed_off (layout xs) p (g (layout xs p)) k ne))
      (cases_eq k p))

  -- two links, written at equal places
  pub relinked : (h h' h'' : ℕ → RingRecord C) (p p' v v' q q' w w' : ℕ) → h' ≡ edit h p (new_next v) → h'' ≡ edit h' q (new_back w) →
      p ≡ p' → v ≡ v' → q ≡ q' → w ≡ w' → h'' ≡ edit (edit h p' (new_next v')) q' (new_back w')
  relinked h h' h'' p p' v v' q q' w w' e f ep ev eq ew =
      f
      ∙ ap (λ (z : ℕ → RingRecord C). edit z q (new_back w)) e
      ∙ ap (λ z. edit (edit h z (new_next v)) q (new_back w)) ep
      ∙ ap (λ z. edit (edit h p' (new_next z)) q (new_back w)) ev
      ∙ ap (λ z. edit (edit h p' (new_next v')) z (new_back w)) eq
      ∙ ap (λ z. edit (edit h p' (new_next v')) q' (new_back z)) ew

  -- a field of an edited record
  pub field : {X : Type 0} (o : RingRecord C → X) (h : ℕ → RingRecord C) (p : ℕ) (g : RingRecord C → RingRecord C) (k : ℕ) →
      o (edit h p g k) ≡ changed (λ j. o (h j)) p (o (g (h p))) k
  field o h p g k = ⊎_elim
      (λ e. ap o (changed_at h p (g (h p)) k e) ∙ sym (changed_at (λ j. o (h j)) p (o (g (h p))) k e))
      (λ ne. ap o (changed_off h p (g (h p)) k ne) ∙ sym (changed_off (λ j. o (h j)) p (o (g (h p))) k ne))
      (cases_eq k p)

  -- one that the edit leaves
  pub kept : {X : Type 0} (o : RingRecord C → X) (h : ℕ → RingRecord C) (p : ℕ) (g : RingRecord C → RingRecord C) (k : ℕ) →
      o (g (h p)) ≡ o (h p) → o (edit h p g k) ≡ o (h k)
  kept o h p g k e = ⊎_elim
      (λ z. ap o (changed_at h p (g (h p)) k z) ∙ e ∙ ap (λ j. o (h j)) (sym z))
      (λ ne. ap o (changed_off h p (g (h p)) k ne))
      (cases_eq k p)

  -- the same positions, places and costs
  pub record Same (h h' : ℕ → RingRecord C) : Type 0 where
    pub at : (k : ℕ) → (h' k).at ≡ (h k).at
    pub slot : (k : ℕ) → (h' k).slot ≡ (h k).slot
    pub cost : (k : ℕ) → (h' k).cost ≡ (h k).cost

  pub same_vouched : (h h' : ℕ → RingRecord C) → ((k : ℕ) → (h' k).at ≡ (h k).at) → ((k : ℕ) → (h' k).slot ≡ (h k).slot) → (touched k : ℕ) →
      vouched h' touched k ≡ vouched h touched k
  same_vouched h h' a s touched k = let e = a k in let f = s (h' k).at in let g = ap (λ z. (h z).slot) e in cc

  pub same_awaits : (h h' : ℕ → RingRecord C) → Same h h' → (touched k : ℕ) → awaits h' touched k ≡ awaits h touched k
  same_awaits h h' e touched k = let v = same_vouched h h' e.at e.slot touched k in let c = e.cost k in cc

  pub same_vouches : (h h' : ℕ → RingRecord C) (n touched : ℕ) → ((k : ℕ) → (h' k).at ≡ (h k).at) → ((k : ℕ) → (h' k).slot ≡ (h k).slot) →
      Vouches h n touched → Vouches h' n touched
  same_vouches h h' n touched a s v = record {
    few = v.few;
    slots = λ i l.
        let o = v.slots i l in
        let e = s i in
        (let b = o.0 in omega arith, a (h' i).slot ∙ ap (λ z. (h z).at) e ∙ o.1);
  }
