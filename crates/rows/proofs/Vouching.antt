-- Places and positions that name each other.
use Rattle.std.proofs.Common.{◌≡◌, ℕ, ◌+◌, ◌<◌, ◌≤◌, true, false, eqb, ltb, Some, None, sym, refl, ap, ◌∙◌, subst, ⊎_elim, arith}
use Rattle.std.proofs.lemmas.Bool.{cases_eq, cases_Bool, cases_lt, both_ways, cond-true, cond-false, eq-eqb, ne_eqb, eqb-true, ltb-true, lt-ltb, le-ltb, and_parts, and_from, and_left, and_right}
use Rattle.rows.specs.declared.RingRecord.{RingRecord}
use Rattle.rows.specs.Waiting.{vouched, awaits}
use Rattle.front.specs.Places.{changed}
use Rattle.rows.specs.Links.{edit, seated, new_cost, new_slot, new_at}
use Rattle.rows.specs.Rows.{Vouches, Entered}
use Rattle.front.proofs.Changes.{changed_at, changed_off}
use Rattle.front.proofs.Numbers.{leaves_room}
use Rattle.rows.proofs.Edits.{field, kept, same_vouched, same_vouches}

module _ {C : Type 0} (h : ℕ → RingRecord C) (touched : ℕ) where
  pub vouched_is : (p : ℕ) → vouched h touched p ≡ true → ((h p).at < touched) × ((h (h p).at).slot ≡ p)
  vouched_is p e =
      let a = and_parts (ltb (h p).at touched) (eqb (h (h p).at).slot p) e in
      (ltb-true (h p).at touched a.0, eqb-true (h (h p).at).slot p a.1)

  pub vouched_from : (p : ℕ) → (h p).at < touched → (h (h p).at).slot ≡ p → vouched h touched p ≡ true
  vouched_from p l e = and_from (ltb (h p).at touched) (eqb (h (h p).at).slot p) (lt-ltb (h p).at touched l) (eq-eqb (h (h p).at).slot p e)

  pub vouched_far : (p : ℕ) → touched ≤ (h p).at → vouched h touched p ≡ false
  vouched_far p l = and_left (ltb (h p).at touched) (eqb (h (h p).at).slot p) (le-ltb (h p).at touched l)

  -- a place that waits is in use
  pub awaits_vouched : (p : ℕ) (c : C) → awaits h touched p ≡ Some c → vouched h touched p ≡ true
  awaits_vouched p c e = ⊎_elim
      (λ v. v)
      (λ v. let a = cond-false (vouched h touched p) (h p).cost None v in let z : ◌≡◌ {A = ℕ} 0 1 = cc in absurd (omega arith))
      (cases_Bool (vouched h touched p))

  module _ (n : ℕ) (V : Vouches h n touched) where
    pub vouched_inside : (p : ℕ) → vouched h touched p ≡ true → p < n
    vouched_inside p e = let a = vouched_is p e in subst (λ z. z < n) a.1 (V.slots (h p).at a.0).0

    -- no position in use names a place that is not
    pub absent : (p i : ℕ) → vouched h touched p ≡ false → i < touched → (h i).slot ≡ p → ⊥
    absent p i v l e =
        let a = (V.slots i l).1 in
        let b : (h p).at ≡ i = ap (λ z. (h z).at) (sym e) ∙ a in
        both_ways (vouched h touched p) v (vouched_from p (omega arith) (ap (λ z. (h z).slot) b ∙ e))

    pub has_room : (p : ℕ) → vouched h touched p ≡ false → p < n → touched < n
    has_room p v l = leaves_room n touched p (λ i. (h i).slot)
        (λ i li. (V.slots i li).0)
        (λ i j li lj e. sym (V.slots i li).1 ∙ ap (λ z. (h z).at) e ∙ (V.slots j lj).1)
        (λ i li e. absent p i v li e)
        l

    -- a place in use is given a cost
    pub entered_known : (p : ℕ) (c : C) → vouched h touched p ≡ true → Entered h n touched p c (edit h p (new_cost (Some c))) touched
    entered_known p c v =
        let h' = edit h p (new_cost (Some c)) in
        let a : ((k : ℕ) → (h' k).at ≡ (h k).at) = λ k. kept (λ r. r.at) h p (new_cost (Some c)) k refl in
        let s : ((k : ℕ) → (h' k).slot ≡ (h k).slot) = λ k. kept (λ r. r.slot) h p (new_cost (Some c)) k refl in
        record {
          vouches = same_vouches h h' n touched a s V;
          waiting = λ k.
              let e = same_vouched h h' a s touched k in
              let f = field (λ r. r.cost) h p (new_cost (Some c)) k in
              ⊎_elim
              (λ kp.
              let g = changed_at (λ j. (h j).cost) p (Some c) k kp in
              let t : vouched h' touched k ≡ true = e ∙ ap (vouched h touched) kp ∙ v in
              cond-true (vouched h' touched k) (h' k).cost None t ∙ f ∙ g ∙ sym (changed_at (awaits h touched) p (Some c) k kp))
              (λ ne.
              let g = changed_off (λ j. (h j).cost) p (Some c) k ne in
              let b = changed_off (awaits h touched) p (Some c) k ne in
              let d : (h' k).cost ≡ (h k).cost = f ∙ g in
              let w : awaits h' touched k ≡ awaits h touched k = cc in
              w ∙ sym b)
              (cases_eq k p);
          next = λ k. kept (λ r. r.next) h p (new_cost (Some c)) k refl;
          back = λ k. kept (λ r. r.back) h p (new_cost (Some c)) k refl;
        }

    -- a place is given a cost, and the next position
    module _ (p : ℕ) (c : C) (v : vouched h touched p ≡ false) (pn : p < n) where
      abbrev costed : ℕ → RingRecord C
      costed = edit h p (new_cost (Some c))

      abbrev slotted : ℕ → RingRecord C
      slotted = edit costed touched (new_slot p)

      abbrev fresh : ℕ → RingRecord C
      fresh = seated costed touched p

      at_is : (k : ℕ) → (fresh k).at ≡ changed (λ j. (h j).at) p touched k
      at_is k =
          field (λ r. r.at) slotted p (new_at touched) k
          ∙ ap (λ (g : ℕ → ℕ). changed g p touched k)
          (λ i j. (kept (λ r. r.at) costed touched (new_slot p) j refl ∙ kept (λ r. r.at) h p (new_cost (Some c)) j refl) i)

      slot_is : (k : ℕ) → (fresh k).slot ≡ changed (λ j. (h j).slot) touched p k
      slot_is k =
          kept (λ r. r.slot) slotted p (new_at touched) k refl
          ∙ field (λ r. r.slot) costed touched (new_slot p) k
          ∙ ap (λ (g : ℕ → ℕ). changed g touched p k) (λ i j. kept (λ r. r.slot) h p (new_cost (Some c)) j refl i)

      cost_is : (k : ℕ) → (fresh k).cost ≡ changed (λ j. (h j).cost) p (Some c) k
      cost_is k =
          kept (λ r. r.cost) slotted p (new_at touched) k refl
          ∙ kept (λ r. r.cost) costed touched (new_slot p) k refl
          ∙ field (λ r. r.cost) h p (new_cost (Some c)) k

      fresh_same : (k : ℕ) → (k ≡ p → ⊥) → vouched fresh (touched + 1) k ≡ vouched h touched k
      fresh_same k ne =
          let a : (fresh k).at ≡ (h k).at = at_is k ∙ changed_off (λ j. (h j).at) p touched k ne in
          let s : (fresh (fresh k).at).slot ≡ changed (λ j. (h j).slot) touched p (h k).at = slot_is (fresh k).at ∙ ap (changed (λ j. (h j).slot) touched p) a in
          ⊎_elim
          (λ e.
          let f : (fresh (fresh k).at).slot ≡ p = s ∙ changed_at (λ j. (h j).slot) touched p (h k).at e in
          vouched_not_fresh k (λ z. ne (sym z ∙ f)) ∙ sym (vouched_far k (omega arith)))
          (λ e.
          let f : (fresh (fresh k).at).slot ≡ (h (h k).at).slot = s ∙ changed_off (λ j. (h j).slot) touched p (h k).at e in
          let b : ltb (fresh k).at (touched + 1) ≡ ltb (h k).at touched = ap (λ z. ltb z (touched + 1)) a ∙ ⊎_elim
          (λ l. lt-ltb (h k).at (touched + 1) (omega arith) ∙ sym (lt-ltb (h k).at touched l))
          (λ l. le-ltb (h k).at (touched + 1) (omega arith) ∙ sym (le-ltb (h k).at touched l))
          (cases_lt (h k).at touched) in
          cc)
          (cases_eq (h k).at touched)
        where
          vouched_not_fresh : (k : ℕ) → ((fresh (fresh k).at).slot ≡ k → ⊥) → vouched fresh (touched + 1) k ≡ false
          vouched_not_fresh k ne = and_right (ltb (fresh k).at (touched + 1)) (eqb (fresh (fresh k).at).slot k) (ne_eqb (fresh (fresh k).at).slot k ne)

      fresh_vouched : vouched fresh (touched + 1) p ≡ true
      fresh_vouched =
          let a : (fresh p).at ≡ touched = at_is p ∙ changed_at (λ j. (h j).at) p touched p refl in
          let s : (fresh (fresh p).at).slot ≡ p = slot_is (fresh p).at ∙ changed_at (λ j. (h j).slot) touched p (fresh p).at a in
          and_from (ltb (fresh p).at (touched + 1)) (eqb (fresh (fresh p).at).slot p) (lt-ltb (fresh p).at (touched + 1) (omega arith)) (eq-eqb (fresh (fresh p).at).slot p s)

      pub entered_new : Entered h n touched p c fresh (touched + 1)
      entered_new = record {
        vouches = record {
          few = let m = has_room p v pn in omega arith;
          slots = λ i l. ⊎_elim
              (λ e.
              let s : (fresh i).slot ≡ p = slot_is i ∙ changed_at (λ j. (h j).slot) touched p i e in
              (subst (λ z. z < n) (sym s) pn, ap (λ z. (fresh z).at) s ∙ at_is p ∙ changed_at (λ j. (h j).at) p touched p refl ∙ sym e))
              (λ e.
              let s : (fresh i).slot ≡ (h i).slot = slot_is i ∙ changed_off (λ j. (h j).slot) touched p i e in
              let o = V.slots i (omega arith) in (
                subst (λ z. z < n) (sym s) o.0,
                ap (λ z. (fresh z).at) s ∙ at_is (h i).slot ∙ changed_off (λ j. (h j).at) p touched (h i).slot (absent p i v (omega arith)) ∙ o.1,
              ))
              (cases_eq i touched);
        };
        waiting = λ k. ⊎_elim
            (λ kp.
            cond-true (vouched fresh (touched + 1) k) (fresh k).cost None (ap (vouched fresh (touched + 1)) kp ∙ fresh_vouched)
            ∙ cost_is k
            ∙ changed_at (λ j. (h j).cost) p (Some c) k kp
            ∙ sym (changed_at (awaits h touched) p (Some c) k kp))
            (λ ne.
            let a = fresh_same k ne in
            let b : (fresh k).cost ≡ (h k).cost = cost_is k ∙ changed_off (λ j. (h j).cost) p (Some c) k ne in
            let w : awaits fresh (touched + 1) k ≡ awaits h touched k = cc in
            w ∙ sym (changed_off (awaits h touched) p (Some c) k ne))
            (cases_eq k p);
        next = λ k.
            kept (λ r. r.next) slotted p (new_at touched) k refl
            ∙ kept (λ r. r.next) costed touched (new_slot p) k refl
            ∙ kept (λ r. r.next) h p (new_cost (Some c)) k refl;
        back = λ k.
            kept (λ r. r.back) slotted p (new_at touched) k refl
            ∙ kept (λ r. r.back) costed touched (new_slot p) k refl
            ∙ kept (λ r. r.back) h p (new_cost (Some c)) k refl;
      }
