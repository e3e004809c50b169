-- The search is right: what may be taken is least, and the invariant is kept. Assumes nothing.
use Rattle.std.proofs.Common.{◌≡◌, ℕ, suc, ◌<◌, ◌≤◌, true, ◌⊎◌, List, [], ◌∷◌, length, Some, None, sym, refl, ap, ◌∙◌, subst, subst₂, inl, inr, arith}
use Rattle.std.proofs.lemmas.Bool.{both_ways, cases_eq}
use Rattle.grid.specs.declared.step.Step.{Step}
use Rattle.tariff.specs.Rates.{Rates, followed}
use Rattle.route.proofs.Lawful.{Lawful}
use Rattle.route.specs.Hops.{Hop}
use Rattle.route.specs.Search.{Maze, Legal, Route, Least, cost, end}
use Rattle.route.specs.Queue.{State, Within, Offers, Took}
use Rattle.route.proofs.States.{Next, Symmetric, Reached, Sound, MayTake, TakenIsLeast, SoundIsKept, AllAreLabelled, FreshIsSound, SoundIsKnown}
use Rattle.route.proofs.Order.{none_some, some_is, cases_option, then_some, Leq, leq_refl, leq_trans, lt_leq, grown, within_trans, goes_on, costed}

-- some place waits at a cost of at most d, and is p, or goes on by a step at a cost of at most d
pub data Ahead {C : Type 0} (t : Rates C) (s : State C) (p : ℕ) (d : C) : Type 0 where
  there : Within t (s.waiting p) d → Ahead t s p d
  before : (q : ℕ) (e x : C) (k : Step) → s.waiting q ≡ Some e → t.has k ≡ true → t.after e k ≡ Some x → Leq t x d → Ahead t s p d

-- what waits is not refused a step
abbrev pub WaitsOn : {C : Type 0} → Rates C → State C → Type 0
WaitsOn {C} t s = (q : ℕ) (e : C) (k : Step) → s.waiting q ≡ Some e → t.has k ≡ true → (x : C) × (t.after e k ≡ Some x)

pub waits_on : {C : Type 0} {t : Rates C} {m : Maze} {limit : ℕ} {s : State C} → Lawful t limit → Sound t m limit s → s.taken < limit → WaitsOn t s
waits_on {m} {s} L S room q e k h has =
    let r = S.paid q e h in
    let short : length r.path < suc s.taken = r.short in
    goes_on L m r.path e k r.legal r.costs has (omega arith)

module _ {C : Type 0} {t : Rates C} {m : Maze} {limit : ℕ} {s : State C} (L : Lawful t limit) (S : Sound t m limit s) (on : WaitsOn t s) where
  onto : (h : Hop) (w : List Hop) (d0 d : C) → t.has h.by ≡ true → t.after d0 h.by ≡ Some d → Ahead t s (end m w) d0 → Ahead t s h.to d
  onto h w d0 d has e (there v) =
      let (x, ex) = on (end m w) v.value h.by v.is has in
      before (end m w) v.value x h.by v.is has ex (L.keeps v.value d0 x d h.by v.low ex e)
  onto h w d0 d has e (before q b x k wq hk ex le) = before q b x k wq hk ex (leq_trans L x d0 d le (grown L d0 d h.by e))

  pub ahead : (w : List Hop) (d : C) → Legal t.has m w → length w ≤ limit → cost t w ≡ Some d → s.label (end m w) ≡ None → Ahead t s (end m w) d
  ahead [] d l short e new = there (subst (λ x. Within t (s.waiting m.start) x) (some_is e) (S.begins l new))
  ahead (h ∷ w) d l short e new =
      let (d0, e0, e1) = then_some t (cost t w) h.by e in
      go d0 e0 e1 (λ new0. ahead w d0 l.3 (omega arith) e0 new0) (cases_option (s.label (end m w)))
    where
      go : (d0 : C) → cost t w ≡ Some d0 → t.after d0 h.by ≡ Some d → (s.label (end m w) ≡ None → Ahead t s (end m w) d0) →
          (s.label (end m w) ≡ None) ⊎ ((c : C) × (s.label (end m w) ≡ Some c)) → Ahead t s h.to d
      go d0 e0 e1 ih (inl new0) = onto h w d0 d l.1 e1 (ih new0)
      go d0 e0 e1 ih (inr p) =
          let c = p.0 in
          let r = S.few (end m w) c p.1 in
          let rshort : length r.path < s.taken = r.short in
          let fits : s.taken ≤ limit = S.fits in
          let (x, ex) = goes_on L m r.path c h.by r.legal r.costs l.1 (omega arith) in
          let low : Leq t c d0 = (S.least (end m w) c p.1).below w d0 (record { legal = l.3; ends = refl; short = omega arith }) e0 in
          there (within_trans L (S.borders (end m w) h.to h.by c x p.1 new l.2 l.1 l.0 ex) (L.keeps c d0 x d h.by low ex e1))

  pub ahead_of : (p : ℕ) (w : List Hop) (d : C) → Route t.has m limit p w → cost t w ≡ Some d → s.label p ≡ None → Ahead t s p d
  ahead_of p w d r e new =
      subst (λ q. Ahead t s q d) r.ends (ahead w d r.legal r.short e (ap s.label r.ends ∙ new))

module _ {C : Type 0} {t : Rates C} {m : Maze} {limit : ℕ} {s : State C} {p : ℕ} {c : C} (L : Lawful t limit) (S : Sound t m limit s) (M : MayTake t limit s p c) where
  low : (d : C) → Ahead t s p d → Leq t c d
  low d (there v) = subst (λ x. Leq t x d) (some_is (sym v.is ∙ M.waits)) v.low
  low d (before q e x k wq has ex le) = L.one_way c d (lt_leq L c x d (M.early q e x k wq has ex) le)

  pub least_taken : Least t m limit p c
  least_taken =
      let r = S.paid p c M.waits in
      let short : length r.path < suc s.taken = r.short in
      let room : s.taken < limit = M.room in
      record {
        path = r.path;
        route = record { legal = r.legal; ends = r.ends; short = omega arith };
        costs = r.costs;
        below = λ w d u e. low d (ahead_of L S (waits_on L S M.room) p w d u e (S.unlabelled p c M.waits));
      }

  pub behind : (q : ℕ) (b : C) (k : Step) → Least t m limit q b → t.has k ≡ true → t.after b k ≡ Some c → s.label q ≡ Some b
  behind q b k l has made = go (cases_option (s.label q))
    where
      no_way : Ahead t s q b → s.label q ≡ Some b
      no_way (there v) =
          let (x, ex) = waits_on L S M.room q v.value k v.is has in
          absurd (both_ways _ (L.keeps v.value b x c k v.low ex made) (M.early q v.value x k v.is has ex))
      no_way (before z e x j wz hj ex le) =
          absurd (both_ways _ (L.one_way b c (L.grows b c k made)) (lt_leq L c x b (M.early z e x j wz hj ex) le))

      go : (s.label q ≡ None) ⊎ ((a : C) × (s.label q ≡ Some a)) → s.label q ≡ Some b
      go (inl new) = no_way (ahead_of L S (waits_on L S M.room) q l.path b l.route l.costs new)
      go (inr y) =
          let k = S.least q y.0 y.1 in
          y.1 ∙ ap Some (L.same y.0 b (l.below k.path y.0 k.route k.costs) (k.below l.path b l.route l.costs))

  longer : {n k q : ℕ} {e : C} → n ≤ k → Reached t m n q e → Reached t m k q e
  longer {n} {k} le r = let short : length r.path < n = r.short in
      record { path = r.path; legal = r.legal; ends = r.ends; short = omega arith; costs = r.costs }

  module _ {s' : State C} (sym-m : Symmetric m) (K : Took t m s p c (m.around p) s') where
    more : s'.taken ≡ suc s.taken
    more = K.count

    extend : (q : ℕ) (e : C) → Offers t m s c (m.around p) q e → Reached t m (suc s'.taken) q e
    extend q e o =
        let r = S.paid p c M.waits in
        let short : length r.path < suc s.taken = r.short in
        record {
          path = (record { by = o.by; to = q }) ∷ r.path;
          legal = (o.free, o.has, subst (λ z. Next m q o.by z) (sym r.ends) (sym-m p q o.by o.among), r.legal);
          ends = refl;
          short = omega (arith, more);
          costs = ap (λ z. followed t z o.by) r.costs ∙ o.made;
        }

    pub kept : Sound t m limit s'
    kept = record {
      fits = (let room : s.taken < limit = M.room in omega (arith, more));
      least = λ q e h. on_label (λ z d. Least t m limit z d) least_taken (λ z d. S.least z d) q e h (cases_eq q p);
      few = λ q e h. on_label (λ z d. Reached t m s'.taken z d) (longer (omega (arith, more)) (S.paid p c M.waits)) (λ z d g. longer (omega (arith, more)) (S.few z d g)) q e h (cases_eq q p);
      closed = λ a q k b e la lq has made. close a q k b e la lq has made (cases_eq a p);
      paid = λ q e h. on_wait (λ z d. Reached t m (suc s'.taken) z d) (λ z d g. longer (omega (arith, more)) (S.paid z d g)) extend q e h (cases_eq q p);
      unlabelled = λ q e h. new q e h (cases_eq q p);
      begins = λ f h. first f h (cases_eq m.start p);
      borders = λ a q k b d la lq nx has free e. border a q k b d la lq nx has free e (cases_eq q p) (cases_eq a p);
    }
      where
        on_label : (P : ℕ → C → Type 0) → P p c → ((q : ℕ) (e : C) → s.label q ≡ Some e → P q e) →
            (q : ℕ) (e : C) → s'.label q ≡ Some e → (q ≡ p) ⊎ (q ≡ p → ⊥) → P q e
        on_label P here old q e h (inl i) = subst₂ P (sym i) (some_is (sym K.named ∙ sym (ap s'.label i) ∙ h)) here
        on_label P here old q e h (inr n) = old q e (sym (K.others q n) ∙ h)

        on_wait : (P : ℕ → C → Type 0) → ((q : ℕ) (e : C) → s.waiting q ≡ Some e → P q e) → ((q : ℕ) (e : C) → Offers t m s c (m.around p) q e → P q e) →
            (q : ℕ) (e : C) → s'.waiting q ≡ Some e → (q ≡ p) ⊎ (q ≡ p → ⊥) → P q e
        on_wait P old offer q e h (inl i) = none_some (sym K.gone ∙ sym (ap s'.waiting i) ∙ h)
        on_wait P old offer q e h (inr n) = elim (K.from q e n h) [ inl g ↦ old q e g | inr o ↦ offer q e o ]

        still : (q : ℕ) (b : C) → s.label q ≡ Some b → s'.label q ≡ Some b
        still q b e = K.others q (λ i. none_some (sym (S.unlabelled p c M.waits) ∙ sym (ap s.label i) ∙ e)) ∙ e

        close : (a q : ℕ) (k : Step) (b e : C) → s'.label a ≡ Some e → Least t m limit q b → t.has k ≡ true → t.after b k ≡ Some e → (a ≡ p) ⊎ (a ≡ p → ⊥) → s'.label q ≡ Some b
        close a q k b e la lq has made (inl i) =
            let ec : e ≡ c = some_is (sym la ∙ ap s'.label i ∙ K.named) in
            still q b (behind q b k lq has (made ∙ ap Some ec))
        close a q k b e la lq has made (inr n) = still q b (S.closed a q k b e (sym (K.others a n) ∙ la) lq has made)

        new : (q : ℕ) (e : C) → s'.waiting q ≡ Some e → (q ≡ p) ⊎ (q ≡ p → ⊥) → s'.label q ≡ None
        new q e h (inl i) = none_some (sym K.gone ∙ sym (ap s'.waiting i) ∙ h)
        new q e h (inr n) = K.others q n ∙ elim (K.from q e n h) [ inl g ↦ S.unlabelled q e g | inr o ↦ o.fresh ]

        none_at_p : {A : Type 0} (q : ℕ) → s'.label q ≡ None → q ≡ p → A
        none_at_p q h i = none_some (sym h ∙ ap s'.label i ∙ K.named)

        stay : (q : ℕ) (d : C) → (q ≡ p → ⊥) → Within t (s.waiting q) d → Within t (s'.waiting q) d
        stay q d n v = within_trans L (K.stays q v.value n v.is) v.low

        first : m.free m.start ≡ true → s'.label m.start ≡ None → (m.start ≡ p) ⊎ (m.start ≡ p → ⊥) → Within t (s'.waiting m.start) t.nothing
        first f h (inl i) = none_at_p m.start h i
        first f h (inr n) = stay m.start t.nothing n (S.begins f (sym (K.others m.start n) ∙ h))

        border : (a q : ℕ) (k : Step) (b d : C) → s'.label a ≡ Some b → s'.label q ≡ None → Next m q k a → t.has k ≡ true →
            m.free q ≡ true → t.after b k ≡ Some d → (q ≡ p) ⊎ (q ≡ p → ⊥) → (a ≡ p) ⊎ (a ≡ p → ⊥) → Within t (s'.waiting q) d
        border a q k b d la lq nx has free e (inl i) j = none_at_p q lq i
        border a q k b d la lq nx has free e (inr n) (inl j) =
            let bc : b ≡ c = some_is (sym la ∙ ap s'.label j ∙ K.named) in
            K.offered q d n (record {
              by = k;
              among = subst (λ z. Next m z k q) j (sym-m q a k nx);
              has = has;
              free = free;
              fresh = sym (K.others q n) ∙ lq;
              made = subst (λ z. t.after z k ≡ Some d) bc e;
            })
        border a q k b d la lq nx has free e (inr n) (inr j) =
            stay q d n (S.borders a q k b d (sym (K.others a j) ∙ la) (sym (K.others q n) ∙ lq) nx has free e)

pub taken_is_least : (C : Type 0) → TakenIsLeast C
taken_is_least C t m limit s p c L S M = least_taken L S M

pub sound_is_kept : (C : Type 0) → SoundIsKept C
sound_is_kept C t m limit s s' p c L sy S M K = kept L S M sy K

pub sound_is_known : (C : Type 0) → SoundIsKnown C
sound_is_known C t m limit s S = record { exact = S.least; closed = S.closed }

pub fresh_is_sound : (C : Type 0) → FreshIsSound C
fresh_is_sound C t m limit s L F = record {
  fits = omega (arith, F.zero);
  least = λ p c e. none_some (sym (F.none p) ∙ e);
  few = λ p c e. none_some (sym (F.none p) ∙ e);
  closed = λ p q k b c e. none_some (sym (F.none p) ∙ e);
  paid = λ p c e. let (free, here, cost) = F.only p c e in
      record { path = []; legal = free; ends = sym here; short = omega arith; costs = ap Some (sym cost) };
  unlabelled = λ p c e. F.none p;
  begins = λ free e. record { value = t.nothing; is = F.start free; low = leq_refl L t.nothing };
  borders = λ p q k c d e. none_some (sym (F.none p) ∙ e);
}

pub all_are_labelled : (C : Type 0) → AllAreLabelled C
all_are_labelled C t m limit s L S none p w r = go (cases_option (s.label p))
  where
    none_ahead : {A : Type 0} {d : C} → Ahead t s p d → A
    none_ahead (there v) = none_some (sym (none p) ∙ v.is)
    none_ahead (before q e x k wq has ex le) = none_some (sym (none q) ∙ wq)

    go : (s.label p ≡ None) ⊎ ((c : C) × (s.label p ≡ Some c)) → (c : C) × (s.label p ≡ Some c)
    go (inl new) =
        let (d, e) = costed L m w r.legal r.short in
        none_ahead (ahead_of L S (λ q e k h has. none_some (sym (none q) ∙ h)) p w d r e new)
    go (inr y) = y
