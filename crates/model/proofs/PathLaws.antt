-- A path that is asked and then laid place by place.
use Rattle.std.proofs.Common.{◌≡◌, ℕ, zero, suc, ◌+◌, ◌-◌, ◌<◌, ◌≤◌, min, Bool, true, false, cond, ◌||◌, eqb, ltb, leb, ◌⊎◌, ◌↔◌, List, [], ◌∷◌, ◌++◌, length, get_or, take, drop, Ok, Err, Result, sym, refl, ap, ◌∙◌, subst, inl, inr, ⊎_elim, not-suc-le-zero, arith}
use Rattle.std.proofs.lemmas.List.{take_more, at_drop_more}
use Rattle.std.proofs.lemmas.Bool.{cases_lt, cases_Bool, lt-ltb, le-leb, eq-eqb, cond-true, cond-false, cond_both, or_left, or_right, or_cases, eqb-true, ltb-true, leb-true, true≢false}
use Rattle.std.proofs.lemmas.Bool.Decides.{nat_tests}
use Rattle.grid.proofs.Numbering.{count_most}
use Rattle.grid.specs.Faults.{Refusal, refusal}
use Rattle.grid.specs.Places.{count_of}
use Rattle.model.specs.Sheets.{Sheet, Sound, Laid, places, spare, ask, is_net, bare_at, put, tally, lay_answer}
use Rattle.model.specs.Paths.{on, Distinct, bare_entries, bare_on, spare_answer, along, cover_answer, Coverable, CoverIsExact, Covered}
use Rattle.model.proofs.Calls.{lay_ok}
use Rattle.model.proofs.Tallies.{tally_lay, tally_most, tally_same}

-- THE PLACES of a path
pub on_push : (q : ℕ) (ps : List ℕ) (p : ℕ) → on q (ps ++ (p ∷ [])) ≡ (eqb q p || on q ps)
on_push q [] p = refl
on_push q (x ∷ ps) p = let e = on_push q ps p in rw e (grind (arith, nat_tests))

pub on_getD : (ps : List ℕ) (k : ℕ) → k < length ps → on (get_or ps k 0) ps ≡ true
on_getD [] k h = absurd (not-suc-le-zero h)
on_getD (p ∷ ps) zero h = or_left (eqb p p) (on p ps) (eq-eqb p p refl)
on_getD (p ∷ ps) (suc k) h = or_right (eqb (get_or ps k 0) p) (on (get_or ps k 0) ps) (on_getD ps k (omega arith))

-- an answer without a refusal
pub err_ok : {A : Type 0} (f : Refusal) → ◌≡◌ {A = Result (Unit {0}) Refusal} (Err f) (Ok tt) → A
err_ok f e = let z : ◌≡◌ {A = ℕ} 0 1 = cc in absurd (omega arith)

-- QUESTIONS that hold
ask_yes : (t : Bool) (f : Refusal) (rest : Result (Unit {0}) Refusal) → t ≡ true → ask t f rest ≡ rest
ask_yes t f rest e = cond-true t rest (Err f) e

-- a question that was passed
pub passed : (t : Bool) (f : Refusal) (rest : Result (Unit {0}) Refusal) → ask t f rest ≡ Ok tt → (t ≡ true) × (rest ≡ Ok tt)
passed true f rest e = (refl, e)
passed false f rest e = err_ok f e

-- what holds of each place of a path with one more place in front
each_more : (P : ℕ → Type 0) (p : ℕ) (ps : List ℕ) → P p → ((q : ℕ) → on q ps ≡ true → P q) → (q : ℕ) → on q (p ∷ ps) ≡ true → P q
each_more P p ps here more q h =
    ⊎_elim (λ (e : eqb q p ≡ true). subst P (sym (eqb-true q p e)) here) (λ (e : on q ps ≡ true). more q e) (or_cases (eqb q p) (on q ps) h)

module _ (b : Sheet) (n : ℕ) where
  -- a place that the questions pass
  abbrev Passes : ℕ → Type 0
  Passes q = (q < places b) × (b.area.opened q n ≡ true)

  along_passes : (ps : List ℕ) (rest : Result (Unit {0}) Refusal) → along b ps n rest ≡ Ok tt → ((q : ℕ) → on q ps ≡ true → Passes q) × (rest ≡ Ok tt)
  along_passes [] rest e = (λ q h. absurd (true≢false (sym h)), e)
  along_passes (p ∷ ps) rest e =
      let first = passed (ltb p (places b)) (refusal 3 p) _ e in
      let second = passed (b.area.opened p n) (refusal 5 p) (along b ps n rest) first.1 in
      let later = along_passes ps rest second.1 in
      (each_more Passes p ps (ltb-true p (places b) first.0, second.0) later.0, later.1)

  along_open : (ps : List ℕ) (rest : Result (Unit {0}) Refusal) → ((q : ℕ) → on q ps ≡ true → Passes q) → along b ps n rest ≡ rest
  along_open [] rest h = refl
  along_open (p ∷ ps) rest h =
      let here = h p (or_left (eqb p p) (on p ps) (eq-eqb p p refl)) in
      let later = along_open ps rest (λ q k. h q (or_right (eqb q p) (on q ps) k)) in
      ask_yes (ltb p (places b)) (refusal 3 p) _ (lt-ltb p (places b) here.0) ∙ (ask_yes (b.area.opened p n) (refusal 5 p) (along b ps n rest) here.1 ∙ later)

  -- a path of places that are open to a net is asked for its spare alone
  pub cover_open : Sound b.area → (ps : List ℕ) → is_net n ≡ true → ((q : ℕ) → on q ps ≡ true → b.area.opened q n ≡ true) → cover_answer b ps n ≡ spare_answer b ps
  cover_open s ps k h =
      ask_yes (is_net n) (refusal 4 n) (along b ps n (spare_answer b ps)) k
      ∙ along_open ps (spare_answer b ps) (λ q o. (s.inside q n (h q o), h q o))

  pub cover_exact : (ps : List ℕ) → CoverIsExact b ps n
  cover_exact ps = (there, back)
    where
      there : cover_answer b ps n ≡ Ok tt → Coverable b ps n
      there e =
          let first = passed (is_net n) (refusal 4 n) (along b ps n (spare_answer b ps)) e in
          let second = along_passes ps (spare_answer b ps) first.1 in
          let third = passed (leb (bare_on b ps) (spare b)) (refusal 6 (bare_on b ps)) (Ok tt) second.1 in
          record {
            net = first.0;
            inside = λ q h. (second.0 q h).0;
            opened = λ q h. (second.0 q h).1;
            enough = leb-true (bare_on b ps) (spare b) third.0;
          }

      back : Coverable b ps n → cover_answer b ps n ≡ Ok tt
      back c =
          ask_yes (is_net n) (refusal 4 n) (along b ps n (spare_answer b ps)) c.net
          ∙ (along_open ps (spare_answer b ps) (λ q h. (c.inside q h, c.opened q h))
          ∙ ask_yes (leb (bare_on b ps) (spare b)) (refusal 6 (bare_on b ps)) (Ok tt) (le-leb (bare_on b ps) (spare b) c.enough))

-- THE BARE PLACES of a path, one place more
bare_push : (b : Sheet) (ps : List ℕ) (p : ℕ) → bare_entries b (ps ++ (p ∷ [])) ≡ bare_entries b ps + bare_at b p
bare_push b [] p = omega arith
bare_push b (x ∷ ps) p = omega (arith, bare_push b ps p)

-- ASKED so far: what is left of the questions, and the bare places counted among the first i
pub record Asked (b : Sheet) (ps : List ℕ) (n i bare : ℕ) : Type 0 where
  pub left : cover_answer b ps n ≡ along b (drop i ps) n (spare_answer b ps)
  pub counted : bare ≡ bare_on b (take i ps)

module _ (b : Sheet) (ps : List ℕ) (n i bare : ℕ) (l : i < length ps) (a : Asked b ps n i bare) where
  next : cover_answer b ps n ≡ along b (get_or ps i 0 ∷ drop (i + 1) ps) n (spare_answer b ps)
  next = a.left ∙ at_drop_more (λ qs. along b qs n (spare_answer b ps)) ps i 0 l

  past_shape : get_or ps i 0 < places b → cover_answer b ps n ≡ ask (b.area.opened (get_or ps i 0) n) (refusal 5 (get_or ps i 0)) (along b (drop (i + 1) ps) n (spare_answer b ps))
  past_shape h = next ∙ ask_yes (ltb (get_or ps i 0) (places b)) (refusal 3 (get_or ps i 0)) _ (lt-ltb (get_or ps i 0) (places b) h)

  pub asked_more : get_or ps i 0 < places b → b.area.opened (get_or ps i 0) n ≡ true → (more : ℕ) → more ≡ min (bare + bare_at b (get_or ps i 0)) 4294967295 → Asked b ps n (i + 1) more
  asked_more h o more e =
      let taken : bare_entries b (take (i + 1) ps) ≡ bare_entries b (take i ps) + bare_at b (get_or ps i 0) = ap (bare_entries b) (take_more ps i 0 l) ∙ bare_push b (take i ps) (get_or ps i 0) in
      record {
        left = past_shape h ∙ ask_yes (b.area.opened (get_or ps i 0) n) (refusal 5 (get_or ps i 0)) (along b (drop (i + 1) ps) n (spare_answer b ps)) o;
        counted = let c = a.counted in omega arith;
      }

bare_most : (b : Sheet) (p : ℕ) → bare_at b p ≤ 1
bare_most b p = cond_both (eqb (b.metal.copper p) 0) 1 0 (λ x. x ≤ 1) (λ e. omega arith) (λ e. omega arith)

-- one place laid after the first i
covered_more : (b m m' : Sheet) (ps : List ℕ) (i n : ℕ) → i < length ps → Covered b m (take i ps) n → Laid m m' (get_or ps i 0) n (Ok tt) → Covered b m' (take (i + 1) ps) n
covered_more b m m' ps i n l c w =
    let p = get_or ps i 0 in
    record {
      shape = w.0.shape ∙ c.shape;
      limit = w.0.limit ∙ c.limit;
      copper = λ q.
          let t : on q (take (i + 1) ps) ≡ (eqb q p || on q (take i ps)) = ap (on q) (take_more ps i 0 l) ∙ on_push q (take i ps) p in
          let h : m'.metal.copper q ≡ put m.metal.copper p n q = w.0.copper q in
          let k : m.metal.copper q ≡ cond (on q (take i ps)) n (b.metal.copper q) = c.copper q in
          rw t (h ∙ rw k (grind (arith, nat_tests)));
      stays = λ q h. w.1 q (c.stays q h);
    }

-- the copper of a place on the path, and of one that is not
pub covered_on : (b b' : Sheet) (ps : List ℕ) (n q : ℕ) → Covered b b' ps n → on q ps ≡ true → b'.metal.copper q ≡ n
covered_on b b' ps n q w h = w.copper q ∙ cond-true (on q ps) n (b.metal.copper q) h

pub covered_off : (b b' : Sheet) (ps : List ℕ) (n q : ℕ) → Covered b b' ps n → on q ps ≡ false → b'.metal.copper q ≡ b.metal.copper q
covered_off b b' ps n q w h = w.copper q ∙ cond-false (on q ps) n (b.metal.copper q) h

-- LAID so far: the first i places, and room for the others
pub record Laying (b m : Sheet) (ps : List ℕ) (n i : ℕ) : Type 0 where
  pub covered : Covered b m (take i ps) n
  pub room : (bare_entries b (drop i ps) ≤ spare m) ⊎ (places m < m.metal.limit)

-- a net is not 0
pub net_some : (n : ℕ) → is_net n ≡ true → n ≡ 0 → ⊥
net_some n k e = grind (arith, nat_tests)

module _ (b : Sheet) (ps : List ℕ) (n : ℕ) (c : Coverable b ps n) where
  pub laying_none : Laying b b ps n 0
  laying_none = record {
    covered = record { shape = refl; limit = refl; copper = λ q. refl; stays = λ q h. h };
    room =
        let enough = c.enough in
        ⊎_elim
        (λ (many : 4294967295 < bare_entries b ps). inr (omega (arith, count_most b.area.shape)))
        (λ (few : bare_entries b ps ≤ 4294967295). inl (omega arith))
        (cases_lt 4294967295 (bare_entries b ps));
  }

  module _ (m : Sheet) (i : ℕ) (l : i < length ps) (a : Laying b m ps n i) where
    here : on (get_or ps i 0) ps ≡ true
    here = on_getD ps i l

    same_places : places m ≡ places b
    same_places = ap count_of a.covered.shape

    within : get_or ps i 0 < places m
    within = omega (arith, same_places, c.inside (get_or ps i 0) here)

    -- a place that is bare still was bare
    bare_still : bare_at m (get_or ps i 0) ≤ bare_at b (get_or ps i 0)
    bare_still =
        let e = a.covered.copper (get_or ps i 0) in
        let k = net_some n c.net in
        ⊎_elim
        (λ (t : on (get_or ps i 0) (take i ps) ≡ true). let v : m.metal.copper (get_or ps i 0) ≡ n = e ∙ cond-true (on (get_or ps i 0) (take i ps)) n _ t in grind (arith, nat_tests))
        (λ (t : on (get_or ps i 0) (take i ps) ≡ false).
        let v : m.metal.copper (get_or ps i 0) ≡ b.metal.copper (get_or ps i 0) = e ∙ cond-false (on (get_or ps i 0) (take i ps)) n _ t in grind (arith, nat_tests))
        (cases_Bool (on (get_or ps i 0) (take i ps)))

    to_come : bare_entries b (drop i ps) ≡ bare_at b (get_or ps i 0) + bare_entries b (drop (i + 1) ps)
    to_come = at_drop_more (bare_entries b) ps i 0 l

    room_here : bare_at m (get_or ps i 0) ≤ spare m
    room_here =
        ⊎_elim
        (λ (r : bare_entries b (drop i ps) ≤ spare m). omega (arith, bare_still, to_come))
        (λ (r : places m < m.metal.limit). omega (arith, bare_most m (get_or ps i 0), tally_most m.metal.copper (places m)))
        a.room

    pub laying_granted : lay_answer m (get_or ps i 0) n ≡ Ok tt
    laying_granted = lay_ok m (get_or ps i 0) n within c.net (a.covered.stays (get_or ps i 0) (c.opened (get_or ps i 0) here)) room_here

    pub laying_more : (m' : Sheet) → Laid m m' (get_or ps i 0) n (Ok tt) → Laying b m' ps n (i + 1)
    laying_more m' w = record {
      covered = covered_more b m m' ps i n l a.covered w;
      room =
          let limit = w.0.limit in
          let as_many : places m' ≡ places m = ap count_of w.0.shape in
          let t : tally m'.metal.copper (places m') ≡ tally m.metal.copper (places m) + bare_at m (get_or ps i 0) =
          ap (tally m'.metal.copper) as_many ∙ tally_lay m.metal.copper m'.metal.copper (places m) (get_or ps i 0) n w.0.copper (net_some n c.net) within in
          ⊎_elim (λ (r : bare_entries b (drop i ps) ≤ spare m). inl (omega (arith, bare_still, to_come))) (λ (r : places m < m.metal.limit). inr (omega arith)) a.room;
    }

-- A PATH OF DISTINCT PLACES: the copper after it was laid
abbrev laid_copper : (ℕ → ℕ) → List ℕ → ℕ → ℕ → ℕ
laid_copper f ps n q = cond (on q ps) n (f q)

module _ (b : Sheet) (n : ℕ) (k : n ≡ 0 → ⊥) where
  -- as many places more are not bare as were bare among them
  laid_tally : (ps : List ℕ) → Distinct ps → ((q : ℕ) → on q ps ≡ true → q < places b) → tally (laid_copper b.metal.copper ps n) (places b) ≡ tally b.metal.copper (places b) + bare_entries b ps
  laid_tally [] d h = omega arith
  laid_tally (p ∷ ps) d h =
      let f : ℕ → ℕ = b.metal.copper in
      let before = laid_tally ps d.1 (λ q o. h q (or_right (eqb q p) (on q ps) o)) in
      let step = tally_lay (laid_copper f ps n) (laid_copper f (p ∷ ps) n) (places b) p n (λ q. grind (arith, nat_tests)) k (h p (or_left (eqb p p) (on p ps) (eq-eqb p p refl))) in
      let same : cond {A = ℕ} (eqb (laid_copper f ps n p) 0) 1 0 ≡ bare_at b p = ap (λ (v : ℕ). cond {A = ℕ} (eqb v 0) 1 0) (cond-false (on p ps) n (f p) d.0) in
      omega arith

-- they are so few that the count is exact
pub bare_exact : (b : Sheet) (ps : List ℕ) → Distinct ps → ((q : ℕ) → on q ps ≡ true → q < places b) → bare_on b ps ≡ bare_entries b ps
bare_exact b ps d h =
    let t = laid_tally b 1 (λ e. omega arith) ps d h in
    omega (arith, tally_most (laid_copper b.metal.copper ps 1) (places b), count_most b.area.shape)

-- and the spare falls by just those
pub covered_spare : (b b' : Sheet) (ps : List ℕ) (n : ℕ) → Coverable b ps n → Covered b b' ps n → Distinct ps → spare b' ≡ spare b - bare_entries b ps
covered_spare b b' ps n c w d =
    let limit = w.limit in
    let as_many : places b' ≡ places b = ap count_of w.shape in
    let t : tally b'.metal.copper (places b') ≡ tally b.metal.copper (places b) + bare_entries b ps =
    ap (tally b'.metal.copper) as_many
    ∙ (tally_same b'.metal.copper (laid_copper b.metal.copper ps n) (places b) (λ q h. w.copper q) ∙ laid_tally b n (net_some n c.net) ps d c.inside) in
    omega arith

-- A WIRE, a path of distinct places that are open to a net: it is laid exactly if its bare places are within the spare
pub wire_exact : (b : Sheet) (ps : List ℕ) (n : ℕ) → Sound b.area → is_net n ≡ true → ((q : ℕ) → on q ps ≡ true → b.area.opened q n ≡ true) → Distinct ps → (cover_answer b ps n ≡ Ok tt) ↔ (bare_entries b ps ≤ spare b)
wire_exact b ps n s k o d =
    let inside = λ (q : ℕ) (h : on q ps ≡ true). s.inside q n (o q h) in
    let e = bare_exact b ps d inside in
    (λ r. omega (arith, ((cover_exact b n ps).0 r).enough), λ h. (cover_exact b n ps).1 (record { net = k; inside = inside; opened = o; enough = omega arith }))
