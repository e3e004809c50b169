-- What holds at each turn of the wave, and what a turn does to it.
use Rattle.std.proofs.Common.{◌≡◌, ℕ, zero, suc, ◌+◌, ◌<◌, ◌≤◌, true, ◌⊎◌, List, [], ◌∷◌, length, get_or, set, nat_eq, Some, None, Option, sym, refl, ◌∙◌, subst, inl, inr, add-one, arith, length-set, get_or-set_other, get_or-set_same}
use Rattle.std.specs.Option.{option_eq}
use Rattle.std.proofs.lemmas.Bool.{eqb-true}
use Rattle.grid.specs.declared.shape.Shape.{Shape}
use Rattle.grid.specs.Places.{count_of}
use Rattle.grid.proofs.Numbering.{count_most}
use Rattle.tariff.specs.Rates.{Rates, Laws}
use Rattle.front.specs.Queue.{Queue, Removed, Empty}
use Rattle.model.specs.Sheets.{Ground, Sound as Solid}
use Rattle.route.specs.Hops.{around}
use Rattle.route.specs.Paths.{maze}
use Rattle.route.specs.Search.{least}
use Rattle.route.proofs.States.{Sound, Fresh, MayTake, Labelled}
use Rattle.route.proofs.Around.{around_back}
use Rattle.route.proofs.Order.{none_some, cases_option}
use Rattle.route.proofs.Best.{is_least, is_none}
use Rattle.route.proofs.Queue.{fresh_is_sound, sound_is_kept, all_are_labelled, sound_is_known}
use Rattle.route.proofs.Offer.{took_none}
use Rattle.route.proofs.Laws.{lawful}
use Rattle.route.proofs.Stopped.{known_taken}
use Rattle.route.proofs.Wire.{end_free}
use Rattle.wave.specs.Offers.{state_of, OffersAll}
use Rattle.wave.specs.Spread.{labelled, unlabelled, Missed, Spread}

-- THE INVARIANT
pub record Going {C : Type 0} (t : Rates C) (g : Ground) (net start : ℕ) (q : Queue C) (xs : List (Option C)) (n : ℕ) : Type 0 where
  pub sound : Sound t (maze g net start) 2097152 (state_of xs q n)
  pub counted : n + unlabelled xs ≡ length xs
  pub sized : length xs ≡ count_of g.shape
  pub served : count_of g.shape ≤ q.served

unlabelled_set : {C : Type 0} (xs : List (Option C)) (p : ℕ) (c : C) → p < length xs → get_or xs p None ≡ None → unlabelled (set xs p (Some c)) + 1 ≡ unlabelled xs
unlabelled_set [] p c l e = omega arith
unlabelled_set (None ∷ xs) zero c l e = refl
unlabelled_set (Some d ∷ xs) zero c l e = let z : ◌≡◌ {A = ℕ} 0 1 = cc in omega arith
unlabelled_set (None ∷ xs) (suc p) c l e = let h = unlabelled_set xs p c (omega arith) e in omega arith
unlabelled_set (Some d ∷ xs) (suc p) c l e = unlabelled_set xs p c (omega arith) e

unlabelled_all : {C : Type 0} (xs : List (Option C)) → ((k : ℕ) → get_or xs k None ≡ None) → unlabelled xs ≡ length xs
unlabelled_all [] h = refl
unlabelled_all (None ∷ xs) h = let i = unlabelled_all xs (λ k. h (suc k)) in omega arith
unlabelled_all (Some d ∷ xs) h = none_some (sym (h 0))

both_counts : {C : Type 0} (xs : List (Option C)) → labelled xs + unlabelled xs ≡ length xs
both_counts [] = refl
both_counts (None ∷ xs) = let i = both_counts xs in omega arith
both_counts (Some d ∷ xs) = let i = both_counts xs in omega arith

module _ {C : Type 0} {t : Rates C} {g : Ground} {net start : ℕ} where
  pub begun : (q : Queue C) (xs : List (Option C)) → Laws t → Fresh t (maze g net start) (state_of xs q 0) → length xs ≡ count_of g.shape → count_of g.shape ≤ q.served →
      Going t g net start q xs 0
  begun q xs laws F sized served = record {
    sound = fresh_is_sound C t (maze g net start) 2097152 (state_of xs q 0) (lawful laws) F;
    counted = (let e = unlabelled_all xs F.none in omega arith);
    sized = sized;
    served = served;
  }

  module _ {q q' : Queue C} {xs : List (Option C)} {n p : ℕ} {c : C} (solid : Solid g) (G : Going t g net start q xs n) (T : Removed t p c q q') where
    open_there : g.opened p net ≡ true
    open_there =
        let r = G.sound.paid p c T.was in
        subst (λ z. g.opened z net ≡ true) r.ends (end_free t (maze g net start) r.path r.legal)

    pub inside : p < count_of g.shape
    inside = solid.inside p net open_there

    pub within : p < length xs
    within = omega (arith, inside, G.sized)

    new : get_or xs p None ≡ None
    new = G.sound.unlabelled p c T.was

    pub fell : unlabelled (set xs p (Some c)) + 1 ≡ unlabelled xs
    fell = unlabelled_set xs p c within new

    pub few : n < 2097152
    few = omega (arith, fell, G.counted, G.sized, count_most g.shape)

    may : MayTake t 2097152 (state_of xs q n) p c
    may = record { waits = T.was; early = λ r e x k w has a. T.early r e x k w a; room = few }

    named : Labelled (state_of xs q n) p c (state_of (set xs p (Some c)) q' (n + 1))
    named = record {
      count = add-one n;
      named = get_or-set_same xs p (Some c) None within;
      others = λ k ne. get_or-set_other xs p k (Some c) None ne;
      gone = T.gone;
      rest = λ k ne. T.others k ne;
    }

    -- the place has made its offers
    pub onward : {q'' : Queue C} {s : Shape} → Laws t → s ≡ g.shape → OffersAll t g net (set xs p (Some c)) q' q'' (around s p) → Going t g net start q'' (set xs p (Some c)) (n + 1)
    onward {q''} {s} laws shape O' = let O = subst (λ z. OffersAll t g net (set xs p (Some c)) q' q'' (around z p)) shape O' in record {
      sound = sound_is_kept C t (maze g net start) 2097152 (state_of xs q n) (state_of (set xs p (Some c)) q'' (n + 1)) p c (lawful laws)
          (λ x y k i. around_back g.shape x y k i) G.sound may
          (O.took start (n + 1) p (state_of xs q n) c T.last
          (took_none C t (maze g net start) 2097152 (state_of xs q n) (state_of (set xs p (Some c)) q' (n + 1)) p c (lawful laws) named));
      counted = rw length-set (omega (arith, fell, G.counted));
      sized = length-set xs p (Some c) ∙ G.sized;
      served = omega (arith, O.serves.served, T.serves.served, G.served);
    }

    -- the place is the goal
    pub arrived : (goal : Option ℕ) → Laws t → option_eq nat_eq goal (Some p) ≡ true → Spread t (maze g net start) goal (set xs p (Some c)) (n + 1)
    arrived goal laws e = record {
      known = known_taken (lawful laws) G.sound may named;
      count = (let b = both_counts (set xs p (Some c)) in let l = length-set xs p (Some c) in omega (arith, fell, G.counted));
      whole = λ missed. none_some (sym (met goal e missed) ∙ get_or-set_same xs p (Some c) None within);
    }
      where
        met : (goal : Option ℕ) → option_eq nat_eq goal (Some p) ≡ true → Missed goal (set xs p (Some c)) → get_or (set xs p (Some c)) p None ≡ None
        met None e missed = let z : ◌≡◌ {A = ℕ} 0 1 = cc in absurd (omega arith)
        met (Some v) e missed = subst (λ z. get_or (set xs p (Some c)) z None ≡ None) (eqb-true v p e) missed

  -- nothing waits any more
  pub ended : {q q' : Queue C} {xs : List (Option C)} {n : ℕ} (goal : Option ℕ) → Laws t → Going t g net start q xs n → Empty q q' → Spread t (maze g net start) goal xs n
  ended {q} {q'} {xs} {n} goal laws G E = record {
    known = sound_is_known C t (maze g net start) 2097152 (state_of xs q n) G.sound;
    count = omega (arith, both_counts xs, G.counted);
    whole = λ missed p. go p (cases_option (get_or xs p None));
  } where
    go : (p : ℕ) → (get_or xs p None ≡ None) ⊎ ((c : C) × (get_or xs p None ≡ Some c)) → get_or xs p None ≡ least t (maze g net start) 2097152 p
    go p (inr (c, e)) = e ∙ sym (is_least (lawful laws) (maze g net start) 2097152 p c (omega arith) (G.sound.least p c e))
    go p (inl e) = e ∙ sym (is_none (lawful laws) (maze g net start) 2097152 p (λ w r.
        let (c, f) = all_are_labelled C t (maze g net start) 2097152 (state_of xs q n) (lawful laws) G.sound E.none p w r in none_some (sym e ∙ f)))
