-- How a wave begins.
use Rattle.std.proofs.Common.{◌≡◌, ℕ, ◌<◌, Bool, true, false, ◌⊎◌, leb, List, get_or, Some, None, Option, sym, refl, ap, ◌∙◌, length, replicate, inl, inr, ⊎_elim, arith}
use Rattle.std.proofs.lemmas.List.{get_or-replicate, get_or_past, length-replicate}
use Rattle.std.proofs.lemmas.Bool.{and_parts, both_ways, cases_eq, cases_lt, leb-true}
use Rattle.grid.specs.Places.{count_of}
use Rattle.tariff.specs.Rates.{Rates, Laws}
use Rattle.front.specs.Queue.{Queue, Starts, Started}
use Rattle.model.specs.Sheets.{Ground, Sound}
use Rattle.route.specs.Paths.{maze}
use Rattle.route.proofs.States.{Fresh}
use Rattle.route.proofs.Order.{none_some, some_is}
use Rattle.wave.specs.Offers.{state_of}
use Rattle.wave.specs.Questions.{serves}
use Rattle.wave.proofs.Spreading.{Going, begun}

-- a list of Nones has no Some
none_at : {C : Type 0} (n : ℕ) (xs : List (Option C)) → xs ≡ replicate n None → (k : ℕ) → get_or xs k None ≡ None
none_at {C} n xs e k = ⊎_elim
    (λ l. ap (λ ys. get_or ys k None) e ∙ get_or-replicate {A = Option C} n k None None l)
    (λ l. get_or_past xs k None (omega (arith, ap length e, length-replicate {A = Option C} n None)))
    (cases_lt k n)

module _ {C : Type 0} {t : Rates C} where
  -- a front that serves the place and the tariff is started
  started : (p : ℕ) (q q' : Queue C) (r : Bool) → Starts t p q q' r → p < q.served → q.spans t.span ≡ true → (r ≡ true) × Started t p q q'
  started p q q' true s l e = (refl, s)
  started p q q' false s l e = absurd (⊎_elim (λ f. both_ways (q.spans t.span) f e) (λ le. omega arith) s.why)

  fresh_of : (g : Ground) (net start : ℕ) (q q' : Queue C) (xs : List (Option C)) → g.opened start net ≡ true → Started t start q q' → ((k : ℕ) → get_or xs k None ≡ None) →
      Fresh t (maze g net start) (state_of xs q' 0)
  fresh_of g net start q q' xs free S none = record {
    none = none;
    start = λ f. S.first;
    only = λ p c e. go p c e (cases_eq p start);
    zero = refl;
  } where
    go : (p : ℕ) (c : C) → q'.waiting p ≡ Some c → (p ≡ start) ⊎ (p ≡ start → ⊥) → (g.opened start net ≡ true) × (p ≡ start) × (c ≡ t.nothing)
    go p c e (inl i) = (free, i, some_is (sym e ∙ ap q'.waiting i ∙ S.first))
    go p c e (inr n) = none_some (sym (S.others p n) ∙ e)

  -- the labels are taken away and the front is started
  pub begins : (laws : Laws t) (g : Ground) → Sound g → (net start : ℕ) (q q' : Queue C) (r : Bool) (n : ℕ) (xs : List (Option C)) → g.opened start net ≡ true → serves t g q ≡ true →
      Starts t start q q' r → length xs ≡ count_of g.shape → xs ≡ replicate n None → (r ≡ true) × Going t g net start q' xs 0
  begins laws g sound net start q q' r n xs free served acts size none =
      let (tariff, places) = and_parts (q.spans t.span) (leb (count_of g.shape) q.served) served in
      let reached = leb-true _ _ places in
      let (granted, s) = started start q q' r acts (omega (arith, sound.inside start net free)) tariff in
      (granted, begun q' xs laws (fresh_of g net start q q' xs free s (none_at n xs none)) size (omega (arith, s.serves.served)))
