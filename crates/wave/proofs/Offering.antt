-- One offer after the other.
use Rattle.std.proofs.Common.{◌≡◌, ℕ, ◌+◌, ◌<◌, List, [], ◌∷◌, ◌++◌, length, get_or, take, Some, None, Option, sym, refl, ap, ◌∙◌, subst, append-nil}
use Rattle.std.proofs.lemmas.List.{take_more}
use Rattle.grid.specs.declared.shape.Shape.{Shape}
use Rattle.grid.specs.declared.step.Direction.{Direction}
use Rattle.grid.specs.Steps.{kind, neighbour_of}
use Rattle.tariff.specs.Rates.{Rates, Laws}
use Rattle.front.specs.Queue.{Queue, Serves}
use Rattle.model.specs.Sheets.{Ground}
use Rattle.route.specs.Hops.{Hop, hop, put_in, gather}
use Rattle.route.specs.Paths.{maze}
use Rattle.route.proofs.Around.{gather_push}
use Rattle.route.proofs.Offer.{took_more}
use Rattle.route.proofs.Laws.{lawful}
use Rattle.wave.specs.Offers.{state_of, Offers, OffersAll}

gather_next : (s : Shape) (p : ℕ) (ds : List Direction) (i : ℕ) (d : Direction) → i < length ds →
    gather s p (take (i + 1) ds) ≡ gather s p (take i ds) ++ put_in (kind (get_or ds i d)) (neighbour_of s p (get_or ds i d)) []
gather_next s p ds i d h = ap (gather s p) (take_more ds i d h) ∙ gather_push s p (take i ds) (get_or ds i d)

pub serves_same : {C : Type 0} (q : Queue C) → Serves q q
serves_same q = record { served = refl; spans = refl }

pub serves_both : {C : Type 0} {q q' q'' : Queue C} → Serves q q' → Serves q' q'' → Serves q q''
serves_both x y = record { served = y.served ∙ x.served; spans = y.spans ∙ x.spans }

module _ {C : Type 0} {t : Rates C} {g : Ground} {net : ℕ} {xs : List (Option C)} where
  pub offers_none : (q : Queue C) → OffersAll t g net xs q q []
  offers_none q = record { serves = serves_same q; last = refl; took = λ start n p s c e k. k }

  offers_more : {q q' q'' : Queue C} {hs : List Hop} {h : Hop} → Laws t → OffersAll t g net xs q q' hs → Offers t g net xs q' q'' h →
      OffersAll t g net xs q q'' (hs ++ (h ∷ []))
  offers_more {q} {q'} {q''} {hs} {h} laws O P = record {
    serves = serves_both O.serves P.serves;
    last = P.last ∙ O.last;
    took = λ start n p s c e k.
        took_more C t (maze g net start) 2097152 s (state_of xs q' n) (state_of xs q'' n) p c hs h (lawful laws) (O.took start n p s c e k) (P.offered start n c (O.last ∙ e));
  }

  -- the next direction leads to a place
  pub next_some : {q q' q'' : Queue C} (s : Shape) (p : ℕ) (ds : List Direction) (i : ℕ) (d : Direction) (to : ℕ) → Laws t → i < length ds → neighbour_of s p (get_or ds i d) ≡ Some to →
      OffersAll t g net xs q q' (gather s p (take i ds)) → Offers t g net xs q' q'' (hop (kind (get_or ds i d)) to) → OffersAll t g net xs q q'' (gather s p (take (i + 1) ds))
  next_some {q} {q'} {q''} s p ds i d to laws l e O P =
      subst (λ hs. OffersAll t g net xs q q'' hs) (sym (gather_next s p ds i d l ∙ ap (λ o. gather s p (take i ds) ++ put_in (kind (get_or ds i d)) o []) e)) (offers_more laws O P)

  -- the next direction leads nowhere
  pub next_none : {q q' : Queue C} (s : Shape) (p : ℕ) (ds : List Direction) (i : ℕ) (d : Direction) → i < length ds → neighbour_of s p (get_or ds i d) ≡ None →
      OffersAll t g net xs q q' (gather s p (take i ds)) → OffersAll t g net xs q q' (gather s p (take (i + 1) ds))
  next_none {q} {q'} s p ds i d l e O =
      subst (λ hs. OffersAll t g net xs q q' hs) (sym (gather_next s p ds i d l ∙ ap (λ o. gather s p (take i ds) ++ put_in (kind (get_or ds i d)) o []) e ∙ append-nil (gather s p (take i ds)))) O
