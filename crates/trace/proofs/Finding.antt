-- What `find_map` answers on a list.
use Rattle.std.proofs.Common.{◌≡◌, ℕ, zero, suc, ◌+◌, ◌<◌, List, [], ◌∷◌, length, get_or, Some, None, Option, MatchOption, IsTrue, sym, refl, ap, ◌∙◌, arith}
use Rattle.std.specs.Fn.{Called}
use Rattle.std.specs.Option.{option_map, option_or, IfSome, IsSomeAnd}
use Rattle.std.specs.Iterator.{ActsAs}
use Rattle.std.specs.Iterator.Runs.{SomeRun, AllItemsGive, IsFirstToGive, YieldsRefsInOrder}
use Rattle.route.proofs.Order.{none_some, some_is}
use denote.Param.Members.{Mut}
use denote.Ref.{Bor}

module _ {A B : Type 0} (h : A → Option B) where
  -- the first answer that is not None
  abbrev pub first_some : List A → Option B
  first_some [] = None
  first_some (x ∷ xs) = option_or (h x) (first_some xs)

  none_given : (xs : List A) → ((k : ℕ) (d : A) → k < length xs → h (get_or xs k d) ≡ None) → first_some xs ≡ None
  none_given [] e = refl
  none_given (x ∷ xs) e =
      ap (λ o. option_or o (first_some xs)) (e 0 x (omega arith)) ∙ none_given xs (λ k d l. e (suc k) d (omega arith))

  some_given : (xs : List A) (i : ℕ) (d : A) (b : B) → i < length xs → ((k : ℕ) → k < i → h (get_or xs k d) ≡ None) → h (get_or xs i d) ≡ Some b → first_some xs ≡ Some b
  some_given [] i d b l e s = absurd (omega arith)
  some_given (x ∷ xs) zero d b l e s = ap (λ o. option_or o (first_some xs)) s
  some_given (x ∷ xs) (suc i) d b l e s =
      ap (λ o. option_or o (first_some xs)) (e 0 (omega arith)) ∙ some_given xs i d b (omega arith) (λ k m. e (suc k) (omega arith)) s

  module _ {F : Type 0} {g : Mut F (Bor A × Unit {0}) (Option B)} {f : F}
      (acts : ActsAs g f (λ x. h x.now)) where
    -- what stands at a place, and what the closure answers there
    at_some : (o : Option (Bor A)) (a : A) (r : Option B) → option_map (λ y. y.now) o ≡ Some a → IfSome o (λ x. Called g f (x, tt) r f) → h a ≡ r
    at_some None a r e c = none_some e
    at_some (Some x) a r e c = sym ((acts x r f c).1 ∙ ap h (some_is e))

    stands : (o : Option (Bor A)) (r : Option B) → IsSomeAnd o (λ x. Called g f (x, tt) r f) → A × IfSome o (λ x. Called g f (x, tt) r f)
    stands None r c = absurd c
    stands (Some x) r c = (x.now, c)

    pub found_mapped : {S : Type 0} {steps : S → Option (Bor A) → S → Type 0} (rest : S → List A) (s : S) (r : Option B) → YieldsRefsInOrder steps rest →
        SomeRun steps s (λ p. MatchOption r (IsTrue p.whole × AllItemsGive p g f None) (λ y. (i : ℕ) × (i < p.len) × (p.len ≡ i + 1) × IsFirstToGive p g f (Some y) None i)) →
        r ≡ first_some (rest s)
    found_mapped rest s None every (p, from, (whole, give)) =
        let to = every p p.seen in
        let size = to.1 whole in
        sym (none_given (rest p.from) (λ k d l. at_some (p.at k) (get_or (rest p.from) k d) None (to.2 k d (omega arith)) (give (λ (x, u) o f' c. (acts x o f' c).0) k))) ∙ ap (λ z. first_some (rest z)) from
    found_mapped rest s (Some y) every (p, from, (i, lt, len, give)) =
        let to = every p p.seen in
        let (hit, miss) = give (λ (x, u) o f' c. (acts x o f' c).0) in
        let (d, at) = stands (p.at i) (Some y) hit in
        sym (some_given (rest p.from) i d y (let l = to.0 in omega arith)
        (λ k l. at_some (p.at k) (get_or (rest p.from) k d) None (to.2 k d (omega arith)) (stands (p.at k) None (miss k l)).1)
        (at_some (p.at i) (get_or (rest p.from) i d) (Some y) (to.2 i d lt) at)) ∙ ap (λ z. first_some (rest z)) from
