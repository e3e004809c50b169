-- What a search that reached its goal leaves.
use Rattle.std.proofs.Common.{◌≡◌, ℕ, ◌+◌, ◌<◌, ◌≤◌, List, ◌++◌, length, get_or, take, drop, is_some, Some, None, Option, Result, sym, ap, ◌∙◌, subst, ⊎_elim, arith, length-append}
use Rattle.std.proofs.lemmas.List.{get_or_append_left, get_or_past, drop_at, take_at, length-drop}
use Rattle.std.proofs.lemmas.Bool.{cases_lt}
use Rattle.grid.specs.Faults.{Refusal}
use Rattle.std.specs.Option.{ok_or}
use Rattle.grid.specs.Places.{count_of}
use Rattle.tariff.specs.Rates.{Rates, Laws}
use Rattle.model.specs.Sheets.{Ground, Sound}
use Rattle.route.specs.Listed.{On}
use Rattle.route.specs.Paths.{maze, labels, label_of, wire_over}
use Rattle.route.proofs.Best.{is_least}
use Rattle.route.proofs.Bridge.{least_cost}
use Rattle.route.proofs.Labels.{same_wire, wire_labelled}
use Rattle.route.proofs.Laws.{lawful}
use Rattle.route.proofs.Order.{none_some}
use Rattle.wave.specs.declared.connection.Connection.{Connection}
use Rattle.wave.specs.declared.fault.SearchFault.{SearchFault}
use Rattle.wave.specs.declared.fault.SearchFault.TheVariants.{NoPath}
use Rattle.wave.specs.Questions.{SomeLabels, SearchLeaves, search_answered, found}
use Rattle.wave.specs.Spread.{Spread}
use Rattle.wave.proofs.Asking.{label_least, whole_list, leaves_whole}

module _ {C : Type 0} {t : Rates C} (laws : Laws t) (g : Ground) (sound : Sound g) (j : Connection) where
  -- the goal's label is its least cost
  pub goal_least : (ys : List (Option C)) (n : ℕ) (c : C) → Spread t (maze g j.net j.start) (Some j.goal) ys n → get_or ys j.goal None ≡ Some c → label_of (labels t g j.net j.start) j.goal ≡ Some c
  goal_least ys n c S e = label_least laws g sound j.net j.start j.goal ∙ is_least (lawful laws) (maze g j.net j.start) 2097152 j.goal c (omega arith) (S.known.exact j.goal c e)

  labelled_inside : (ys : List (Option C)) (p : ℕ) (c : C) → get_or ys p None ≡ Some c → p < length ys
  labelled_inside ys p c e = ⊎_elim (λ l. l) (λ l. none_some (sym (get_or_past ys p None l) ∙ e)) (cases_lt p (length ys))

  pub reached : (xs ys : List (Option C)) (k n : ℕ) (c : C) → k ≡ count_of g.shape → count_of g.shape ≤ length xs → length ys ≡ count_of g.shape →
      Spread t (maze g j.net j.start) (Some j.goal) ys n → get_or ys j.goal None ≡ Some c → SomeLabels t g j.net j.start j.goal xs (ys ++ drop k xs)
  reached xs ys k n c ek enough size S e =
      let post = ap (λ n. drop n xs) ek in
      let front : take (count_of g.shape) (ys ++ drop k xs) ≡ ys = take_at ys (drop k xs) (count_of g.shape) size in
      let here : (p : ℕ) → p < count_of g.shape → label_of (ys ++ drop k xs) p ≡ label_of ys p = λ p l. get_or_append_left ys (drop k xs) None p (omega arith) in
      let same = same_wire laws g sound j.net j.start ys j.goal c S.known e in
      record {
        least = λ p b l h. least_cost g sound j.net j.start t p b (S.known.exact p b (sym (here p l) ∙ h));
        wired = λ p i.
            let (b, h) = wire_labelled laws g sound j.net j.start ys j.goal c S.known e p (subst (On p) (sym same) i) in
            let l : p < count_of g.shape = omega (arith, labelled_inside ys p b h) in
            ap is_some (here p l ∙ h);
        same = ap (λ l. wire_over t (maze g j.net j.start) l j.goal) front ∙ same;
        past = drop_at ys (drop k xs) (count_of g.shape) size ∙ post;
        long = length-append ys (drop k xs) ∙ ap (λ l. length ys + length l) post ∙ (let d = length-drop (count_of g.shape) xs in omega arith);
      }

  -- a search that was allowed answers the goal's label and leaves the labels, both by whether the goal has one
  pub finished : {F : Type 0} (early : Option Refusal) (xs ys : List (Option C)) (f f' : F) (k n : ℕ) (o : Option C) (r : Result C SearchFault) → early ≡ None → k ≡ count_of g.shape →
      count_of g.shape ≤ length xs → length ys ≡ count_of g.shape → Spread t (maze g j.net j.start) (Some j.goal) ys n → o ≡ label_of ys j.goal → r ≡ ok_or o (NoPath j.goal) →
      (search_answered r ≡ found j.goal (label_of (labels t g j.net j.start) j.goal)) × SearchLeaves t g j early xs (ys ++ drop k xs) f f' r
  finished early xs ys f f' k n (Some c) r a ek enough size S e er = (
    ap search_answered er ∙ sym (ap (found j.goal) (goal_least ys n c S (sym e))),
    subst (λ z. SearchLeaves t g j early xs (ys ++ drop k xs) f f' z) (sym er) (reached xs ys k n c ek enough size S (sym e)),
  )
  finished early xs ys f f' k n None r a ek enough size S e er =
      let all = S.whole (sym e) in (
        ap search_answered er ∙ sym (ap (found j.goal) (label_least laws g sound j.net j.start j.goal ∙ sym (all j.goal) ∙ sym e)),
        subst (λ z. SearchLeaves t g j early xs (ys ++ drop k xs) f f' z) (sym er)
            (leaves_whole t g j.net j.start early xs (ys ++ drop k xs) f f' a (whole_list laws g sound j.net j.start k xs ys ek size all)),
      )
