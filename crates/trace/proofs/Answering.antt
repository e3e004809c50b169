-- What the questions of a trace tell, and the wire after a search.
use Rattle.std.proofs.Common.{◌≡◌, ℕ, leb, List, ◌++◌, reverse, length, take, drop, IsErrAnd, Some, None, Ok, Err, Option, Result, sym, ap, ◌∙◌, subst}
use Rattle.std.proofs.lemmas.List.{length-reverse, length-take-le}
use Rattle.std.proofs.lemmas.Result.{err_from_is_err_and}
use Rattle.std.proofs.lemmas.Bool.{leb-true, cond-true}
use Rattle.grid.specs.Faults.{Refusal, refusal}
use Rattle.grid.specs.Places.{count_of}
use Rattle.tariff.specs.Rates.{Rates, Laws}
use Rattle.model.specs.Sheets.{Ground, Sound}
use Rattle.route.proofs.Labels.{wire_is_wire}
use Rattle.wave.specs.declared.connection.Connection.{Connection}
use Rattle.wave.specs.declared.fault.SearchFault.{SearchFault}
use Rattle.wave.specs.Questions.{search_refusal, search_answered, refused_by, unless}
use Rattle.wave.proofs.Asking.{passed, granted, unless_some, unless_none}
use Rattle.trace.specs.declared.walk.Trace.{Trace}
use Rattle.trace.specs.Trace.{traced, trace_asks, trace_answer, room_asks, write_asks, write_answer, path_after, written, AfterSearch}
use Rattle.trace.specs.Walk.{places_left, Begun}

-- what holds of the traced wire holds of the wire after a granted search
pub after_search : {C : Type 0} {t : Rates C} → Laws t → (g : Ground) → Sound g → (j : Connection) (ls : List (Option C)) (P : List ℕ → Type 0) → P (traced t g j ls) → AfterSearch t g j ls P
after_search laws g sound j ls P h = record { holds = λ xs S. subst P S.same h; is_wire = λ c l. wire_is_wire laws g j.net j.start j.goal c sound l }

-- A NUMBER THAT A LIST OF PLACES HAS, f, is answered for the traced wire, and so for the wire after a granted search
module _ {C : Type 0} {t : Rates C} (laws : Laws t) (g : Ground) (sound : Sound g) (j : Connection) (ls : List (Option C)) (f : List ℕ → ℕ) where
  abbrev Says : Result ℕ SearchFault → List ℕ → Type 0
  Says r ps = search_answered r ≡ trace_answer g (length ls) (f ps)

  said : (r : Result ℕ SearchFault) → Says r (traced t g j ls) → Says r (traced t g j ls) × AfterSearch t g j ls (Says r)
  said r a = (a, after_search laws g sound j ls (Says r) a)

  -- a trace that was refused answers its refusal
  pub refused : (e : SearchFault) (r : Result ℕ SearchFault) → refused_by (trace_asks g (length ls)) ≡ Some (search_refusal e) → IsErrAnd r (λ y. y ≡ e) →
      Says r (traced t g j ls) × AfterSearch t g j ls (Says r)
  refused e r o h =
      let (y, is, q) = err_from_is_err_and r h in
      said r (ap search_answered is ∙ ap (λ z. Err (search_refusal z)) q ∙ unless_some (refused_by (trace_asks g (length ls))) (search_refusal e) (Ok (f (traced t g j ls))) o)

  -- else the number is told of the places that the trace gives, the last one first
  pub told : {T : Type 0} (x : Trace T C) → Begun t g j ls (Ok x) → ((ps : List ℕ) → f (reverse ps) ≡ f ps) → (r : ℕ) → r ≡ f (places_left t x) →
      Says (Ok r) (traced t g j ls) × AfterSearch t g j ls (Says (Ok r))
  told x (asked, X) turned r e =
      said (Ok r) (ap Ok (e ∙ sym (ap f (X j.net).is ∙ turned (places_left t x))) ∙ unless_none (refused_by (trace_asks g (length ls))) (Ok (f (traced t g j ls))) asked)

ok_is : {a b : ℕ} → ◌≡◌ {A = Result ℕ Refusal} (Ok a) (Ok b) → a ≡ b
ok_is e = cc

module _ {T C : Type 0} (t : Rates C) (g : Ground) (j : Connection) (ls : List (Option C)) (x : Trace T C) (begun : Begun t g j ls (Ok x)) (path : List ℕ) (places : ℕ)
    (counted : Ok places ≡ trace_answer g (length ls) (length (traced t g j ls)))
    (room : ◌≡◌ {A = Result (Unit {0}) Refusal} (Ok tt) (unless (refused_by (room_asks places (length path))) (Ok tt))) where
  abbrev ps : List ℕ
  ps = traced t g j ls

  -- the counted places are those of the wire
  places_are : places ≡ length ps
  places_are = ok_is (counted ∙ sym (unless_none (refused_by (trace_asks g (length ls))) (Ok (length ps)) begun.0))

  roomy : refused_by (room_asks places (length path)) ≡ None
  roomy = granted (refused_by (room_asks places (length path))) room

  pub part_size : length (take places path) ≡ length (places_left t x)
  part_size =
      let l = leb-true places (length path) (passed (leb places (length path)) (refusal 11 places) None roomy).0 in
      length-take-le places path l ∙ places_are ∙ ap length (begun.1 j.net).is ∙ length-reverse (places_left t x)

  asked : refused_by (write_asks g (length ls) ps (length path)) ≡ None
  asked =
      cond-true (leb (count_of g.shape) (length ls)) (refused_by (room_asks (length ps) (length path))) (Some (refusal 2 (count_of g.shape)))
      (passed (leb (count_of g.shape) (length ls)) (refusal 2 (count_of g.shape)) None begun.0).0
      ∙ ap (λ k. refused_by (room_asks k (length path))) (sym places_are) ∙ roomy

  pub wrote_answer : Ok places ≡ write_answer g (length ls) ps (length path)
  wrote_answer = ap Ok places_are ∙ unless_none (refused_by (write_asks g (length ls) ps (length path))) (Ok (length ps)) asked

  pub wrote_path : (part : List ℕ) → part ≡ reverse (places_left t x) → part ++ drop places path ≡ path_after g (length ls) ps path
  wrote_path part e =
      ap (λ l. l ++ drop places path) (e ∙ sym (begun.1 j.net).is) ∙ ap (λ k. ps ++ drop k path) places_are
      ∙ sym (ap (λ o. written o ps path) asked)
