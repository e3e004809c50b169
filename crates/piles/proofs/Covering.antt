-- A path laid over a keep-out to which one rectangle was added.
use Rattle.std.proofs.Common.{◌≡◌, ℕ, cond, List, [], ◌∷◌, ◌++◌, Ok, Err, Result, sym, ap, ◌∙◌}
use Rattle.std.proofs.lemmas.Bool.{cond-true}
use Rattle.grid.specs.declared.fault.SheetFault.{SheetFault}
use Rattle.grid.specs.Faults.{Refusal, refusal}
use Rattle.model.specs.Sheets.{Metal, Sheet, ask}
use Rattle.model.specs.Paths.{on, cover_answer, Covers}
use Rattle.model.proofs.PathLaws.{passed}
use Rattle.keep_out.specs.declared.row.Row.{Row}
use Rattle.keep_out.specs.Rectangles.{is_rectangle}
use Rattle.keep_out.specs.KeptOut.{add_answer}
use Rattle.piles.specs.Piled.{apart, CopperCovered}

-- f is what lies over the keep-out, s the sheet below it
module _ {S : Type 0} (board : S → Sheet) (f : Sheet → Sheet) where
  abbrev answer_at : List Row → S → List ℕ → ℕ → Result (Unit {0}) Refusal
  answer_at xs s p n = cover_answer (f (apart xs (board s))) p n

  pub apart_answer : (x : Row) (s s' s'' : S) (xs xs' : List Row) (p : List ℕ) (n : ℕ) (a : Result (Unit {0}) Refusal) → s' ≡ s → s'' ≡ s' → xs ≡ [] → xs' ≡ xs ++ (x ∷ []) → Ok tt ≡ add_answer xs x → a ≡ answer_at xs' s'' p n → a ≡ ask (is_rectangle x) (refusal 1 0) (answer_at (x ∷ []) s p n)
  apart_answer x s s' s'' xs xs' p n a same stays none one added answer =
      answer
      ∙ ap (λ (ys : List Row). answer_at ys s'' p n) (one ∙ ap (λ (ys : List Row). ys ++ (x ∷ [])) none)
      ∙ ap (λ (t : S). answer_at (x ∷ []) t p n) (stays ∙ same)
      ∙ sym (cond-true (is_rectangle x) _ _ (passed (is_rectangle x) _ _ (sym added)).0)

-- what a sheet tells of a path that was laid, for its copper alone
pub covered_copper : (b b' : Sheet) (m m' : Metal) (ps : List ℕ) (n : ℕ) (r : Result (Unit {0}) SheetFault) → b.metal ≡ m → b'.metal ≡ m' → Covers b b' ps n r → CopperCovered m m' ps n r
covered_copper b b' m m' ps n (Ok u) e e' w = (
  ap (λ (k : Metal). k.limit) (sym e') ∙ w.limit ∙ ap (λ (k : Metal). k.limit) e,
  λ q. ap (λ (k : Metal). k.copper q) (sym e') ∙ w.copper q ∙ ap (λ (k : Metal). cond (on q ps) n (k.copper q)) e,
)
covered_copper b b' m m' ps n (Err f) e e' same = sym e' ∙ ap (λ (x : Sheet). x.metal) same ∙ e
