-- What a layer keeps of the sheet below.
use Rattle.std.proofs.Common.{◌≡◌, ℕ, Bool, true, ◌&&◌, Ok, Err, Result, sym, ap, ◌∙◌, subst}
use Rattle.std.proofs.lemmas.Bool.{and_parts, and_from}
use Rattle.grid.specs.declared.shape.Shape.{Shape}
use Rattle.grid.specs.declared.fault.SheetFault.{SheetFault}
use Rattle.grid.specs.Faults.{Refusal}
use Rattle.model.specs.Sheets.{Ground, Sound, Sheet, Tied, lay_answer, Wrote, Laid, Lifted}
use Rattle.model.specs.Layers.{Narrows, narrowed, narrowed_sheet}

-- a test of the place that depends on the shape alone narrows
abbrev pub tested : (Shape → ℕ → Bool) → Ground → ℕ → ℕ → Bool
tested t g p n = g.opened p n && t g.shape p

pub test_narrows : (t : Shape → ℕ → Bool) → Narrows (tested t)
test_narrows t = record {
  below = λ g p n h. (and_parts (g.opened p n) (t g.shape p) h).0;
  keeps = λ g g' n e m p h.
      let (here, test) = and_parts (g.opened p n) (t g.shape p) h in
      and_from (g'.opened p n) (t g'.shape p) (m p here) (subst (λ (s : Shape). t s p ≡ true) (sym e) test);
}

module _ (f : Ground → ℕ → ℕ → Bool) (law : Narrows f) where
  pub narrow_sound : (g : Ground) → Sound g → Sound (narrowed f g)
  narrow_sound g s = record {
    inside = λ p n h. s.inside p n (law.below g p n h);
    nets = λ p n h. s.nets p n (law.below g p n h);
  }

  pub narrow_tied : (b : Sheet) → Tied b → Tied (narrowed_sheet f b)
  narrow_tied b t = record {
    free = λ p n h. t.free p n (law.below b.area p n h);
    small = t.small;
    outside = t.outside;
    within = t.within;
  }

  -- once the place is open above, the sheet below answers for the one above
  pub narrow_lay : (b : Sheet) (p n : ℕ) (a : Result (Unit {0}) Refusal) → f b.area p n ≡ true → a ≡ lay_answer b p n → a ≡ lay_answer (narrowed_sheet f b) p n
  narrow_lay b p n a h answer =
      let k = law.below b.area p n h in
      answer ∙ rw (h, k)

  module _ (b b' : Sheet) where
    wrote : (p v : ℕ) → Wrote b b' p v → Wrote (narrowed_sheet f b) (narrowed_sheet f b') p v
    wrote p v w = record { shape = w.shape; limit = w.limit; copper = w.copper }

    pub narrow_laid : (p n : ℕ) (r : Result (Unit {0}) SheetFault) → Laid b b' p n r → Laid (narrowed_sheet f b) (narrowed_sheet f b') p n r
    narrow_laid p n (Ok u) (w, o) = (wrote p n w, law.keeps b.area b'.area n w.shape o)
    narrow_laid p n (Err e) l = ap (narrowed_sheet f) l

    pub narrow_lifted : (p : ℕ) (r : Result (Unit {0}) SheetFault) → Lifted b b' p r → Lifted (narrowed_sheet f b) (narrowed_sheet f b') p r
    narrow_lifted p (Ok u) (w, o) = (wrote p 0 w, λ n. law.keeps b.area b'.area n w.shape (o n))
    narrow_lifted p (Err e) l = ap (narrowed_sheet f) l
