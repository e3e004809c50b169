-- What a pass over a trace comes to.
use Rattle.std.proofs.Common.{◌≡◌, ℕ, suc, ◌+◌, ◌-◌, ◌==◌, List, [], ◌∷◌, reverse, length, drop, count_by, set, sym, refl, ap, ◌∙◌, arith}
use mathlib.Core.List.{reverse_aux}
use lib.Seq.{drop-length}
use Rattle.std.proofs.lemmas.List.{drop-set}
use Rattle.std.proofs.lemmas.List.Sums.{sum_by-cons}
use Rattle.model.specs.Paths.{bare_entries}
use Rattle.model.specs.Sheets.{Sheet, bare_at}

-- BARE PLACES
pub bare_counted : (b : Sheet) (ps : List ℕ) → count_by (λ p. b.metal.copper p == 0) ps ≡ bare_entries b ps
bare_counted b [] = refl
bare_counted b (p ∷ ps) = sum_by-cons (bare_at b) p ps ∙ ap (λ n. bare_at b p + n) (bare_counted b ps)

-- as many places are bare in a list turned round
bare_turned : (b : Sheet) (ps qs : List ℕ) → bare_entries b (reverse_aux ps qs) ≡ bare_entries b ps + bare_entries b qs
bare_turned b [] qs = omega arith
bare_turned b (p ∷ ps) qs = omega (arith, bare_turned b ps (p ∷ qs))

pub bare_reverse : (b : Sheet) (ps : List ℕ) → bare_entries b (reverse ps) ≡ bare_entries b ps
bare_reverse b ps = omega (arith, bare_turned b ps [])

-- THE WRITTEN PLACES

-- once a list is filled with the places that are left, the last one first
abbrev pub filled : List ℕ → List ℕ → List ℕ
filled ps xs = reverse_aux ps (drop (length ps) xs)

pub filled_none : (ps xs : List ℕ) → length xs ≡ length ps → filled ps xs ≡ reverse ps
filled_none ps xs e = ap (reverse_aux ps) (ap (λ n. drop n xs) (sym e) ∙ drop-length xs)

-- one more is written, before those that are done
pub filled_more : (ps qs xs ys : List ℕ) (p done : ℕ) → ps ≡ p ∷ qs → done + length ps ≡ length xs → length ys ≡ length xs → ys ≡ set xs (length xs - 1 - done) p →
    (done + 1 + length qs ≡ length ys) × (filled qs ys ≡ filled ps xs)
filled_more ps qs xs ys p done ep sum long e =
    let i = length xs - 1 - done in
    let n : length ps ≡ suc (length qs) = ap length ep in
    let at : i ≡ length qs = omega arith in
    let next : i + 1 ≡ suc (length qs) = omega arith in (
      omega arith,
      ap (filled qs) e ∙ ap (λ k. reverse_aux qs (drop k (set xs i p))) (sym at) ∙ ap (reverse_aux qs) (drop-set xs i p (omega arith)) ∙ ap (λ k. reverse_aux qs (p ∷ drop k xs)) next ∙ sym (ap (λ r. filled r xs) ep),
    )

pub filled_all : (ps xs : List ℕ) → ps ≡ [] → xs ≡ filled ps xs
filled_all ps xs e = ap (λ r. filled r xs) (sym e)
