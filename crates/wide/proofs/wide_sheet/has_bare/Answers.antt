use Rattle.std.proofs.Common.{◌≡◌, ℕ, zero, suc, ◌≤◌, Bool, true, false, List, [], ◌∷◌, length, take, eqb, arith, ⊎_elim}
use Rattle.std.specs.List.{filter}
use Rattle.std.proofs.lemmas.Bool.{cases_Bool}
use Rattle.std.proofs.lemmas.Bool.Decides.{nat_tests}
use Rattle.wide.proofs.wide_sheet.has_bare.Goals as goal

-- the first elements pass no test more often than all
few : (p : ℕ → Bool) (xs : List ℕ) (i : ℕ) → length (filter p (take i xs)) ≤ length (filter p xs)
few p xs zero = omega arith
few p [] (suc i) = omega arith
few p (x ∷ xs) (suc i) =
    let h = few p xs i in
    ⊎_elim (λ (t : p x ≡ true). rw t (omega arith)) (λ (t : p x ≡ false). rw t (omega arith)) (cases_Bool (p x))

pub returns-then-missing-eq0 : goal.returns-then-missing-eq0
returns-then-missing-eq0 c =
    let h = few (λ x. eqb x 0) c.args.cells.now c.loop-here.here-index in
    grind (arith, nat_tests)
