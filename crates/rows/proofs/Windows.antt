-- Levels and rows.
use Rattle.std.proofs.Common.{◌≡◌, ℕ, ◌+◌, ◌-◌, ◌%◌, ◌<◌, sym, ap, ◌∙◌, ⊎_elim, mod-lt, mod-eq_of_lt, arith}
use native.Mathlib.Nat.{mod-add-mod, mod-eq-sub-mod}
use Rattle.std.proofs.lemmas.Bool.{cases_lt}

-- a number that is less than m and makes no difference modulo m is 0
no_turn : (x d m : ℕ) → d < m → (x + d) % m ≡ x % m → d ≡ 0
no_turn x d m l e =
    let y = x % m in
    let z : 0 < m = omega arith in
    let ym = mod-lt x z in
    let f : (y + d) % m ≡ y = mod-add-mod x m d ∙ e in
    ⊎_elim
    (λ s. let g = mod-eq_of_lt s in omega arith)
    (λ s. let g = mod-eq-sub-mod s in let u : y + d - m < m = omega arith in let k = mod-eq_of_lt u in absurd (omega arith))
    (cases_lt (y + d) m)

-- two numbers less than m that lead from b to the same row are equal
pub one_turn : (b i j m : ℕ) → i < m → j < m → (b + i) % m ≡ (b + j) % m → i ≡ j
one_turn b i j m li lj e = ⊎_elim
    (λ l. let a : b + i + (j - i) ≡ b + j = omega arith in
    let z = no_turn (b + i) (j - i) m (omega arith) (ap (λ x. x % m) a ∙ sym e) in omega arith)
    (λ l. let a : b + j + (i - j) ≡ b + i = omega arith in
    let z = no_turn (b + j) (i - j) m (omega arith) (ap (λ x. x % m) a ∙ e) in omega arith)
    (cases_lt i j)
