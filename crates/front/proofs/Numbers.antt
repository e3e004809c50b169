-- How many different numbers there are below one.
use Rattle.std.proofs.Common.{◌≡◌, ℕ, zero, suc, ◌<◌, ◌≤◌, cond, eqb, sym, ◌∙◌, subst, ⊎_elim, arith}
use Rattle.std.proofs.lemmas.Bool.{cases_eq, cond-true, cond-false, eq-eqb, ne_eqb}
use Rattle.front.specs.Places.{changed}
use Rattle.front.proofs.Changes.{changed_at, changed_off}

-- m different numbers below n are at most n
pub pigeonhole : (n m : ℕ) (f : ℕ → ℕ) → ((i : ℕ) → i < m → f i < n) → ((i j : ℕ) → i < m → j < m → f i ≡ f j → i ≡ j) → m ≤ n
pigeonhole n zero f b d = omega arith
pigeonhole zero (suc m) f b d = let x = b m (omega arith) in absurd (omega arith)
pigeonhole (suc n) (suc m) f b d =
    -- the last number takes the place of n
    let g : ℕ → ℕ = λ i. cond (eqb (f i) n) (f m) (f i) in
    let at : ((i : ℕ) → f i ≡ n → g i ≡ f m) = λ i e. cond-true (eqb (f i) n) (f m) (f i) (eq-eqb (f i) n e) in
    let off : ((i : ℕ) → (f i ≡ n → ⊥) → g i ≡ f i) = λ i e. cond-false (eqb (f i) n) (f m) (f i) (ne_eqb (f i) n e) in
    let apart : ((i : ℕ) → i < m → f i ≡ f m → ⊥) = λ i l e. let s = d i m (omega arith) (omega arith) e in omega arith in
    let r : m ≤ n = pigeonhole n m g
    (λ i l. ⊎_elim
    (λ e. let x = b m (omega arith) in let y : (f m ≡ n → ⊥) = λ z. apart i l (e ∙ sym z) in
    subst (λ z. z < n) (sym (at i e)) (⊎_elim (λ z. absurd (y z)) (λ z. omega arith) (cases_eq (f m) n)))
    (λ e. let x = b i (omega arith) in subst (λ z. z < n) (sym (off i e)) (omega arith))
    (cases_eq (f i) n))
    (λ i j li lj e. ⊎_elim
    (λ ei. ⊎_elim
    (λ ej. d i j (omega arith) (omega arith) (ei ∙ sym ej))
    (λ ej. absurd (apart j lj (sym (off j ej) ∙ sym e ∙ at i ei)))
    (cases_eq (f j) n))
    (λ ei. ⊎_elim
    (λ ej. absurd (apart i li (sym (off i ei) ∙ e ∙ at j ej)))
    (λ ej. d i j (omega arith) (omega arith) (sym (off i ei) ∙ e ∙ off j ej))
    (cases_eq (f j) n))
    (cases_eq (f i) n)) in
    omega arith

-- and fewer, where none of them is p, which is below n too
pub leaves_room : (n m p : ℕ) (f : ℕ → ℕ) → ((i : ℕ) → i < m → f i < n) → ((i j : ℕ) → i < m → j < m → f i ≡ f j → i ≡ j) →
    ((i : ℕ) → i < m → f i ≡ p → ⊥) → p < n → m < n
leaves_room n m p f b d absent pn =
    -- p comes after them
    let g : ℕ → ℕ = changed f m p in
    let at : ((i : ℕ) → i ≡ m → g i ≡ p) = changed_at f m p in
    let off : ((i : ℕ) → (i ≡ m → ⊥) → g i ≡ f i) = changed_off f m p in
    let r : suc m ≤ n = pigeonhole n (suc m) g
    (λ i li. ⊎_elim
    (λ e. subst (λ z. z < n) (sym (at i e)) pn)
    (λ e. subst (λ z. z < n) (sym (off i e)) (b i (omega arith)))
    (cases_eq i m))
    (λ i j li lj e. ⊎_elim
    (λ ei. ⊎_elim
    (λ ej. ei ∙ sym ej)
    (λ ej. absurd (absent j (omega arith) (sym (off j ej) ∙ sym e ∙ at i ei)))
    (cases_eq j m))
    (λ ei. ⊎_elim
    (λ ej. absurd (absent i (omega arith) (sym (off i ei) ∙ e ∙ at j ej)))
    (λ ej. d i j (omega arith) (omega arith) (sym (off i ei) ∙ e ∙ off j ej))
    (cases_eq j m))
    (cases_eq i m)) in
    omega arith
