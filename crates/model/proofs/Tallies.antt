-- How many places are not bare.
use Rattle.std.proofs.Common.{◌≡◌, ℕ, zero, suc, ◌+◌, ◌<◌, ◌≤◌, true, false, cond, eqb, sym, refl, ap, ◌∙◌, ⊎_elim, not-suc-le-zero, add-one, arith}
use Rattle.std.proofs.lemmas.Bool.{cases_eq, cond_both, cond-true, cond-false, eq-eqb, ne_eqb}
use Rattle.model.specs.Sheets.{tally, put}

-- one place: 1 if it is not bare, else 0
abbrev pub one : ℕ → ℕ
one v = cond (eqb v 0) 0 1

one_bare : (v : ℕ) → v ≡ 0 → one v ≡ 0
one_bare v e = cond-true (eqb v 0) 0 1 (eq-eqb v 0 e)

one_most : (v : ℕ) → one v ≤ 1
one_most v = cond_both (eqb v 0) 0 1 (λ x. x ≤ 1) (λ e. omega arith) (λ e. omega arith)

-- it is bare or it is not
pub bare_or_one : (v : ℕ) → cond (eqb v 0) 1 0 + one v ≡ 1
bare_or_one v = elim (eqb v 0) as (λ t. cond {A = ℕ} t 1 0 + cond {A = ℕ} t 0 1 ≡ 1) [ true ↦ refl | false ↦ refl ]

pub tally_none : (f : ℕ → ℕ) → tally f 0 ≡ 0
unfolding tally
tally_none f = refl

pub tally_more : (f : ℕ → ℕ) (i : ℕ) → tally f (i + 1) ≡ one (f i) + tally f i
unfolding tally
tally_more f i = rw add-one

-- no more than there are
pub tally_most : (f : ℕ → ℕ) (n : ℕ) → tally f n ≤ n
unfolding tally
tally_most f zero = omega arith
tally_most f (suc n) = omega (arith, tally_most f n, one_most (f n))

-- where all are bare
pub tally_all_bare : (f : ℕ → ℕ) (n : ℕ) → ((p : ℕ) → p < n → f p ≡ 0) → tally f n ≡ 0
unfolding tally
tally_all_bare f zero h = refl
tally_all_bare f (suc n) h = omega (arith, tally_all_bare f n (λ p l. h p (omega arith)), one_bare (f n) (h n (omega arith)))

-- a bare place leaves room for one
pub tally_below : (f : ℕ → ℕ) (n p : ℕ) → p < n → f p ≡ 0 → tally f n < n
unfolding tally
tally_below f zero p h e = absurd (not-suc-le-zero h)
tally_below f (suc n) p h e =
    ⊎_elim
    (λ (same : p ≡ n). omega (arith, tally_most f n, one_bare (f n) (ap f (sym same) ∙ e)))
    (λ (other : p ≡ n → ⊥). omega (arith, tally_below f n p (grind arith) e, one_most (f n)))
    (cases_eq p n)

-- the same copper
pub tally_same : (f g : ℕ → ℕ) (n : ℕ) → ((p : ℕ) → p < n → f p ≡ g p) → tally f n ≡ tally g n
unfolding tally
tally_same f g zero h = refl
tally_same f g (suc n) h =
    let t = tally_same f g n (λ p l. h p (omega arith)) in
    let e : one (f n) ≡ one (g n) = ap one (h n (omega arith)) in omega arith

-- the copper put where it was
put_same : (f : ℕ → ℕ) (p v : ℕ) → put f p v p ≡ v
put_same f p v = cond-true (eqb p p) v (f p) (eq-eqb p p refl)

put_other : (f : ℕ → ℕ) (p v q : ℕ) → (q ≡ p → ⊥) → put f p v q ≡ f q
put_other f p v q e = cond-false (eqb q p) v (f q) (ne_eqb q p e)

-- copper put at one place: the tally changes by that place
pub tally_put : (f g : ℕ → ℕ) (n p v : ℕ) → ((q : ℕ) → g q ≡ put f p v q) → p < n → tally g n + one (f p) ≡ tally f n + one v
unfolding tally
tally_put f g zero p v h l = absurd (not-suc-le-zero l)
tally_put f g (suc n) p v h l =
    ⊎_elim
    (λ (same : p ≡ n).
    let t = tally_same g f n (λ q k. h q ∙ put_other f p v q (omega arith)) in
    let here : one (g n) ≡ one v = ap one (ap g (sym same) ∙ (h p ∙ put_same f p v)) in
    let was : one (f n) ≡ one (f p) = ap (λ (q : ℕ). one (f q)) (sym same) in
    omega arith)
    (λ (other : p ≡ n → ⊥).
    let t = tally_put f g n p v h (grind arith) in
    let here : one (g n) ≡ one (f n) = ap one (h n ∙ put_other f p v n (λ e. other (sym e))) in
    omega arith)
    (cases_eq p n)

-- laid at one place: the tally grows if it was bare
pub tally_lay : (f g : ℕ → ℕ) (n p v : ℕ) → ((q : ℕ) → g q ≡ put f p v q) → (v ≡ 0 → ⊥) → p < n → tally g n ≡ tally f n + cond (eqb (f p) 0) 1 0
tally_lay f g n p v h k l =
    let new : one v ≡ 1 = cond-false (eqb v 0) 0 1 (ne_eqb v 0 k) in
    omega (arith, tally_put f g n p v h l, bare_or_one (f p))
