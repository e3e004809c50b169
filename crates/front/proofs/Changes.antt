-- Functions changed at one argument, and options.
use Rattle.std.proofs.Common.{◌≡◌, ℕ, ◌⊎◌, Some, None, Option, sym, refl, ap, ◌∙◌, inl, inr, ⊎_elim}
use Rattle.std.proofs.lemmas.Bool.{cases_eq, eq-eqb, ne_eqb}
use Rattle.front.specs.Places.{changed}

-- two functions with equal values are equal
pub equal : {X : Type 0} {f g : ℕ → X} → ((k : ℕ) → f k ≡ g k) → f ≡ g
equal e = λ i k. e k i

pub changed_at : {X : Type 0} (f : ℕ → X) (i : ℕ) (x : X) (k : ℕ) → k ≡ i → changed f i x k ≡ x
changed_at f i x k e = rw (eq-eqb k i e)

pub changed_off : {X : Type 0} (f : ℕ → X) (i : ℕ) (x : X) (k : ℕ) → (k ≡ i → ⊥) → changed f i x k ≡ f k
changed_off f i x k ne = rw (ne_eqb k i ne)

-- a write of what was there
pub changed_same : {X : Type 0} (f : ℕ → X) (i : ℕ) (x : X) (k : ℕ) → x ≡ f i → changed f i x k ≡ f k
changed_same f i x k h = ⊎_elim (λ e. changed_at f i x k e ∙ h ∙ ap f (sym e)) (changed_off f i x k) (cases_eq k i)

-- no option is both none and some
pub none_some : {X : Type 0} (o : Option X) (x : X) → o ≡ None → o ≡ Some x → ⊥
none_some o x n s = cc

pub cases_option : {X : Type 0} (o : Option X) → (o ≡ None) ⊎ ((x : X) × (o ≡ Some x))
cases_option None = inl refl
cases_option (Some x) = inr (x, refl)
