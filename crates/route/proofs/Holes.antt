-- A list of different numbers below n has at most n of them. Assumes nothing.
use Rattle.std.proofs.Common.{◌≡◌, ℕ, zero, suc, ◌<◌, ◌≤◌, ◌≢◌, ◌⊎◌, List, [], ◌∷◌, length, sym, refl, ◌∙◌, subst, inl, inr, arith}
use Rattle.std.proofs.lemmas.Bool.{cases_eq}
use Rattle.route.specs.Listed.{On, NoneTwice}

pub in? : (p : ℕ) (xs : List ℕ) → On p xs ⊎ (On p xs → ⊥)
in? p [] = inr (λ i. i)
in? p (x ∷ xs) = go (cases_eq p x) (in? p xs)
  where
    go : (p ≡ x) ⊎ (p ≡ x → ⊥) → On p xs ⊎ (On p xs → ⊥) → On p (x ∷ xs) ⊎ (On p (x ∷ xs) → ⊥)
    go (inl e) r = inl (inl e)
    go (inr n) (inl i) = inl (inr i)
    go (inr n) (inr k) = inr (λ i. elim i [ inl e ↦ n e | inr j ↦ k j ])

-- xs with one n, the first, taken out
pub record Less (n : ℕ) (xs : List ℕ) : Type 0 where
  pub rest : List ℕ
  pub count : length xs ≤ suc (length rest)
  pub apart : NoneTwice rest
  pub held : (p : ℕ) → On p rest → On p xs × (p ≢ n)

less_one : (n : ℕ) (xs : List ℕ) → NoneTwice xs → Less n xs
less_one n [] d = record { rest = []; count = omega arith; apart = tt; held = λ p i. absurd i }
less_one n (x ∷ xs) d = go (cases_eq x n) (less_one n xs d.1)
  where
    go : (x ≡ n) ⊎ (x ≡ n → ⊥) → Less n xs → Less n (x ∷ xs)
    go (inl e) r = record { rest = xs; count = omega arith; apart = d.1; held = λ p i. (inr i, λ pn. d.0 (subst (λ z. On z xs) (pn ∙ sym e) i)) }
    go (inr k) r =
        let many : length xs ≤ suc (length r.rest) = r.count in
        record {
          rest = x ∷ r.rest;
          count = omega arith;
          apart = (λ i. d.0 (r.held x i).0, r.apart);
          held = λ p i. elim i [ inl e ↦ (inl e, λ pn. k (sym e ∙ pn)) | inr j ↦ (inr (r.held p j).0, (r.held p j).1) ];
        }

pub holes : (n : ℕ) (xs : List ℕ) → NoneTwice xs → ((p : ℕ) → On p xs → p < n) → length xs ≤ n
holes zero [] d b = omega arith
holes zero (x ∷ xs) d b = let h : x < 0 = b x (inl refl) in absurd (omega arith)
holes (suc n) xs d b =
    let r = less_one n xs d in
    let ih : length r.rest ≤ n = holes n r.rest r.apart (λ p i. let (j, k) = r.held p i in let h : p < suc n = b p j in omega arith) in
    let many : length xs ≤ suc (length r.rest) = r.count in
    omega arith
