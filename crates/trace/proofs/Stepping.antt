-- One step of the trace.
use Rattle.std.proofs.Common.{◌≡◌, ℕ, zero, suc, ◌-◌, ◌<◌, ◌≤◌, Bool, true, false, cond, ltb, List, [], ◌∷◌, length, Some, None, Option, sym, refl, ap, ◌∙◌, arith}
use Rattle.std.specs.Option.{option_or}
use Rattle.std.proofs.lemmas.Bool.{le-ltb, cond-false}
use Rattle.grid.specs.declared.shape.Shape.{Shape}
use Rattle.grid.specs.declared.step.Direction.{Direction}
use Rattle.grid.specs.Places.{count_of, coordinates_of}
use Rattle.grid.specs.Steps.{kind, way, beyond, neighbour_of}
use Rattle.tariff.specs.Rates.{Rates}
use Rattle.route.specs.Hops.{Hop, hop, put_in, gather}
use Rattle.route.specs.Paths.{label_of}
use Rattle.route.specs.Search.{Maze, onward}
use Rattle.route.specs.Wire.{is_cost, first, back, on_back, trace_back}
use Rattle.trace.proofs.Finding.{first_some}
use Rattle.trace.specs.Walk.{place_of, if_accounts, accounting_for, ways, to_come}

-- the first hop that accounts for a cost, direction by direction
first_is : {C : Type 0} (t : Rates C) (f : ℕ → Option C) (c : C) (s : Shape) (p : ℕ) (ds : List Direction) → first_some (accounting_for t f c s p) ds ≡ place_of (first t f c (gather s p ds))
unfolding gather
first_is t f c s p [] = refl
first_is {C} t f c s p (d ∷ ds) = go (first_is t f c s p ds) (neighbour_of s p d)
  where
    tested : (q : ℕ) (b : Bool) → first_some (accounting_for t f c s p) ds ≡ place_of (first t f c (gather s p ds)) →
        option_or (cond b (Some q) None) (first_some (accounting_for t f c s p) ds) ≡ place_of (cond b (Some (hop (kind d) q)) (first t f c (gather s p ds)))
    tested q true ih = refl
    tested q false ih = ih

    go : first_some (accounting_for t f c s p) ds ≡ place_of (first t f c (gather s p ds)) → (o : Option ℕ) →
        option_or (if_accounts t f c (kind d) o) (first_some (accounting_for t f c s p) ds) ≡ place_of (first t f c (put_in (kind d) o (gather s p ds)))
    go ih None = ih
    go ih (Some q) = tested q (is_cost t (onward t (f q) (kind d)) c) ih

pub first_along : {C : Type 0} (t : Rates C) (f : ℕ → Option C) (c : C) {s s' : Shape} {p p' : ℕ} {ds ds' : List Direction} → s ≡ s' → p ≡ p' → ds ≡ ds' →
    first_some (accounting_for t f c s p) ds ≡ place_of (first t f c (gather s' p' ds'))
first_along t f c {s} {s'} {p} {p'} {ds} {ds'} es ep ed = (λ i. first_some (accounting_for t f c (es i) (ep i)) (ed i)) ∙ first_is t f c s' p' ds'

-- a place outside the shape has no neighbours
pub gather_outside : (s : Shape) (p : ℕ) → count_of s ≤ p → (ds : List Direction) → gather s p ds ≡ []
unfolding gather neighbour_of
gather_outside s p l [] = refl
gather_outside s p l (d ∷ ds) =
    ap (λ o. put_in (kind d) o (gather s p ds)) (cond-false (ltb p (count_of s)) (beyond s (coordinates_of s p) (way d)) None (le-ltb p (count_of s) l))
    ∙ gather_outside s p l ds

-- the trace stops where no step is left, and else goes on from the place before
trace_none : {C : Type 0} (t : Rates C) (m : Maze) (f : ℕ → Option C) (n p : ℕ) → n ≡ 0 → trace_back t m f n p ≡ p ∷ []
unfolding trace_back
trace_none t m f zero p e = refl
trace_none t m f (suc n) p e = absurd (omega arith)

trace_more : {C : Type 0} (t : Rates C) (m : Maze) (f : ℕ → Option C) (n p : ℕ) → 0 < n → trace_back t m f n p ≡ p ∷ on_back (back t m f p) (trace_back t m f (n - 1))
unfolding trace_back
trace_more t m f zero p l = absurd (omega arith)
trace_more t m f (suc n) p l = let e : suc n - 1 ≡ n = omega arith in ap (λ k. p ∷ on_back (back t m f p) (trace_back t m f k)) (sym e)

module _ {C : Type 0} (t : Rates C) (s : Shape) (start : ℕ) (ls : List (Option C)) where
  on_to_come : (o : Option Hop) (n : ℕ) → on_back o (trace_back t (ways s start) (label_of ls) n) ≡ to_come t s start ls (place_of o) n
  on_to_come None n = refl
  on_to_come (Some h) n = refl

  pub comes_last : (o : Option ℕ) (n p : ℕ) → o ≡ Some p → n ≡ 0 → to_come t s start ls o n ≡ p ∷ []
  comes_last o n p e z = ap (λ x. to_come t s start ls x n) e ∙ trace_none t (ways s start) (label_of ls) n p z

  pub comes_next : (o : Option ℕ) (n p : ℕ) (q : Option ℕ) → o ≡ Some p → 0 < n → q ≡ place_of (back t (ways s start) (label_of ls) p) →
      to_come t s start ls o n ≡ p ∷ to_come t s start ls q (n - 1)
  comes_next o n p q e l b =
      ap (λ x. to_come t s start ls x n) e ∙ trace_more t (ways s start) (label_of ls) n p l
      ∙ ap (λ r. p ∷ r) (on_to_come (back t (ways s start) (label_of ls) p) (n - 1) ∙ ap (λ x. to_come t s start ls x (n - 1)) (sym b))

-- what is given is one less to come
pub fewer : {ps qs : List ℕ} {p : ℕ} → ps ≡ p ∷ qs → length qs < length ps
fewer {ps} {qs} e = let l : length ps ≡ suc (length qs) = ap length e in omega arith
