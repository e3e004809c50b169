-- The whole trace.
use Rattle.std.proofs.Common.{◌≡◌, ℕ, zero, suc, ◌≤◌, Bool, true, false, leb, List, [], ◌∷◌, reverse, length, take, Some, None, Ok, Option, Result, sym, subst, refl, ap, ◌∙◌, arith}
use Rattle.grid.specs.declared.shape.Shape.{Shape}
use Rattle.grid.specs.Faults.{Refusal, refusal}
use Rattle.grid.specs.Places.{count_of}
use Rattle.tariff.specs.Rates.{Rates}
use Rattle.model.specs.Sheets.{Ground, ask}
use Rattle.route.specs.Hops.{Hop}
use Rattle.route.specs.Paths.{maze, label_of}
use Rattle.route.specs.Search.{Maze}
use Rattle.route.specs.Wire.{back, on_back, trace_back}
use Rattle.wave.specs.declared.connection.Connection.{Connection}
use Rattle.wave.specs.Questions.{refused_by}
use Rattle.trace.specs.Trace.{traced, trace_asks}
use Rattle.trace.specs.Walk.{ways}

-- which places are open does not matter to a trace
trace_ways : {C : Type 0} (t : Rates C) (g : Ground) (n start : ℕ) (f : ℕ → Option C) (k p : ℕ) → trace_back t (maze g n start) f k p ≡ trace_back t (ways g.shape start) f k p
unfolding trace_back
trace_ways t g n start f zero p = refl
trace_ways t g n start f (suc k) p = ap (λ r. p ∷ r) (go (λ q. trace_ways t g n start f k q) (back t (maze g n start) f p))
  where
    go : ((q : ℕ) → trace_back t (maze g n start) f k q ≡ trace_back t (ways g.shape start) f k q) → (o : Option Hop) →
        on_back o (trace_back t (maze g n start) f k) ≡ on_back o (trace_back t (ways g.shape start) f k)
    go ih None = refl
    go ih (Some h) = ih h.to

-- a trace of at most n steps has at most n + 1 places
pub trace_short : {C : Type 0} (t : Rates C) (m : Maze) (f : ℕ → Option C) (n p : ℕ) → length (trace_back t m f n p) ≤ suc n
unfolding trace_back
trace_short t m f zero p = omega arith
trace_short t m f (suc n) p = go (λ q. trace_short t m f n q) (back t m f p)
  where
    go : ((q : ℕ) → length (trace_back t m f n q) ≤ suc n) → (o : Option Hop) → length (p ∷ on_back o (trace_back t m f n)) ≤ suc (suc n)
    go ih None = omega arith
    go ih (Some h) = omega (arith, ih h.to)

-- there is a label for each place
passed : (b : Bool) (f : Refusal) → ◌≡◌ {A = Result (Unit {0}) Refusal} (Ok tt) (ask b f (Ok tt)) → refused_by (record { holds = b; refuses = f } ∷ []) ≡ None
passed true f e = refl
passed false f e = let z : ◌≡◌ {A = ℕ} 0 1 = cc in absurd (omega arith)

pub enough : (g : Ground) (s : Shape) (entries : ℕ) → s ≡ g.shape → ◌≡◌ {A = Result (Unit {0}) Refusal} (Ok tt) (ask (leb (count_of s) entries) (refusal 2 (count_of s)) (Ok tt)) →
    refused_by (trace_asks g entries) ≡ None
enough g s entries e h = subst (λ z. refused_by (trace_asks (record g { shape = z }) entries) ≡ None) e (passed (leb (count_of s) entries) (refusal 2 (count_of s)) h)

-- the trace as the code begins it
pub traced_is : {C : Type 0} (t : Rates C) (g : Ground) (j : Connection) (ls : List (Option C)) (s : Shape) (k : ℕ) → s ≡ g.shape → k ≡ count_of g.shape →
    traced t g j ls ≡ reverse (trace_back t (ways s j.start) (label_of (take k ls)) 2097152 j.goal)
traced_is t g j ls s k es ek =
    ap reverse (trace_ways t g j.net j.start (label_of (take (count_of g.shape) ls)) 2097152 j.goal)
    ∙ sym (λ i. reverse (trace_back t (ways (es i) j.start) (label_of (take (ek i) ls)) 2097152 j.goal))
