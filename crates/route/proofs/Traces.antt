-- The trace as a path of hops.
use Rattle.std.specs.Prelude.{◌≡◌, ℕ, zero, suc, ◌<◌, true, List, [], ◌∷◌, Some, None, Option, ◌≢◌}
use Rattle.tariff.specs.Rates.{Rates}
use Rattle.route.proofs.Lawful.{Lawful}
use Rattle.route.specs.Hops.{Hop}
use Rattle.route.specs.Search.{Maze, Route, cost, least}
use Rattle.route.specs.Wire.{accounts, back, Known}

abbrev pub hang : ℕ → Option Hop → (ℕ → List Hop) → List Hop
hang p None rest = []
hang p (Some h) rest = (record { by = h.by; to = p }) ∷ rest h.to

-- at most n steps back from p
unfoldable pub trace : {C : Type 0} → Rates C → Maze → (ℕ → Option C) → ℕ → ℕ → List Hop
trace t m f zero p = []
trace t m f (suc n) p = hang p (back t m f p) (trace t m f n)

-- the places of a path, the last one first
abbrev pub visited : Maze → List Hop → List ℕ
visited m [] = m.start ∷ []
visited m (h ∷ w) = h.to ∷ visited m w

-- the trace from p to the start comes to these places
pub data Goes {C : Type 0} (t : Rates C) (m : Maze) (f : ℕ → Option C) : ℕ → List ℕ → Type 0 where
  here : (p : ℕ) (c : C) → f p ≡ Some c → p ≡ m.start → Goes t m f p (p ∷ [])
  goes : (p : ℕ) (c : C) (h : Hop) (ps : List ℕ) → f p ≡ Some c → (p ≢ m.start) → accounts t f (Some c) (m.around p) ≡ Some h → Goes t m f h.to ps → Goes t m f p (p ∷ ps)

-- the places that can be passed are numbered below `limit`
abbrev pub Numbered : Maze → ℕ → Type 0
Numbered m limit = (p : ℕ) → m.free p ≡ true → p < limit

-- The trace is a legal path from the start to the goal, at the goal's least cost.
abbrev pub TraceIsLeast : Type 0 → Type 0
TraceIsLeast C = (t : Rates C) (m : Maze) (limit goal : ℕ) (f : ℕ → Option C) (c : C) → Lawful t limit → Numbered m limit →
    Known t m limit f → f goal ≡ Some c →
    Route t.has m limit goal (trace t m f limit goal) × (cost t (trace t m f limit goal) ≡ Some c)

-- Over such costs the wire is the same.
abbrev pub TraceIsSame : Type 0 → Type 0
TraceIsSame C = (t : Rates C) (m : Maze) (limit goal : ℕ) (f : ℕ → Option C) (c : C) → Lawful t limit → Known t m limit f →
    f goal ≡ Some c → (n : ℕ) → trace t m f n goal ≡ trace t m (least t m limit) n goal

abbrev pub LeastIsKnown : Type 0 → Type 0
LeastIsKnown C = (t : Rates C) (m : Maze) (limit : ℕ) → Lawful t limit → Known t m limit (least t m limit)

abbrev pub TraceGoes : Type 0 → Type 0
TraceGoes C = (t : Rates C) (m : Maze) (limit goal : ℕ) (f : ℕ → Option C) (c : C) → Lawful t limit → Numbered m limit →
    Known t m limit f → f goal ≡ Some c → Goes t m f goal (visited m (trace t m f limit goal))
