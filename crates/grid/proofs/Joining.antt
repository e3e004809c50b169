-- The ten directions lead to exactly the places that a step joins.
use Rattle.std.proofs.Common.{◌≡◌, ℕ, ◌+◌, ◌<◌, ltb, ◌↔◌, Some, None, Option, sym, refl, ap, ◌∙◌, subst, inl, inr, ⊎_elim, arith}
use Rattle.std.proofs.lemmas.Bool.{cases_lt, lt-ltb, le-ltb, cond-true, cond-false}
use Rattle.std.proofs.lemmas.Bool.Decides.{nat_tests}
use Rattle.grid.specs.declared.shape.Shape.{Shape}
use Rattle.grid.specs.declared.shape.Coordinates.{Coordinates}
use Rattle.grid.specs.declared.step.Step.{Step}
use Rattle.grid.specs.declared.step.Step.TheVariants.{Straight, Diagonal, Via}
use Rattle.grid.specs.declared.step.Direction.{Direction}
use Rattle.grid.specs.declared.step.Direction.TheVariants.{West, East, North, South, NorthWest, NorthEast, SouthWest, SouthEast, Up, Down}
use Rattle.grid.specs.Places.{count_of, coordinates, Inside, number_of, column_of, row_of, layer_of, coordinates_of}
use Rattle.grid.specs.Steps.{Meets, Joins, Move, Back, Stay, Forth, moved, Way, way, kind, order, number_at, beyond, neighbour_of, Among, Distinct, DirectionsAreExact}
use Rattle.grid.proofs.Numbering.{some_none, number_below, coordinates_at, inside_of, number_again}

-- what a move makes of a number
abbrev Shift : Move → ℕ → ℕ → Type 0
Shift Back x y = x ≡ y + 1
Shift Stay x y = x ≡ y
Shift Forth x y = y ≡ x + 1

moved_is : (m : Move) (x y n : ℕ) → x < n → moved m x n ≡ Some y → Shift m x y × (y < n)
moved_is m x y n h e = grind (arith, nat_tests)

moved_from : (m : Move) (x y n : ℕ) → y < n → Shift m x y → moved m x n ≡ Some y
moved_from m x y n h e = grind (arith, nat_tests)

shift_one : (m n : Move) (x y : ℕ) → Shift m x y → Shift n x y → m ≡ n
shift_one m n x y e f = grind arith

-- the moves w lead from the place p to the place q
record Leads (s : Shape) (p q : ℕ) (w : Way) : Type 0 where
  from : p < count_of s
  to : q < count_of s
  across : Shift w.across (column_of s p) (column_of s q)
  along : Shift w.along (row_of s p) (row_of s q)
  through : Shift w.through (layer_of s p) (layer_of s q)

record Found (s : Shape) (q : ℕ) (c r l : Option ℕ) : Type 0 where
  at : Coordinates
  column : c ≡ Some at.column
  row : r ≡ Some at.row
  layer : l ≡ Some at.layer
  number : number_of s at ≡ q

found : (s : Shape) (q : ℕ) (c r l : Option ℕ) → number_at s c r l ≡ Some q → Found s q c r l
found s q None r l e = cc
found s q (Some c) None l e = cc
found s q (Some c) (Some r) None e = cc
found s q (Some c) (Some r) (Some l) e = record { at = coordinates c r l; column = refl; row = refl; layer = refl; number = cc }

leads : (s : Shape) (p q : ℕ) (d : Direction) → neighbour_of s p d ≡ Some q → Leads s p q (way d)
unfolding neighbour_of
leads s p q d e = ⊎_elim
    (λ h. here h (inside_of s p h) (sym (cond-true (ltb p (count_of s)) _ _ (lt-ltb _ _ h)) ∙ e))
    (λ h. some_none (sym e ∙ cond-false (ltb p (count_of s)) _ _ (le-ltb _ _ h)))
    (cases_lt p (count_of s))
  where
    here : p < count_of s → Inside s (coordinates_of s p) → beyond s (coordinates_of s p) (way d) ≡ Some q → Leads s p q (way d)
    here h i e =
        let f = found s q (moved (way d).across (column_of s p) s.columns) (moved (way d).along (row_of s p) s.rows) (moved (way d).through (layer_of s p) s.layers) e in
        let (c, cl) = moved_is (way d).across (column_of s p) f.at.column s.columns i.column f.column in
        let (r, rl) = moved_is (way d).along (row_of s p) f.at.row s.rows i.row f.row in
        let (l, ll) = moved_is (way d).through (layer_of s p) f.at.layer s.layers i.layer f.layer in
        let inside : Inside s f.at = record { column = cl; row = rl; layer = ll } in
        let there : f.at ≡ coordinates_of s q = sym (coordinates_at s f.at inside) ∙ ap (coordinates_of s) f.number in
        record {
          from = h;
          to = subst (λ n. n < count_of s) f.number (number_below s f.at inside);
          across = subst (λ (x : Coordinates). Shift (way d).across (column_of s p) x.column) there c;
          along = subst (λ (x : Coordinates). Shift (way d).along (row_of s p) x.row) there r;
          through = subst (λ (x : Coordinates). Shift (way d).through (layer_of s p) x.layer) there l;
        }

led : (s : Shape) (p q : ℕ) (d : Direction) → Leads s p q (way d) → neighbour_of s p d ≡ Some q
unfolding neighbour_of
led s p q d t =
    let i = inside_of s q t.to in
    let n = number_again s q in
    grind (arith, nat_tests)

one_direction : (s : Shape) (p q : ℕ) (d e : Direction) → neighbour_of s p d ≡ Some q → neighbour_of s p e ≡ Some q → d ≡ e
one_direction s p q d e f g =
    let x = leads s p q d f in
    let y = leads s p q e g in
    grind arith

-- a direction's neighbour is joined by a step of its kind
meets : (s : Shape) (p q : ℕ) (d : Direction) → Leads s p q (way d) → Meets (kind d) (coordinates_of s p) (coordinates_of s q)
meets s p q d t = grind arith

abbrev Directed : Shape → Step → ℕ → ℕ → Type 0
Directed s k p q = (d : Direction) × (kind d ≡ k) × (neighbour_of s p d ≡ Some q)

joins_from : (s : Shape) (p q : ℕ) (k : Step) → Directed s k p q → Joins s k p q
joins_from s p q k (d, e, f) =
    let t = leads s p q d f in
    record { from = t.from; to = t.to; meets = subst (λ j. Meets j (coordinates_of s p) (coordinates_of s q)) e (meets s p q d t) }

module _ (s : Shape) (p q : ℕ) (from : p < count_of s) (to : q < count_of s) where
  lead : (d : Direction) → Shift (way d).across (column_of s p) (column_of s q) → Shift (way d).along (row_of s p) (row_of s q) →
      Shift (way d).through (layer_of s p) (layer_of s q) → Directed s (kind d) p q
  lead d a b c = (d, refl, led s p q d (record { from = from; to = to; across = a; along = b; through = c }))

  directed : (k : Step) → Meets k (coordinates_of s p) (coordinates_of s q) → Directed s k p q
  directed Straight (l, inl (r, inl c)) = lead West c r l
  directed Straight (l, inl (r, inr c)) = lead East c r l
  directed Straight (l, inr (c, inl r)) = lead North c r l
  directed Straight (l, inr (c, inr r)) = lead South c r l
  directed Diagonal (l, inl c, inl r) = lead NorthWest c r l
  directed Diagonal (l, inr c, inl r) = lead NorthEast c r l
  directed Diagonal (l, inl c, inr r) = lead SouthWest c r l
  directed Diagonal (l, inr c, inr r) = lead SouthEast c r l
  directed Via (c, r, inl l) = lead Up c r l
  directed Via (c, r, inr l) = lead Down c r l

pub joined : (s : Shape) (p q : ℕ) (k : Step) → Joins s k p q ↔ Directed s k p q
joined s p q k = (λ j. directed s p q j.from j.to k j.meets, joins_from s p q k)

pub joins_back : (s : Shape) (p q : ℕ) (k : Step) → Joins s k p q → Joins s k q p
joins_back s p q k j = grind arith

pub one_kind : (s : Shape) (p q : ℕ) (j k : Step) → Joins s j p q → Joins s k p q → j ≡ k
one_kind s p q j k a b = grind arith

every : (d : Direction) → Among d order
every d = grind arith

distinct : Distinct order
distinct = grind arith

pub exact : DirectionsAreExact
exact = record { all = every; distinct = distinct; joined = joined; once = one_direction; symmetric = joins_back; one_kind = one_kind }
