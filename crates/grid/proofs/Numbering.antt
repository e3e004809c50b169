-- The numbering of places is one-to-one, and how large the numbers are.
use Rattle.std.proofs.Common.{◌≡◌, ℕ, ◌+◌, ◌*◌, ◌/◌, ◌%◌, ◌<◌, ◌≤◌, ltb, Some, None, sym, ap, ◌∙◌, subst, ⊎_elim, arith}
use lib.Arith.{digits_lt}
use Rattle.std.proofs.lemmas.Nat.{mul-le, div-add-mod', div_below, mod_below, div-mul-add, mod-mul-add}
use Rattle.std.proofs.lemmas.Bool.{lt-ltb, le-ltb, cases_lt, cond-true, cond-false}
use Rattle.grid.specs.declared.shape.Shape.{Shape}
use Rattle.grid.specs.declared.shape.Coordinates.{Coordinates}
use Rattle.grid.specs.Places.{count_of, Inside, number_of, column_of, row_of, layer_of, coordinates_of, coordinates_answer, OneToOne}

-- what is there is not absent
pub some_none : {C : Type 0} {A : Type 0} {c : C} → Some c ≡ None → A
some_none e = cc

pub lines_most : (s : Shape) → s.layers * s.rows ≤ 4096
lines_most s = mul-le s.layers s.rows 8 512 s.deep.1 s.tall.1

pub count_most : (s : Shape) → count_of s ≤ 2097152
count_most s = mul-le (s.layers * s.rows) s.columns 4096 512 (lines_most s) s.wide.1

pub line_below : (s : Shape) (x : Coordinates) → Inside s x → x.layer * s.rows + x.row < s.layers * s.rows
line_below s x i = digits_lt i.layer i.row

pub number_below : (s : Shape) (x : Coordinates) → Inside s x → number_of s x < count_of s
number_below s x i = digits_lt (line_below s x i) i.column

-- the column, the row and the layer of a place's number are the place's
pub column_at : (s : Shape) (x : Coordinates) → Inside s x → column_of s (number_of s x) ≡ x.column
column_at s x i = mod-mul-add (x.layer * s.rows + x.row) s.columns x.column i.column

line_at : (s : Shape) (x : Coordinates) → Inside s x → number_of s x / s.columns ≡ x.layer * s.rows + x.row
line_at s x i = div-mul-add (x.layer * s.rows + x.row) s.columns x.column i.column

pub row_at : (s : Shape) (x : Coordinates) → Inside s x → row_of s (number_of s x) ≡ x.row
row_at s x i = ap (λ n. n % s.rows) (line_at s x i) ∙ mod-mul-add x.layer s.rows x.row i.row

pub layer_at : (s : Shape) (x : Coordinates) → Inside s x → layer_of s (number_of s x) ≡ x.layer
layer_at s x i = ap (λ n. n / s.rows) (line_at s x i) ∙ div-mul-add x.layer s.rows x.row i.row

pub coordinates_at : (s : Shape) (x : Coordinates) → Inside s x → coordinates_of s (number_of s x) ≡ x
coordinates_at s x i = λ j. record { column = column_at s x i j; row = row_at s x i j; layer = layer_at s x i j }

-- a number below the count is that of the place at its column, row and layer
pub column_below : (s : Shape) (p : ℕ) → column_of s p < s.columns
column_below s p = mod_below p s.columns (omega (arith, s.wide.0))

pub row_below : (s : Shape) (p : ℕ) → row_of s p < s.rows
row_below s p = mod_below (p / s.columns) s.rows (omega (arith, s.tall.0))

pub layer_below : (s : Shape) (p : ℕ) → p < count_of s → layer_of s p < s.layers
layer_below s p h =
    div_below (p / s.columns) s.rows s.layers (omega (arith, s.tall.0))
    (div_below p s.columns (s.layers * s.rows) (omega (arith, s.wide.0)) h)

pub inside_of : (s : Shape) (p : ℕ) → p < count_of s → Inside s (coordinates_of s p)
inside_of s p h = record { column = column_below s p; row = row_below s p; layer = layer_below s p h }

pub number_again : (s : Shape) (p : ℕ) → number_of s (coordinates_of s p) ≡ p
number_again s p = rw (div-add-mod' (p / s.columns) s.rows) (div-add-mod' p s.columns)

-- what an answered question for coordinates tells
pub record Located (s : Shape) (p : ℕ) (x : Coordinates) : Type 0 where
  pub below : p < count_of s
  pub is : x ≡ coordinates_of s p
  pub number : p ≡ number_of s x
  pub inside : Inside s x

pub located : (s : Shape) (p : ℕ) (x : Coordinates) → Some x ≡ coordinates_answer s p → Located s p x
located s p x e = ⊎_elim
    (λ h.
    let f : Some x ≡ Some (coordinates_of s p) = e ∙ cond-true (ltb p (count_of s)) _ _ (lt-ltb _ _ h) in
    let is : x ≡ coordinates_of s p = cc in
    record {
      below = h;
      is = is;
      number = sym (number_again s p) ∙ ap (number_of s) (sym is);
      inside = subst (Inside s) (sym is) (inside_of s p h);
    })
    (λ h. let f : Some x ≡ None = e ∙ cond-false (ltb p (count_of s)) _ _ (le-ltb _ _ h) in some_none f)
    (cases_lt p (count_of s))

pub one_to_one : (s : Shape) → OneToOne s
one_to_one s = record {
  below = number_below s;
  once = λ x y i j e. sym (coordinates_at s x i) ∙ ap (coordinates_of s) e ∙ coordinates_at s y j;
  each = λ p h. (inside_of s p h, number_again s p);
}
