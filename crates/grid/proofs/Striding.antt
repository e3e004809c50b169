-- The neighbours of a place, by strides on its number.
use Rattle.std.proofs.Common.{◌≡◌, ℕ, ◌+◌, ◌*◌, ◌<◌, ltb, Some, None, Option, sym, refl, ap, ◌∙◌, subst, mul_comm, add-mul, arith}
use Rattle.std.proofs.lemmas.Bool.Decides.{nat_tests}
use Rattle.std.proofs.lemmas.Bool.{lt-ltb, cond-true}
use Rattle.grid.specs.declared.shape.Shape.{Shape}
use Rattle.grid.specs.declared.shape.Coordinates.{Coordinates}
use Rattle.grid.specs.declared.site.Site.{Site}
use Rattle.grid.specs.declared.step.Direction.{Direction}
use Rattle.grid.specs.Places.{count_of, coordinates, Inside, number_of, coordinates_of}
use Rattle.grid.specs.Steps.{Move, Way, way, moved, number_at, beyond, neighbour_of}
use Rattle.grid.specs.Strides.{slide, strides}
use Rattle.grid.proofs.Numbering.{number_below, count_most, coordinates_at}

pub inside_site : (x : Site) → Inside x.shape x.at
inside_site x = record { column = x.inside.0; row = x.inside.1; layer = x.inside.2 }

pub site_below : (x : Site) → x.place < count_of x.shape
site_below x = subst (λ n. n < count_of x.shape) (sym x.numbered) (number_below x.shape x.at (inside_site x))

-- one more in each coordinate adds its stride to the number
row_stride : (s : Shape) (c r l : ℕ) → number_of s (coordinates c (r + 1) l) ≡ number_of s (coordinates c r l) + s.columns
row_stride s c r l = omega (arith, add-mul (l * s.rows + r) 1 s.columns, ap (λ n. n * s.columns) (line l r))
  where
    line : (l r : ℕ) → l * s.rows + (r + 1) ≡ l * s.rows + r + 1
    line l r = omega arith

layer_stride : (s : Shape) (c r l : ℕ) → number_of s (coordinates c r (l + 1)) ≡ number_of s (coordinates c r l) + s.columns * s.rows
layer_stride s c r l =
    omega (arith, ap (λ n. n * s.columns) (line l r), add-mul (l * s.rows + r) s.rows s.columns, mul_comm s.rows s.columns)
  where
    line : (l r : ℕ) → (l + 1) * s.rows + r ≡ l * s.rows + r + s.rows
    line l r = omega (arith, add-mul l 1 s.rows)

pub site_small : (x : Site) → x.place < 2097152
site_small x = omega (arith, site_below x, count_most x.shape)

abbrev onto : (ℕ → ℕ) → Option ℕ → Option ℕ
onto f None = None
onto f (Some x) = Some (f x)

-- a move of a coordinate, seen on numbers that grow with it by a stride
moved_by : (f : ℕ → ℕ) (stride : ℕ) → ((n : ℕ) → f (n + 1) ≡ f n + stride) → (m : Move) (x bound : ℕ) → slide m x bound stride (Some (f x)) ≡ onto f (moved m x bound)
moved_by f stride e m x bound = grind (arith, nat_tests, e)

slide_none : (m : Move) (x bound stride : ℕ) → slide m x bound stride None ≡ None
slide_none m x bound stride = grind arith

module _ (s : Shape) where
  through : (c r l : ℕ) (m : Move) → slide m l s.layers (s.columns * s.rows) (Some (number_of s (coordinates c r l))) ≡ number_at s (Some c) (Some r) (moved m l s.layers)
  through c r l m = moved_by (λ n. number_of s (coordinates c r n)) (s.columns * s.rows) (layer_stride s c r) m l s.layers ∙ out (moved m l s.layers)
    where
      out : (o : Option ℕ) → onto (λ n. number_of s (coordinates c r n)) o ≡ number_at s (Some c) (Some r) o
      out None = refl
      out (Some n) = refl

  along : (c r l : ℕ) (m n : Move) →
      slide n l s.layers (s.columns * s.rows) (slide m r s.rows s.columns (Some (number_of s (coordinates c r l)))) ≡
      number_at s (Some c) (moved m r s.rows) (moved n l s.layers)
  along c r l m n =
      ap (slide n l s.layers (s.columns * s.rows)) (moved_by (λ k. number_of s (coordinates c k l)) s.columns (λ k. row_stride s c k l) m r s.rows) ∙
      out (moved m r s.rows)
    where
      out : (o : Option ℕ) → slide n l s.layers (s.columns * s.rows) (onto (λ k. number_of s (coordinates c k l)) o) ≡ number_at s (Some c) o (moved n l s.layers)
      out None = slide_none n l s.layers (s.columns * s.rows)
      out (Some k) = through c k l n

  across : (x : Coordinates) (w : Way) → strides s x (number_of s x) w ≡ beyond s x w
  across x w =
      ap (λ o. slide w.through x.layer s.layers (s.columns * s.rows) (slide w.along x.row s.rows s.columns o))
      (moved_by (λ k. number_of s (coordinates k x.row x.layer)) 1 (λ k. omega arith) w.across x.column s.columns) ∙
      out (moved w.across x.column s.columns)
    where
      out : (o : Option ℕ) →
          slide w.through x.layer s.layers (s.columns * s.rows) (slide w.along x.row s.rows s.columns (onto (λ k. number_of s (coordinates k x.row x.layer)) o)) ≡
          number_at s o (moved w.along x.row s.rows) (moved w.through x.layer s.layers)
      out None = ap (slide w.through x.layer s.layers (s.columns * s.rows)) (slide_none w.along x.row s.rows s.columns) ∙ slide_none w.through x.layer s.layers (s.columns * s.rows)
      out (Some k) = along k x.row x.layer w.along w.through

-- A place's neighbour is found by strides.
pub neighbour_strides : (x : Site) (d : Direction) → neighbour_of x.shape x.place d ≡ strides x.shape x.at x.place (way d)
unfolding neighbour_of
neighbour_strides x d =
    cond-true (ltb x.place (count_of x.shape)) _ _ (lt-ltb _ _ (site_below x)) ∙
    ap (λ y. beyond x.shape y (way d)) (ap (coordinates_of x.shape) x.numbered ∙ coordinates_at x.shape x.at (inside_site x)) ∙
    sym (across x.shape x.at (way d)) ∙
    ap (λ p. strides x.shape x.at p (way d)) (sym x.numbered)
