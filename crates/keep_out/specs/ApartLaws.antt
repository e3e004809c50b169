-- What rows keep out is exactly what lies in a rectangle among them.
use Rattle.std.proofs.Common.{◌≡◌, ℕ, Bool, true, false, ◌↔◌, List, [], ◌∷◌, sym, refl, ◌∙◌, subst, inl, inr, ⊎_elim, arith}
use Rattle.std.proofs.lemmas.Bool.{and_parts, and_from, or_cases, or_parts, cases_Bool, both_ways, not-true, not_from_false}
use Rattle.std.proofs.lemmas.Bool.Decides.{nat_tests}
use Rattle.grid.specs.declared.shape.Coordinates.{Coordinates}
use Rattle.grid.specs.Places.{coordinates_of}
use Rattle.model.specs.Sheets.{Ground}
use Rattle.keep_out.specs.declared.rectangle.Rectangle.{Rectangle}
use Rattle.keep_out.specs.declared.row.Row.{Row}
use Rattle.keep_out.specs.Rectangles.{row_of, is_rectangle, is_within, has_in, LiesIn}
use Rattle.keep_out.specs.KeptOut.{kept_out, is_apart, apart_ground, Holds, OpenApart}

module _ (r : Rectangle) where
  has_rectangle : (p : Coordinates) → LiesIn r p → has_in (row_of r) p ≡ true
  has_rectangle p i =
      let a = r.across in
      let b = r.along in
      let c = i.across in
      let d = i.along in
      grind (arith, nat_tests)

  lies_in : (p : Coordinates) → is_within (row_of r) p ≡ true → LiesIn r p
  lies_in p h = record { layer = grind (arith, nat_tests); across = (grind (arith, nat_tests), grind (arith, nat_tests)); along = (grind (arith, nat_tests), grind (arith, nat_tests)) }

rectangle_of : (x : Row) → is_rectangle x ≡ true → Rectangle
rectangle_of x h = record {
  layer = x.layer;
  left = x.left;
  top = x.top;
  right = x.right;
  bottom = x.bottom;
  deep = grind (arith, nat_tests);
  across = (grind (arith, nat_tests), grind (arith, nat_tests));
  along = (grind (arith, nat_tests), grind (arith, nat_tests));
}

-- the rectangle among the rows that has the coordinates in it
holds_in : (xs : List Row) (p : Coordinates) → kept_out xs p ≡ true → (r : Rectangle) × Holds xs r × LiesIn r p
unfolding rectangle_of
holds_in [] p h = absurd (both_ways false refl h)
holds_in (x ∷ xs) p h = ⊎_elim
    (λ (e : has_in x p ≡ true).
    let (fits, within) = and_parts (is_rectangle x) (is_within x p) e in
    let r = rectangle_of x fits in
    (r, inl refl, lies_in r p within))
    (λ (e : kept_out xs p ≡ true). let (r, i, l) = holds_in xs p e in (r, inr i, l))
    (or_cases (has_in x p) (kept_out xs p) h)

out_of : (xs : List Row) (p : Coordinates) (r : Rectangle) → kept_out xs p ≡ false → Holds xs r → LiesIn r p → ⊥
out_of [] p r h i l = i
out_of (x ∷ xs) p r h i l =
    let (here, rest) = or_parts (has_in x p) (kept_out xs p) h in
    ⊎_elim
    (λ (e : row_of r ≡ x). both_ways (has_in x p) here (subst (λ (y : Row). has_in y p ≡ true) e (has_rectangle r p l)))
    (λ (j : Holds xs r). out_of xs p r rest j l)
    i

-- an answer that is keep-out's tells whether the place is open below and lies in no rectangle
pub apart_exact : (xs : List Row) (g : Ground) (p n : ℕ) (r : Bool) → r ≡ (apart_ground xs g).opened p n → (r ≡ true) ↔ OpenApart xs g p n
apart_exact xs g p n r e = (
  λ h.
      let (below, apart) = and_parts (g.opened p n) (is_apart xs g.shape p) (sym e ∙ h) in
      record { below = below; apart = λ a i l. out_of xs (coordinates_of g.shape p) a (not-true _ apart) i l },
  λ o.
      let out : kept_out xs (coordinates_of g.shape p) ≡ false = ⊎_elim
      (λ (t : kept_out xs (coordinates_of g.shape p) ≡ true). let (a, i, l) = holds_in xs (coordinates_of g.shape p) t in absurd (o.apart a i l))
      (λ (f : kept_out xs (coordinates_of g.shape p) ≡ false). f)
      (cases_Bool (kept_out xs (coordinates_of g.shape p)))
      in
      e ∙ and_from (g.opened p n) (is_apart xs g.shape p) o.below (not_from_false _ out),
)
