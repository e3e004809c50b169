-- The loops over the offsets ask of exactly the place and its neighbours around it.
use Rattle.std.proofs.Common.{◌≡◌, ℕ, zero, suc, ◌<◌, Bool, true, false, ltb, ◌⊎◌, Some, None, sym, refl, ap, ◌∙◌, subst, inl, inr, ⊎_elim, lit<}
use Rattle.std.proofs.lemmas.Bool.{and_parts, and_from, lt-ltb, cond-true, cases_Bool, both_ways}
use Rattle.grid.specs.declared.shape.Shape.{Shape}
use Rattle.grid.specs.declared.shape.Coordinates.{Coordinates}
use Rattle.grid.specs.declared.step.Direction.{Direction}
use Rattle.grid.specs.declared.step.Direction.TheVariants.{West, East, North, South, NorthWest, NorthEast, SouthWest, SouthEast, Up, Down}
use Rattle.grid.specs.declared.site.Site.{Site}
use Rattle.grid.specs.Places.{count_of, coordinates_of}
use Rattle.grid.specs.Sites.{Sited}
use Rattle.grid.specs.Steps.{Way, way, kind, beyond, neighbour_of}
use Rattle.grid.proofs.Numbering.{number_again}
use Rattle.grid.proofs.Striding.{site_below}
use Rattle.model.specs.Sheets.{Ground}
use Rattle.model.specs.Clear.{around, is_clear, all_clear, clear_ground}
use Rattle.model.proofs.ClearLaws.{all_at, all_from, Level, level_around, around_level}
use Rattle.clearance.specs.Offsets.{offset_way}

-- the place at the offsets from the coordinates x is skipped or open
abbrev pub near : Ground → Shape → Coordinates → ℕ → ℕ → ℕ → Bool
near g s x n down across = is_clear g n (beyond s x (offset_way down across))

-- so are the places of a row before an offset, and those of the rows before an offset
abbrev pub RowClear : Ground → Site → ℕ → ℕ → ℕ → Type 0
RowClear g x n down across = (a : ℕ) → a < across → near g x.shape x.at n down a ≡ true

abbrev pub RowsClear : Ground → Site → ℕ → ℕ → Type 0
RowsClear g x n down = (d : ℕ) → d < down → RowClear g x n d 3

-- each direction around is at offsets, and each other offsets than (1, 1) are in such a direction
record Offset (d : Direction) : Type 0 where
  down : ℕ
  across : ℕ
  few : down < 3
  short : across < 3
  way_is : offset_way down across ≡ way d

offset_of : (d : Direction) → Level (kind d) → Offset d
offset_of West l = record { down = 1; across = 0; few = lit< tt; short = lit< tt; way_is = refl }
offset_of East l = record { down = 1; across = 2; few = lit< tt; short = lit< tt; way_is = refl }
offset_of North l = record { down = 0; across = 1; few = lit< tt; short = lit< tt; way_is = refl }
offset_of South l = record { down = 2; across = 1; few = lit< tt; short = lit< tt; way_is = refl }
offset_of NorthWest l = record { down = 0; across = 0; few = lit< tt; short = lit< tt; way_is = refl }
offset_of NorthEast l = record { down = 0; across = 2; few = lit< tt; short = lit< tt; way_is = refl }
offset_of SouthWest l = record { down = 2; across = 0; few = lit< tt; short = lit< tt; way_is = refl }
offset_of SouthEast l = record { down = 2; across = 2; few = lit< tt; short = lit< tt; way_is = refl }
offset_of Up l = absurd l
offset_of Down l = absurd l

abbrev Led : Way → Type 0
Led w = (w ≡ offset_way 1 1) ⊎ ((d : Direction) × Level (kind d) × (way d ≡ w))

led : (down across : ℕ) → Led (offset_way down across)
led zero zero = inr (NorthWest, tt, refl)
led zero (suc zero) = inr (North, tt, refl)
led zero (suc (suc a)) = inr (NorthEast, tt, refl)
led (suc zero) zero = inr (West, tt, refl)
led (suc zero) (suc zero) = inl refl
led (suc zero) (suc (suc a)) = inr (East, tt, refl)
led (suc (suc d)) zero = inr (SouthWest, tt, refl)
led (suc (suc d)) (suc zero) = inr (South, tt, refl)
led (suc (suc d)) (suc (suc a)) = inr (SouthEast, tt, refl)

-- the neighbour by its direction's moves
neighbour_is : (s : Shape) (p : ℕ) (d : Direction) → p < count_of s → neighbour_of s p d ≡ beyond s (coordinates_of s p) (way d)
unfolding neighbour_of
neighbour_is s p d h = cond-true (ltb p (count_of s)) (beyond s (coordinates_of s p) (way d)) None (lt-ltb _ _ h)

module _ (g : Ground) (p n : ℕ) (h : p < count_of g.shape) where
  abbrev at : Coordinates
  at = coordinates_of g.shape p

  -- the offsets (1, 1) are those of the place itself
  here : near g g.shape at n 1 1 ≡ g.opened p n
  here = ap (λ (q : ℕ). g.opened q n) (number_again g.shape p)

  opened_from : ((d : ℕ) → d < 3 → (a : ℕ) → a < 3 → near g g.shape at n d a ≡ true) → (clear_ground g).opened p n ≡ true
  opened_from rows =
      and_from (g.opened p n) (all_clear g p n around) (sym here ∙ rows 1 (lit< tt) 1 (lit< tt))
      (all_from g p n around (λ d i.
      let o = offset_of d (level_around d i) in
      let e = neighbour_is g.shape p d h ∙ ap (beyond g.shape at) (sym o.way_is) in
      ap (is_clear g n) e ∙ rows o.down o.few o.across o.short))

  near_from : (clear_ground g).opened p n ≡ true → (down across : ℕ) → near g g.shape at n down across ≡ true
  near_from c down across =
      let (open-here, rest) = and_parts (g.opened p n) (all_clear g p n around) c in
      ⊎_elim
      (λ (e : offset_way down across ≡ offset_way 1 1). ap (λ (w : Way). is_clear g n (beyond g.shape at w)) e ∙ here ∙ open-here)
      (λ (d, l, e).
      ap (λ (w : Way). is_clear g n (beyond g.shape at w)) (sym e) ∙ ap (is_clear g n) (sym (neighbour_is g.shape p d h)) ∙ all_at g p n around d rest (around_level d l))
      (led down across)

-- as the loops ask: of a site that was answered for the place
module _ (g : Ground) (s : Shape) (p n : ℕ) (x : Site) (e : s ≡ g.shape) (i : Sited s p (Some x)) where
  abbrev here_near : ℕ → ℕ → Bool
  here_near = near g x.shape x.at n

  below : p < count_of g.shape
  below = subst (λ (t : Shape). p < count_of t) (i.0 ∙ e) (subst (λ (q : ℕ). q < count_of x.shape) i.1 (site_below x))

  same_near : (down across : ℕ) → here_near down across ≡ near g g.shape (coordinates_of g.shape p) n down across
  same_near down across =
      ap (λ (t : Shape). near g t x.at n down across) (i.0 ∙ e)
      ∙ ap (λ (y : Coordinates). near g g.shape y n down across) (i.2 ∙ ap (λ (t : Shape). coordinates_of t p) e)

  pub opens : RowsClear g x n 3 → true ≡ (clear_ground g).opened p n
  opens rows = sym (opened_from g p n below (λ d l a m. sym (same_near d a) ∙ rows d l a m))

  pub shuts : (down across : ℕ) → false ≡ here_near down across → false ≡ (clear_ground g).opened p n
  shuts down across h = ⊎_elim
      (λ (c : (clear_ground g).opened p n ≡ true).
      absurd (both_ways (here_near down across) (sym h) (same_near down across ∙ near_from g p n below c down across)))
      (λ (c : (clear_ground g).opened p n ≡ false). sym c)
      (cases_Bool ((clear_ground g).opened p n))
