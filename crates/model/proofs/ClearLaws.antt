-- Clearance opens less than the ground below, and exactly the places that are clear all around.
use Rattle.std.proofs.Common.{◌≡◌, ℕ, Bool, true, ◌↔◌, List, [], ◌∷◌, Some, None, Option, sym, refl, ◌∙◌, subst, inl, inr, ⊎_elim}
use Rattle.std.proofs.lemmas.Bool.{and_parts, and_from}
use Rattle.grid.specs.declared.shape.Shape.{Shape}
use Rattle.grid.specs.declared.step.Step.{Step}
use Rattle.grid.specs.declared.step.Step.TheVariants.{Straight, Diagonal, Via}
use Rattle.grid.specs.declared.step.Direction.{Direction}
use Rattle.grid.specs.declared.step.Direction.TheVariants.{West, East, North, South, NorthWest, NorthEast, SouthWest, SouthEast, Up, Down}
use Rattle.grid.specs.Steps.{Joins, kind, neighbour_of, Among}
use Rattle.grid.proofs.Joining.{joined}
use Rattle.model.specs.Sheets.{Ground, Sound}
use Rattle.model.specs.Clear.{around, is_clear, all_clear, clear_ground, ClearAround}
use Rattle.model.specs.Layers.{Narrows}

-- the neighbour of p in the direction d is clear
abbrev pub Clear : Ground → ℕ → ℕ → Direction → Type 0
Clear g p n d = is_clear g n (neighbour_of g.shape p d) ≡ true

pub all_at : (g : Ground) (p n : ℕ) (ds : List Direction) (d : Direction) → all_clear g p n ds ≡ true → Among d ds → Clear g p n d
unfolding all_clear
all_at g p n [] d h i = absurd i
all_at g p n (x ∷ xs) d h i =
    let (here, rest) = and_parts _ (all_clear g p n xs) h in
    ⊎_elim (λ (e : d ≡ x). subst (Clear g p n) (sym e) here) (λ j. all_at g p n xs d rest j) i

pub all_from : (g : Ground) (p n : ℕ) (ds : List Direction) → ((d : Direction) → Among d ds → Clear g p n d) → all_clear g p n ds ≡ true
unfolding all_clear
all_from g p n [] h = refl
all_from g p n (x ∷ xs) h = and_from _ (all_clear g p n xs) (h x (inl refl)) (all_from g p n xs (λ d i. h d (inr i)))

clear_keeps : (g g' : Ground) (n : ℕ) → ((q : ℕ) → g.opened q n ≡ true → g'.opened q n ≡ true) → (o : Option ℕ) → is_clear g n o ≡ true → is_clear g' n o ≡ true
clear_keeps g g' n m None h = refl
clear_keeps g g' n m (Some q) h = m q h

abbrev pub clear_opened : Ground → ℕ → ℕ → Bool
clear_opened g = (clear_ground g).opened

pub clear_narrows : Narrows clear_opened
clear_narrows = record {
  below = λ g p n h. (and_parts (g.opened p n) (all_clear g p n around) h).0;
  keeps = λ g g' n e m p h.
      let (here, rest) = and_parts (g.opened p n) (all_clear g p n around) h in
      and_from (g'.opened p n) (all_clear g' p n around) (m p here)
      (all_from g' p n around (λ d i.
      let k = clear_keeps g g' n m (neighbour_of g.shape p d) (all_at g p n around d rest i) in
      subst (λ (s : Shape). is_clear g' n (neighbour_of s p d) ≡ true) (sym e) k));
}

-- the steps that stay on a layer
abbrev pub Level : Step → Type 0
Level Straight = Unit {0}
Level Diagonal = Unit {0}
Level Via = ⊥

abbrev AllLevel : List Direction → Type 0
AllLevel [] = Unit {0}
AllLevel (d ∷ ds) = Level (kind d) × AllLevel ds

level_at : (ds : List Direction) (d : Direction) → AllLevel ds → Among d ds → Level (kind d)
level_at [] d l i = absurd i
level_at (x ∷ xs) d l (inl e) = subst (λ (y : Direction). Level (kind y)) (sym e) l.0
level_at (x ∷ xs) d l (inr i) = level_at xs d l.1 i

-- exactly those around stay on the layer
pub level_around : (d : Direction) → Among d around → Level (kind d)
level_around d i = level_at around d (tt, (tt, (tt, (tt, (tt, (tt, (tt, (tt, tt)))))))) i

pub around_level : (d : Direction) → Level (kind d) → Among d around
around_level West l = inl refl
around_level East l = inr (inl refl)
around_level North l = inr (inr (inl refl))
around_level South l = inr (inr (inr (inl refl)))
around_level NorthWest l = inr (inr (inr (inr (inl refl))))
around_level NorthEast l = inr (inr (inr (inr (inr (inl refl)))))
around_level SouthWest l = inr (inr (inr (inr (inr (inr (inl refl))))))
around_level SouthEast l = inr (inr (inr (inr (inr (inr (inr (inl refl)))))))
around_level Up l = absurd l
around_level Down l = absurd l

module _ (g : Ground) (p n : ℕ) where
  -- what a step on the layer joins to p is clear
  joins_clear : (q : ℕ) (k : Step) → Level k → all_clear g p n around ≡ true → Joins g.shape k p q → g.opened q n ≡ true
  joins_clear q k l h j =
      let (d, e, f) = (joined g.shape p q k).0 j in
      let c = all_at g p n around d h (around_level d (subst Level (sym e) l)) in
      subst (λ (o : Option ℕ). is_clear g n o ≡ true) f c

  clear_joins : ClearAround g p n → (q : ℕ) (k : Step) → Level k → Joins g.shape k p q → g.opened q n ≡ true
  clear_joins c q Straight l j = c.clear q j.to (inr (inl j))
  clear_joins c q Diagonal l j = c.clear q j.to (inr (inr j))
  clear_joins c q Via l j = absurd l

  clear_to : ClearAround g p n → (d : Direction) → Level (kind d) → (o : Option ℕ) → neighbour_of g.shape p d ≡ o → is_clear g n o ≡ true
  clear_to c d l None e = refl
  clear_to c d l (Some q) e = clear_joins c q (kind d) l ((joined g.shape p q (kind d)).1 (d, refl, e))

  clear_from : ClearAround g p n → clear_opened g p n ≡ true
  clear_from c =
      and_from (g.opened p n) (all_clear g p n around) (c.clear p c.inside (inl refl))
      (all_from g p n around (λ d i. clear_to c d (level_around d i) (neighbour_of g.shape p d) refl))

  clear_parts : Sound g → clear_opened g p n ≡ true → ClearAround g p n
  clear_parts s h =
      let (here, rest) = and_parts (g.opened p n) (all_clear g p n around) h in
      record {
        inside = s.inside p n here;
        clear = λ q i.
            ⊎_elim
            (λ (e : q ≡ p). subst (λ (x : ℕ). g.opened x n ≡ true) (sym e) here)
            (⊎_elim (joins_clear q Straight tt rest) (joins_clear q Diagonal tt rest));
      }

  -- an answer that is clearance's tells whether the place is clear around
  pub clear_exact : Sound g → (r : Bool) → r ≡ clear_opened g p n → (r ≡ true) ↔ ClearAround g p n
  clear_exact s r e = (λ h. clear_parts s (sym e ∙ h), λ c. e ∙ clear_from c)
