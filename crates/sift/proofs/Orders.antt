-- The order of a heap while one place is sifted up or down.
use Rattle.std.proofs.Common.{◌≡◌, ℕ, zero, suc, ◌+◌, ◌*◌, ◌/◌, ◌<◌, ◌≤◌, true, false, ◌&&◌, ltb, leb, Some, None, Option, sym, refl, ap, ◌∙◌, subst, ⊎_elim, arith}
use Rattle.std.proofs.lemmas.Bool.{cases_eq, cases_lt, cases_Bool, both_ways, and_parts, and_cases, ltb-true, lt-ltb, leb-true, le-leb, cond-true, cond-false, cond_both}
use Rattle.tariff.specs.Rates.{Rates, Laws}
use Rattle.front.proofs.Costs.{not_less, less_not}
use Rattle.sift.specs.Layouts.{Layout, lower, key, Order, OrderUp, OrderDown, below_parent, least_child, lower_child}

module _ {C : Type 0} {t : Rates C} (laws : Laws t) where
  -- "not lower" is transitive
  pub not_lower : (a b c : Option C) → lower t a b ≡ false → lower t b c ≡ false → lower t a c ≡ false
  not_lower None b c p q = refl
  not_lower (Some x) None c p q = absurd (let z : ◌≡◌ {A = ℕ} 0 1 = cc in omega arith)
  not_lower (Some x) (Some y) None p q = q
  not_lower (Some x) (Some y) (Some z) p q = not_less laws x y z p q

  pub lower_not : (a b : Option C) → lower t a b ≡ true → lower t b a ≡ false
  lower_not None b p = absurd (let z : ◌≡◌ {A = ℕ} 0 1 = cc in omega arith)
  lower_not (Some x) None p = refl
  lower_not (Some x) (Some y) p = less_not laws x y p

  pub lower_self : (a : Option C) → lower t a a ≡ false
  lower_self None = refl
  lower_self (Some x) = laws.irreflexive x

  -- the place at i and the one above it change places
  pub swap_up : (k k' : ℕ → Option C) (count i : ℕ) → OrderUp t k count i → 2 ≤ i → i ≤ count → lower t (k i) (k (i / 2)) ≡ true →
      k' (i / 2) ≡ k i → k' i ≡ k (i / 2) → ((j : ℕ) → (j ≡ i → ⊥) → (j ≡ i / 2 → ⊥) → k' j ≡ k j) → OrderUp t k' count (i / 2)
  swap_up k k' count i o two most b atup ati off =
      let low : lower t (k (i / 2)) (k i) ≡ false = lower_not (k i) (k (i / 2)) b in
      record {
        rest = λ j tw m ne. ⊎_elim
            -- the place that came down
            (λ e. let ej : k' j ≡ k (i / 2) = ap k' e ∙ ati in let eu : k' (j / 2) ≡ k i = ap (λ x. k' (x / 2)) e ∙ atup in rw (ej, eu) low)
            (λ n1. let ej : k' j ≡ k j = off j n1 ne in ⊎_elim
            -- below the place that came down
            (λ e. let eu : k' (j / 2) ≡ k (i / 2) = ap k' e ∙ ati in rw (ej, eu) (o.over j two m e))
            (λ n2. ⊎_elim
            -- beside it
            (λ e. let eu : k' (j / 2) ≡ k i = ap k' e ∙ atup in
            let s : lower t (k j) (k (i / 2)) ≡ false = ap (λ x. lower t (k j) (k x)) (sym e) ∙ o.rest j tw m n1 in
            rw (ej, eu) (not_lower (k j) (k (i / 2)) (k i) s low))
            (λ n3. let eu : k' (j / 2) ≡ k (j / 2) = off (j / 2) n2 n3 in rw (ej, eu) (o.rest j tw m n1))
            (cases_eq (j / 2) (i / 2)))
            (cases_eq (j / 2) i))
            (cases_eq j i);
        over = λ j tw m e.
            let n0 : (i / 2 ≡ i → ⊥) = λ x. omega arith in
            let above : lower t (k (i / 2)) (k (i / 2 / 2)) ≡ false = o.rest (i / 2) tw (omega arith) n0 in
            let eu : k' (i / 2 / 2) ≡ k (i / 2 / 2) = off (i / 2 / 2) (λ x. omega arith) (λ x. omega arith) in
            ⊎_elim
            (λ x. let ej : k' j ≡ k (i / 2) = ap k' x ∙ ati in rw (ej, eu) above)
            (λ n1. let ej : k' j ≡ k j = off j n1 (λ x. omega arith) in
            let s : lower t (k j) (k (i / 2)) ≡ false = ap (λ x. lower t (k j) (k x)) (sym e) ∙ o.rest j (omega arith) m n1 in
            rw (ej, eu) (not_lower (k j) (k (i / 2)) (k (i / 2 / 2)) s above))
            (cases_eq j i);
      }

  pub settled_up : (k : ℕ → Option C) (count i : ℕ) → OrderUp t k count i → (2 ≤ i → lower t (k i) (k (i / 2)) ≡ false) → Order t k count
  settled_up k count i o h j tw m = ⊎_elim
      (λ e. let x : lower t (k i) (k (i / 2)) ≡ false = h (omega arith) in ap (λ y. lower t (k y) (k (y / 2))) e ∙ x)
      (λ ne. o.rest j tw m ne)
      (cases_eq j i)

  -- the place at i and the least one below it, at m, change places
  pub swap_down : (k k' : ℕ → Option C) (count i m : ℕ) → OrderDown t k count i → 1 ≤ i → m / 2 ≡ i → m ≤ count → lower t (k m) (k i) ≡ true →
      ((j : ℕ) → j ≤ count → j / 2 ≡ i → lower t (k j) (k m) ≡ false) →
      k' m ≡ k i → k' i ≡ k m → ((j : ℕ) → (j ≡ i → ⊥) → (j ≡ m → ⊥) → k' j ≡ k j) → OrderDown t k' count m
  swap_down k k' count i m o i1 mi mc b least atm ati off =
      let low : lower t (k i) (k m) ≡ false = lower_not (k m) (k i) b in
      record {
        rest = λ j tw jc ne. ⊎_elim
            -- the place that came down
            (λ e. let ej : k' j ≡ k i = ap k' e ∙ atm in let eu : k' (j / 2) ≡ k m = ap (λ x. k' (x / 2)) e ∙ ap k' mi ∙ ati in rw (ej, eu) low)
            (λ n1. ⊎_elim
            -- beside it
            (λ e. let ej : k' j ≡ k j = off j (λ x. omega arith) n1 in let eu : k' (j / 2) ≡ k m = ap k' e ∙ ati in rw (ej, eu) (least j jc e))
            (λ n2. ⊎_elim
            -- the place that went up
            (λ e. let ej : k' j ≡ k m = ap k' e ∙ ati in
            let eu : k' (j / 2) ≡ k (i / 2) = off (j / 2) n2 ne ∙ ap (λ x. k (x / 2)) e in
            rw (ej, eu) (o.over m (omega arith) mc mi))
            (λ n3. let ej : k' j ≡ k j = off j n3 n1 in let eu : k' (j / 2) ≡ k (j / 2) = off (j / 2) n2 ne in rw (ej, eu) (o.rest j tw jc n2))
            (cases_eq j i))
            (cases_eq (j / 2) i))
            (cases_eq j m);
        over = λ j tw jc e.
            let ej : k' j ≡ k j = off j (λ x. omega arith) (λ x. omega arith) in
            let eu : k' (m / 2) ≡ k m = ap k' mi ∙ ati in
            let s : lower t (k j) (k m) ≡ false = ap (λ x. lower t (k j) (k x)) (sym e) ∙ o.rest j (omega arith) jc (λ x. omega arith) in
            rw (ej, eu) s;
      }

  pub settled_down : (k : ℕ → Option C) (count i : ℕ) → OrderDown t k count i → ((j : ℕ) → j ≤ count → j / 2 ≡ i → lower t (k j) (k i) ≡ false) → Order t k count
  settled_down k count i o h j tw m = ⊎_elim
      (λ e. ap (λ y. lower t (k j) (k y)) e ∙ h j m e)
      (λ ne. o.rest j tw m ne)
      (cases_eq (j / 2) i)

  -- none costs less than the first
  least_of : (fuel : ℕ) (k : ℕ → Option C) (count j : ℕ) → Order t k count → 1 ≤ j → j ≤ count → j ≤ fuel → lower t (k j) (k 1) ≡ false
  least_of zero k count j o j1 jc jf = absurd (omega arith)
  least_of (suc fuel) k count j o j1 jc jf = ⊎_elim
      (λ two. not_lower (k j) (k (j / 2)) (k 1) (o j two jc) (least_of fuel k count (j / 2) o (omega arith) (omega arith) (omega arith)))
      (λ one. let e : j ≡ 1 = omega arith in ap (λ x. lower t (k x) (k 1)) e ∙ lower_self (k 1))
      (cases_lt 1 j)

  pub first_least : (k : ℕ → Option C) (count j : ℕ) → Order t k count → 1 ≤ j → j ≤ count → lower t (k j) (k 1) ≡ false
  first_least k count j o j1 jc = least_of j k count j o j1 jc (omega arith)

-- m is a child of i, and no child of i has a lower key
pub record LeastChild {C : Type 0} (t : Rates C) (h : Layout C) (count i m : ℕ) : Type 0 where
  pub under : m / 2 ≡ i
  pub most : m ≤ count
  pub least : (j : ℕ) → j ≤ count → j / 2 ≡ i → lower t (key h j) (key h m) ≡ false

-- and its key is below c
pub record LowerChild {C : Type 0} (t : Rates C) (h : Layout C) (count i : ℕ) (c : C) (m : ℕ) : Type 0 where
  pub child : LeastChild t h count i m
  pub less : lower t (key h m) (Some c) ≡ true

-- no child of i has a key below c
abbrev pub NoLowerChild : {C : Type 0} → Rates C → Layout C → ℕ → ℕ → C → Type 0
NoLowerChild t h count i c = (j : ℕ) → j ≤ count → j / 2 ≡ i → lower t (key h j) (Some c) ≡ false

module _ {C : Type 0} {t : Rates C} (laws : Laws t) (h : Layout C) (count i : ℕ) where
  left_child : i * 2 ≤ count → (i * 2 < count → lower t (key h (i * 2 + 1)) (key h (i * 2)) ≡ false) → LeastChild t h count i (i * 2)
  left_child mc b = record {
    under = omega arith;
    most = mc;
    least = λ j jc f. ⊎_elim
        (λ s. ap (λ x. lower t (key h x) (key h (i * 2))) s ∙ lower_self laws (key h (i * 2)))
        (λ n. let s : j ≡ i * 2 + 1 = omega arith in ap (λ x. lower t (key h x) (key h (i * 2))) s ∙ b (omega arith))
        (cases_eq j (i * 2));
  }

  right_child : i * 2 < count → lower t (key h (i * 2 + 1)) (key h (i * 2)) ≡ true → LeastChild t h count i (i * 2 + 1)
  right_child mc b = record {
    under = omega arith;
    most = omega arith;
    least = λ j jc f. ⊎_elim
        (λ s. ap (λ x. lower t (key h x) (key h (i * 2 + 1))) s ∙ lower_self laws (key h (i * 2 + 1)))
        (λ n. let s : j ≡ i * 2 = omega arith in ap (λ x. lower t (key h x) (key h (i * 2 + 1))) s ∙ lower_not laws (key h (i * 2 + 1)) (key h (i * 2)) b)
        (cases_eq j (i * 2 + 1));
  }

  pub least_child_is : i * 2 ≤ count → LeastChild t h count i (least_child t h count i)
  least_child_is mc =
      let a = ltb (i * 2) count in
      let b = lower t (key h (i * 2 + 1)) (key h (i * 2)) in
      cond_both (a && b) (i * 2 + 1) (i * 2) (LeastChild t h count i)
      (λ e. let p = and_parts a b e in right_child (ltb-true (i * 2) count p.0) p.1)
      (λ e. left_child mc (λ l. ⊎_elim (λ f. absurd (both_ways a f (lt-ltb (i * 2) count l))) (λ f. f) (and_cases a b e)))

  -- what `lower_child` gives
  pub lower_child_some : (c : C) (m : ℕ) → Some m ≡ lower_child t h count i c → LowerChild t h count i c m
  lower_child_some c m e =
      let k = least_child t h count i in
      let a = leb (i * 2) count in
      let b = lower t (key h k) (Some c) in
      ⊎_elim
      (λ w. let p = and_parts a b w in
      let f : Some m ≡ Some k = e ∙ cond-true (a && b) (Some k) None w in
      let g : k ≡ m = cc in
      subst (LowerChild t h count i c) g (record { child = least_child_is (leb-true (i * 2) count p.0); less = p.1 }))
      (λ w. absurd (let f : Some m ≡ None = e ∙ cond-false (a && b) (Some k) None w in let z : ◌≡◌ {A = ℕ} 0 1 = cc in omega arith))
      (cases_Bool (a && b))

  pub lower_child_none : (c : C) → None ≡ lower_child t h count i c → NoLowerChild t h count i c
  lower_child_none c e j jc u =
      let k = least_child t h count i in
      let a = leb (i * 2) count in
      let b = lower t (key h k) (Some c) in
      ⊎_elim
      (λ w. absurd (let f : None ≡ Some k = e ∙ cond-true (a && b) (Some k) None w in let z : ◌≡◌ {A = ℕ} 0 1 = cc in omega arith))
      (λ w. let l : i * 2 ≤ count = omega arith in
      let f : b ≡ false = ⊎_elim (λ x. absurd (both_ways a x (le-leb (i * 2) count l))) (λ x. x) (and_cases a b w) in
      not_lower laws (key h j) (key h k) (Some c) ((least_child_is l).least j jc u) f)
      (cases_Bool (a && b))

-- the test by which a place goes up
module _ {C : Type 0} (t : Rates C) (h : Layout C) (i : ℕ) (c : C) where
  pub below_parent_true : true ≡ below_parent t h i c → (2 ≤ i) × (lower t (Some c) (key h (i / 2)) ≡ true)
  below_parent_true e = let p = and_parts (ltb 1 i) (lower t (Some c) (key h (i / 2))) (sym e) in (ltb-true 1 i p.0, p.1)

  pub below_parent_false : false ≡ below_parent t h i c → 2 ≤ i → lower t (Some c) (key h (i / 2)) ≡ false
  below_parent_false e l = ⊎_elim
      (λ f. absurd (both_ways (ltb 1 i) f (lt-ltb 1 i l)))
      (λ f. f)
      (and_cases (ltb 1 i) (lower t (Some c) (key h (i / 2))) (sym e))
