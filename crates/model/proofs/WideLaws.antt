-- What a wide sheet keeps, and what a write to its list does.
use Rattle.std.specs.List.{filter}
use Rattle.std.proofs.Common.{◌≡◌, ℕ, zero, suc, ◌+◌, ◌-◌, ◌<◌, ◌≤◌, Bool, true, eqb, ltb, leb, List, length, get_or, take, drop, Ok, sym, refl, ap, ◌∙◌, ⊎_elim, add-one, arith, get_or-take}
use Rattle.std.proofs.lemmas.List.{length-drop, get_or-drop, ext_get_or}
use Rattle.std.proofs.lemmas.List.Filters.{length-filter_more}
use Rattle.std.proofs.lemmas.Bool.{cases_eq, cases_lt, lt-ltb, le-leb, cond-true, cond-false, cases_cond, ne_eqb}
use Rattle.std.proofs.lemmas.Bool.Decides.{nat_tests}
use Rattle.grid.specs.declared.shape.Shape.{Shape}
use Rattle.grid.specs.Places.{count_of}
use Rattle.model.specs.Entries.{served}
use Rattle.model.specs.Sheets.{Sound, Small, Tied, tally, spare, bare_at, lay_answer, bar_answer}
use Rattle.model.specs.Wide.{wide_ground, wide_metal, wide_sheet, wide_rest, Told}
use Rattle.model.proofs.Calls.{lay_ok, bar_ok}
use Rattle.model.proofs.Tallies.{one, bare_or_one, tally_none, tally_more, tally_most, tally_all_bare, tally_below}

pub served_all : {A : Type 0} (s : Shape) (xs : List A) → count_of s ≤ length xs → served s xs ≡ count_of s
served_all s xs h = cond-true (leb (count_of s) (length xs)) (count_of s) 0 (le-leb (count_of s) (length xs) h)

pub served_most : {A : Type 0} (s : Shape) (xs : List A) → (served s xs ≤ count_of s) × (served s xs ≤ length xs)
served_most s xs = (grind (arith, nat_tests), grind (arith, nat_tests))

pub wide_sound : (s : Shape) (xs : List ℕ) → Sound (wide_ground s xs)
wide_sound s xs = record { inside = λ p n h. grind (arith, nat_tests); nets = λ p n h. grind (arith, nat_tests) }

-- the laws of every sheet
pub wide_tied : (s : Shape) (xs : List ℕ) → Small (wide_sheet s xs) → Tied (wide_sheet s xs)
wide_tied s xs small = record {
  free = λ p n h. grind (arith, nat_tests);
  small = small;
  outside = λ p h. grind (arith, nat_tests);
  within =
      ⊎_elim
      (λ (short : length xs < count_of s). let t = tally_all_bare (wide_metal s xs).copper (count_of s) (λ p h. grind (arith, nat_tests)) in omega arith)
      (λ (long : count_of s ≤ length xs). let e = served_all s xs long in omega (arith, tally_most (wide_metal s xs).copper (count_of s)))
      (cases_lt (length xs) (count_of s));
}

-- a place that the list serves
pub wide_copper : (s : Shape) (xs : List ℕ) (p : ℕ) → p < served s xs → (wide_metal s xs).copper p ≡ get_or xs p 0
wide_copper s xs p h = cond-true (ltb p (served s xs)) (get_or xs p 0) 0 (lt-ltb p (served s xs) h)

-- so copper is at most 65,535 if those entries are
pub entries_small : (s : Shape) (xs : List ℕ) → ((p : ℕ) → get_or (take (served s xs) xs) p 0 ≤ 65535) → Small (wide_sheet s xs)
entries_small s xs h p =
    ⊎_elim
    (λ (l : p < served s xs). let k = h p in let e = get_or-take (served s xs) xs p 0 l in omega (arith, wide_copper s xs p l))
    (λ (l : served s xs ≤ p). grind (arith, nat_tests))
    (cases_lt p (served s xs))

-- a place that the list serves has the spare that it needs
pub wide_spare : (s : Shape) (xs : List ℕ) (p : ℕ) → p < served s xs → bare_at (wide_sheet s xs) p ≤ spare (wide_sheet s xs)
wide_spare s xs p h =
    let long : served s xs ≡ count_of s = grind (arith, nat_tests) in
    let f : ℕ → ℕ = (wide_metal s xs).copper in
    ⊎_elim
    (λ (bare : f p ≡ 0). let t = tally_below f (count_of s) p (omega arith) bare in grind (arith, nat_tests))
    (λ (held : f p ≡ 0 → ⊥). let z : bare_at (wide_sheet s xs) p ≡ 0 = cond-false (eqb (f p) 0) 1 0 (ne_eqb (f p) 0 held) in omega arith)
    (cases_eq (f p) 0)

-- CALLS that are granted
module _ (s : Shape) (xs : List ℕ) (p : ℕ) where
  -- a place that the list serves is a place of the shape
  served_inside : p < served s xs → p < count_of s
  served_inside h = omega (arith, (served_most s xs).0)

  pub wide_lays : (n : ℕ) → (wide_ground s xs).opened p n ≡ true → Ok tt ≡ lay_answer (wide_sheet s xs) p n
  wide_lays n o =
      let l : p < served s xs = grind (arith, nat_tests) in
      sym (lay_ok (wide_sheet s xs) p n (served_inside l) ((wide_sound s xs).nets p n o) o (wide_spare s xs p l))

  pub wide_bars : p < served s xs → (wide_metal s xs).copper p ≡ 0 → Ok tt ≡ bar_answer (wide_sheet s xs) p
  wide_bars l z = sym (bar_ok (wide_sheet s xs) p (served_inside l) z (wide_spare s xs p l))

-- THE SPARE is the number of entries that are 0 and serve places
abbrev bare : ℕ → Bool
bare v = eqb v 0

module _ (s : Shape) (xs : List ℕ) where
  spare_is : spare (wide_sheet s xs) ≡ served s xs - tally (wide_metal s xs).copper (served s xs)
  spare_is =
      ⊎_elim
      (λ (long : served s xs ≡ count_of s). ap (λ (k : ℕ). served s xs - tally (wide_metal s xs).copper k) (sym long))
      (λ (short : served s xs ≡ 0). omega arith)
      (cases_cond (leb (count_of s) (length xs)) (count_of s) 0 (served s xs) refl)

  bare_first : (i : ℕ) → i ≤ served s xs → length (filter bare (take i xs)) + tally (wide_metal s xs).copper i ≡ i
  bare_first zero l = omega (arith, tally_none (wide_metal s xs).copper)
  bare_first (suc i) l =
      let before = bare_first i (omega arith) in
      let more = rw add-one at (length-filter_more bare xs i 0 (omega (arith, (served_most s xs).1))) in
      let t : tally (wide_metal s xs).copper (suc i) ≡ one (get_or xs i 0) + tally (wide_metal s xs).copper i =
      rw add-one at (tally_more (wide_metal s xs).copper i) ∙ ap (λ (v : ℕ). one v + tally (wide_metal s xs).copper i) (wide_copper s xs i (omega arith)) in
      omega (arith, bare_or_one (get_or xs i 0))

  pub spare_bare : spare (wide_sheet s xs) ≡ length (filter bare (take (served s xs) xs))
  spare_bare = let all = bare_first (served s xs) (omega arith) in omega (arith, spare_is)

-- two lists that have the same limit and rest
module _ (s : Shape) (xs ys : List ℕ) (e : served s ys ≡ served s xs) (r : wide_rest s ys ≡ wide_rest s xs) where
  rest_same : drop (served s xs) ys ≡ drop (served s xs) xs
  rest_same = ap (λ (k : ℕ). drop k ys) (sym e) ∙ r

  -- have the same length
  pub size_told : length ys ≡ length xs
  size_told =
      let n = served s xs in
      let size : length ys - n ≡ length xs - n = sym (length-drop n ys) ∙ (ap length rest_same ∙ length-drop n xs) in
      omega (arith, (served_most s xs).1, (served_most s ys).1)

  -- and the same entries past those that are served
  pub past_told : (k : ℕ) → served s xs ≤ k → get_or ys k 0 ≡ get_or xs k 0
  past_told k high =
      let n = served s xs in
      let at : n + (k - n) ≡ k = omega arith in
      let before = get_or-drop n ys (k - n) 0 in
      let after = get_or-drop n xs (k - n) 0 in
      ap (λ (j : ℕ). get_or ys j 0) (sym at) ∙ (sym before ∙ (ap (λ (zs : List ℕ). get_or zs (k - n) 0) rest_same ∙ (after ∙ ap (λ (j : ℕ). get_or xs j 0) at)))

  -- and with the same copper are one
  wide_one : ((p : ℕ) → (wide_metal s ys).copper p ≡ (wide_metal s xs).copper p) → ys ≡ xs
  wide_one same =
      ext_get_or 0 ys xs size_told
      (λ k h.
      ⊎_elim
      (λ (low : k < served s xs). sym (wide_copper s ys k (omega arith)) ∙ (same k ∙ wide_copper s xs k low))
      (λ (high : served s xs ≤ k). past_told k high)
      (cases_lt k (served s xs)))

-- THE LIST IS TOLD by copper, limit and rest
pub wide_told : (s : Shape) (xs : List ℕ) → Told s xs
wide_told s xs = record {
  entries = λ long p h. sym (wide_copper s xs p (omega (arith, served_all s xs long)));
  past = λ long k. ap (λ (n : ℕ). get_or xs (n + k) 0) (sym (served_all s xs long)) ∙ sym (get_or-drop (served s xs) xs k 0);
  short = λ h. let none : served s xs ≡ 0 = grind (arith, nat_tests) in ap (λ (n : ℕ). drop n xs) (sym none);
  one = λ ys same e r. wide_one s xs ys e r same;
}
