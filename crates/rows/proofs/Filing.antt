-- The order of lists of records and of heads.
use Rattle.std.proofs.Common.{◌≡◌, ℕ, ◌%◌, ◌<◌, List, length, get_or, set, Some, None, Option, sym, ap, ◌∙◌, subst, mod-lt, arith, ◌-◌, refl}
use Rattle.tariff.specs.Rates.{Rates}
use Rattle.rows.specs.declared.RingRecord.{RingRecord}
use Rattle.rows.specs.Waiting.{layout, awaits, ringed}
use Rattle.front.specs.Places.{changed, Waits}
use Rattle.rows.specs.Links.{edit, new_cost, linked, unlinked, new_head}
use Rattle.front.specs.Places.{room}
use Rattle.rows.specs.Rows.{filed, base, Within, Sound, Entered, Ordered}
use Rattle.front.proofs.Changes.{equal}
use Rattle.rows.proofs.Edits.{wrote}
use Rattle.rows.proofs.Keeping.{filed_waits, joined_sound, joined_waiting, left_sound, left_waiting}

-- the list zs with these heads is in order, and the place p waits in it at o, and every other as in xs
pub record Files {C : Type 0} (t : Rates C) (xs zs : List (RingRecord C)) (touched touched' rows : ℕ) (heads : List (Option ℕ)) (l : Option C) (p : ℕ) (o : Option C) : Type 0 where
  pub order : Ordered t zs touched' rows heads l
  pub change : Waits (ringed xs touched l) (ringed zs touched' l) p o

module _ {C : Type 0} (t : Rates C) (xs : List (RingRecord C)) (touched rows : ℕ) (heads : List (Option ℕ)) (l : Option C)
    (S : Ordered t xs touched rows heads l) (lh : length heads ≡ 32) where
  abbrev h : ℕ → RingRecord C
  h = layout xs

  abbrev n : ℕ
  n = room (length xs)

  abbrev head : ℕ → Option ℕ
  head k = get_or heads k None

  pub row_inside : (c : C) (r : ℕ) → t.level c % rows ≡ r → r < 32
  row_inside c r e = let s = S.some in let m = S.most in let z : 0 < rows = omega arith in let y = mod-lt (t.level c) z in omega arith

  -- another list of the same length
  moved : (zs : List (RingRecord C)) (g : ℕ → RingRecord C) (touched' : ℕ) (r : ℕ) (v : Option ℕ) → r < 32 → layout zs ≡ g → length zs ≡ length xs →
      Sound t g n touched' rows (changed head r v) l → Ordered t zs touched' rows (set heads r v) l
  moved zs g touched' r v lr e len s =
      let lt : r < length heads = omega arith in
      subst (λ f. Sound t (layout zs) (room (length zs)) touched' rows f l) (sym (equal (λ k. wrote heads r v None k lt)))
      (subst (λ k. Sound t (layout zs) (room k) touched' rows (changed head r v) l) (sym len)
      (subst (λ f. Sound t f n touched' rows (changed head r v) l) (sym e) s))

  -- a place comes
  module _ (p : ℕ) (c : C) (u : awaits h touched p ≡ None) (near : Within t rows (base t l) c) (ys : List (RingRecord C)) (touched' : ℕ)
      (E : Entered h n touched p c (layout ys) touched') (r : ℕ) (er : t.level c % rows ≡ r)
      (zs : List (RingRecord C)) (ez : layout zs ≡ linked (layout ys) (get_or heads r None) p) where
    joined_awaits : (k : ℕ) → awaits (layout zs) touched' k ≡ changed (awaits h touched) p (Some c) k
    joined_awaits k = ap (λ (g : ℕ → RingRecord C). awaits g touched' k) ez ∙ joined_waiting t S p c u near (layout ys) touched' E r er k

    joined_ordered : length zs ≡ length xs → Ordered t zs touched' rows (set heads r (Some p)) l
    joined_ordered len =
        moved zs (linked (layout ys) (head r) p) touched' r (Some p) (row_inside c r er) ez len
        (joined_sound t S p c u near (layout ys) touched' E r er)

    pub joined : length zs ≡ length xs → Files t xs zs touched touched' rows (set heads r (Some p)) l p (Some c)
    joined len = record { order = joined_ordered len; change = record { waiting = joined_awaits; last = refl; serves = record { served = ap (λ k. k - 1) len; spans = refl } } }

  -- a place goes
  module _ (p r : ℕ) (fp : filed t rows (awaits h touched) p ≡ Some r) (ys zs : List (RingRecord C))
      (ey : layout ys ≡ unlinked h (get_or heads r None) p) (ez : layout zs ≡ edit (layout ys) p (new_cost None)) where
    gone : layout zs ≡ edit (unlinked h (head r) p) p (new_cost None)
    gone = ez ∙ ap (λ (g : ℕ → RingRecord C). edit g p (new_cost None)) ey

    left_awaits : (k : ℕ) → awaits (layout zs) touched k ≡ changed (awaits h touched) p None k
    left_awaits k =
        let x = filed_waits t S r p fp in
        ap (λ (g : ℕ → RingRecord C). awaits g touched k) gone ∙ left_waiting t S p x.0 x.1 r x.2 k

    left_ordered : length zs ≡ length xs → Ordered t zs touched rows (set heads r (new_head h (get_or heads r None) p)) l
    left_ordered len =
        let x = filed_waits t S r p fp in
        moved zs (edit (unlinked h (head r) p) p (new_cost None)) touched r (new_head h (head r) p) (row_inside x.0 r x.2) gone len
        (left_sound t S p x.0 x.1 r x.2)

    pub left : length zs ≡ length xs → Files t xs zs touched touched rows (set heads r (new_head h (get_or heads r None) p)) l p None
    left len = record { order = left_ordered len; change = record { waiting = left_awaits; last = refl; serves = record { served = ap (λ k. k - 1) len; spans = refl } } }
