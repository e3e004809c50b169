-- A ring stays in order as places come and go.
use Rattle.std.proofs.Common.{◌≡◌, ℕ, zero, suc, ◌+◌, ◌-◌, ◌%◌, ◌<◌, ◌≤◌, Bool, true, false, cond, leb, get_or, replicate, Some, None, Option, unwrap_or, sym, refl, ap, ◌∙◌, subst, ⊎_elim, arith}
use native.Mathlib.Nat.{mod-add-mod}
use Rattle.std.proofs.lemmas.Bool.{cases_eq, cases_lt, cases_Bool, cond-true, cond-false, eq-eqb, eqb-true, leb-true, and_parts, both_ways}
use Rattle.std.specs.Option.{option_map}
use Rattle.grid.specs.declared.step.Step.{Step}
use Rattle.tariff.specs.Rates.{Rates, Laws}
use Rattle.rows.specs.declared.RingRecord.{RingRecord}
use Rattle.rows.specs.Waiting.{vouched, awaits, some_rows}
use Rattle.front.specs.Places.{changed}
use Rattle.rows.specs.Links.{edit, new_cost, new_next, new_back, linked, follower, spliced, is_head, unlinked, new_head}
use Rattle.rows.specs.Rows.{filed, base, Rows, Fits, Within, Sound, Entered, First}
use Rattle.front.proofs.Changes.{equal, changed_at, changed_off, changed_same, none_some, cases_option}
use Rattle.rows.proofs.Edits.{field, kept, Same, same_vouched, same_awaits, same_vouches}
use Rattle.rows.proofs.Vouching.{vouched_far, vouched_inside, awaits_vouched}
use Rattle.rows.proofs.Linking as linking
use Rattle.rows.proofs.Windows.{one_turn}

-- the same rows by equal functions
same_rows : (f f' heads heads' : ℕ → Option ℕ) (next next' back back' rank : ℕ → ℕ) →
    ((k : ℕ) → f k ≡ f' k) → ((k : ℕ) → heads k ≡ heads' k) → ((k : ℕ) → next k ≡ next' k) → ((k : ℕ) → back k ≡ back' k) →
    Rows f heads next back rank → Rows f' heads' next' back' rank
same_rows f f' heads heads' next next' back back' rank ef eh en eb R =
    subst (λ z. Rows f' heads' next' z rank) (equal eb)
    (subst (λ z. Rows f' heads' z back rank) (equal en)
    (subst (λ z. Rows f' z next back rank) (equal eh)
    (subst (λ z. Rows z heads next back rank) (equal ef) R)))

-- whether a place is the head
head_true : (o : Option ℕ) (p : ℕ) → is_head o p ≡ true → o ≡ Some p
head_true None p e = absurd (both_ways false refl e)
head_true (Some q) p e = ap Some (eqb-true q p e)

head_false : (o : Option ℕ) (p : ℕ) → is_head o p ≡ false → o ≡ Some p → ⊥
head_false o p e f = both_ways (is_head o p) e (ap (λ z. is_head z p) f ∙ eq-eqb p p refl)

-- THE RECORDS
module _ {C : Type 0} (h : ℕ → RingRecord C) where
  -- the two links that are written, at p and at q
  module _ (p v q w : ℕ) where
    abbrev twice : ℕ → RingRecord C
    twice = edit (edit h p (new_next v)) q (new_back w)

    twice_same : Same h twice
    twice_same = record {
      at = λ k. kept (λ r. r.at) (edit h p (new_next v)) q (new_back w) k refl ∙ kept (λ r. r.at) h p (new_next v) k refl;
      slot = λ k. kept (λ r. r.slot) (edit h p (new_next v)) q (new_back w) k refl ∙ kept (λ r. r.slot) h p (new_next v) k refl;
      cost = λ k. kept (λ r. r.cost) (edit h p (new_next v)) q (new_back w) k refl ∙ kept (λ r. r.cost) h p (new_next v) k refl;
    }

    twice_next : (k : ℕ) → (twice k).next ≡ changed (λ j. (h j).next) p v k
    twice_next k = kept (λ r. r.next) (edit h p (new_next v)) q (new_back w) k refl ∙ field (λ r. r.next) h p (new_next v) k

    twice_back : (k : ℕ) → (twice k).back ≡ changed (λ j. (h j).back) q w k
    twice_back k =
        field (λ r. r.back) (edit h p (new_next v)) q (new_back w) k
        ∙ ap (λ (g : ℕ → ℕ). changed g q w k) (equal (λ j. kept (λ r. r.back) h p (new_next v) j refl))

  linked_same : (head : Option ℕ) (p : ℕ) → Same h (linked h head p)
  linked_same head p = twice_same p (unwrap_or head p) (unwrap_or head p) p

  unlinked_same : (o : Option ℕ) (p : ℕ) → Same h (unlinked h o p)
  unlinked_same o p = ⊎_elim
      (λ e. subst (λ g. Same h g) (sym (cond-true (is_head o p) h (spliced h p) e)) (record { at = λ k. refl; slot = λ k. refl; cost = λ k. refl }))
      (λ e. subst (λ g. Same h g) (sym (cond-false (is_head o p) h (spliced h p) e)) (twice_same (h p).back (unwrap_or (follower h p) (h p).back) (h p).next (h p).back))
      (cases_Bool (is_head o p))

  -- p waits no more
  cleared_waiting : (touched p k : ℕ) → awaits (edit h p (new_cost None)) touched k ≡ changed (awaits h touched) p None k
  cleared_waiting touched p k =
      let g = edit h p (new_cost None) in
      let v = same_vouched h g (λ j. kept (λ r. r.at) h p (new_cost None) j refl) (λ j. kept (λ r. r.slot) h p (new_cost None) j refl) touched k in
      let f = field (λ r. r.cost) h p (new_cost None) k in
      ⊎_elim
      (λ e.
      let c : (g k).cost ≡ None = f ∙ changed_at (λ j. (h j).cost) p None k e in
      ap (λ z. cond (vouched g touched k) z None) c ∙ either (vouched g touched k) ∙ sym (changed_at (awaits h touched) p None k e))
      (λ ne.
      let c : (g k).cost ≡ (h k).cost = f ∙ changed_off (λ j. (h j).cost) p None k ne in
      let w : awaits g touched k ≡ awaits h touched k = cc in
      w ∙ sym (changed_off (awaits h touched) p None k ne))
      (cases_eq k p)
    where
      either : (b : Bool) → cond {A = Option C} b None None ≡ None
      either true = refl
      either false = refl

-- no place waits where no position is in use
pub none_awaits : {C : Type 0} (h : ℕ → RingRecord C) (k : ℕ) → awaits h 0 k ≡ None
none_awaits h k = cond-false (vouched h 0 k) (h k).cost None (vouched_far h 0 k (omega arith))

-- heads that are all none
pub no_heads : (n k : ℕ) → get_or {A = Option ℕ} (replicate n None) k None ≡ None
no_heads zero k = refl
no_heads (suc n) zero = refl
no_heads (suc n) (suc k) = no_heads n k

-- a span that is served
pub few_rows : (span : ℕ) → some_rows span ≡ true → (1 ≤ span) × (span ≤ 31)
few_rows span e = let a = and_parts (leb 1 span) (leb span 31) e in (leb-true 1 span a.0, leb-true span 31 a.1)

-- THE ORDER
module _ {C : Type 0} (t : Rates C) where
  filed_changed : (rows : ℕ) (w w' : ℕ → Option C) (p : ℕ) (o : Option C) → ((k : ℕ) → w' k ≡ changed w p o k) → (k : ℕ) →
      changed (filed t rows w) p (option_map (λ c. t.level c % rows) o) k ≡ filed t rows w' k
  filed_changed rows w w' p o e k =
      let m : Option C → Option ℕ = option_map (λ c. t.level c % rows) in
      ⊎_elim
      (λ kp. changed_at (filed t rows w) p (m o) k kp ∙ ap m (sym (e k ∙ changed_at w p o k kp)))
      (λ ne. changed_off (filed t rows w) p (m o) k ne ∙ ap m (sym (e k ∙ changed_off w p o k ne)))
      (cases_eq k p)

  pub empty_sound : (h : ℕ → RingRecord C) (n rows : ℕ) (heads : ℕ → Option ℕ) → 1 ≤ rows → rows ≤ 32 → ((k : ℕ) → heads k ≡ None) → Sound t h n 0 rows heads None
  empty_sound h n rows heads some most e =
      let none : ((r p : ℕ) → filed t rows (awaits h 0) p ≡ Some r → ⊥) =
      λ r p f. none_some (filed t rows (awaits h 0) p) r (ap (option_map (λ c. t.level c % rows)) (none_awaits h p)) f in
      record {
        some = some;
        most = most;
        vouches = record { few = omega arith; slots = λ i l. absurd (omega arith) };
        rank = λ k. 0;
        lists = record {
          head = λ r p f. absurd (none_some (heads r) p (e r) f);
          headed = λ r p f. absurd (none r p f);
          before = λ r p f nh. absurd (none r p f);
          after = λ r p f nx. absurd (none r p f);
        };
        near = λ p c f. absurd (none_some (awaits h 0 p) c (none_awaits h p) f);
        fits = λ c f. absurd (none_some None c refl f);
      }

  module _ {h : ℕ → RingRecord C} {n touched rows : ℕ} {heads : ℕ → Option ℕ} {l : Option C} (S : Sound t h n touched rows heads l) where
    -- the row of a place that waits
    pub row_is : (p : ℕ) (c : C) → awaits h touched p ≡ Some c → filed t rows (awaits h touched) p ≡ Some (t.level c % rows)
    row_is p c e = ap (option_map (λ c. t.level c % rows)) e

    -- a place that is filed waits, and has a record
    pub filed_waits : (r p : ℕ) → filed t rows (awaits h touched) p ≡ Some r → (c : C) × (awaits h touched p ≡ Some c) × (t.level c % rows ≡ r)
    filed_waits r p e = ⊎_elim
        (λ z. absurd (none_some (filed t rows (awaits h touched) p) r (ap (option_map (λ c. t.level c % rows)) z) e))
        (λ x. let a = row_is p x.0 x.1 in let b : t.level x.0 % rows ≡ r = cc in (x.0, x.1, b))
        (cases_option (awaits h touched p))

    pub filed_inside : (r p : ℕ) → filed t rows (awaits h touched) p ≡ Some r → p < n
    filed_inside r p e = let x = filed_waits r p e in vouched_inside h touched n S.vouches p (awaits_vouched h touched p x.0 x.1)

    pub head_inside : (r p : ℕ) → heads r ≡ Some p → p < n
    head_inside r p e = filed_inside r p (S.lists.head r p e)

    pub next_inside : (r p : ℕ) → filed t rows (awaits h touched) p ≡ Some r → (h p).next < n
    next_inside r p e = ⊎_elim
        (λ z. subst (λ k. k < n) (sym z) (filed_inside r p e))
        (λ z. let w = (S.lists.after r p e z).1 in subst (λ k. k < n) (sym w.onward) (filed_inside r _ w.second))
        (cases_eq (h p).next p)

    pub back_inside : (r p : ℕ) → filed t rows (awaits h touched) p ≡ Some r → is_head (heads r) p ≡ false → (h p).back < n
    back_inside r p e b =
        let w = (S.lists.before r p e (head_false (heads r) p b)).1 in
        subst (λ k. k < n) (sym w.backward) (filed_inside r _ w.first)

    -- A PLACE COMES
    module _ (p : ℕ) (c : C) (u : awaits h touched p ≡ None) (near : Within t rows (base t l) c) (h' : ℕ → RingRecord C) (touched' : ℕ) (E : Entered h n touched p c h' touched') (r : ℕ) (er : t.level c % rows ≡ r) where
      pub joined_waiting : (k : ℕ) → awaits (linked h' (heads r) p) touched' k ≡ changed (awaits h touched) p (Some c) k
      joined_waiting k = same_awaits h' (linked h' (heads r) p) (linked_same h' (heads r) p) touched' k ∙ E.waiting k

      pub joined_sound : Sound t (linked h' (heads r) p) n touched' rows (changed heads r (Some p)) l
      joined_sound =
          let q = unwrap_or (heads r) p in
          let g = linked h' (heads r) p in
          let m : Option C → Option ℕ = option_map (λ c. t.level c % rows) in
          let f = filed t rows (awaits h touched) in
          let s = linked_same h' (heads r) p in
          record {
            some = S.some;
            most = S.most;
            vouches = same_vouches h' g n touched' s.at s.slot E.vouches;
            rank = changed S.rank p (S.rank q + 1);
            lists = same_rows (changed f p (Some r)) (filed t rows (awaits g touched')) (changed heads r (Some p)) (changed heads r (Some p))
                (changed (λ k. (h k).next) p q) (λ k. (g k).next) (changed (λ k. (h k).back) q p) (λ k. (g k).back) (changed S.rank p (S.rank q + 1))
                (λ k. ap (λ z. changed f p (Some z) k) (sym er) ∙ filed_changed rows (awaits h touched) (awaits g touched') p (Some c) joined_waiting k)
                (λ k. refl)
                (λ k. ap (λ (z : ℕ → ℕ). changed z p q k) (equal (λ j. sym (E.next j))) ∙ sym (twice_next h' p q q p k))
                (λ k. ap (λ (z : ℕ → ℕ). changed z q p k) (equal (λ j. sym (E.back j))) ∙ sym (twice_back h' p q q p k))
                (linking.linked f heads (λ k. (h k).next) (λ k. (h k).back) S.rank S.lists p r (ap m u));
            near = λ k d e. ⊎_elim
                (λ kp.
                let a = joined_waiting k in
                let b = changed_at (awaits h touched) p (Some c) k kp in
                let cd : c ≡ d = cc in
                subst (Within t rows (base t l)) cd near)
                (λ ne. S.near k d (sym (changed_off (awaits h touched) p (Some c) k ne) ∙ sym (joined_waiting k) ∙ e))
                (cases_eq k p);
            fits = S.fits;
          }

    -- A PLACE GOES
    module _ (p : ℕ) (c : C) (w : awaits h touched p ≡ Some c) (r : ℕ) (er : t.level c % rows ≡ r) where
      abbrev parted : ℕ → RingRecord C
      parted = unlinked h (heads r) p

      abbrev gone : ℕ → RingRecord C
      gone = edit parted p (new_cost None)

      abbrev f : ℕ → Option ℕ
      f = filed t rows (awaits h touched)

      fp : f p ≡ Some r
      fp = row_is p c w ∙ ap Some er

      pub left_waiting : (k : ℕ) → awaits gone touched k ≡ changed (awaits h touched) p None k
      left_waiting k =
          cleared_waiting parted touched p k
          ∙ ap (λ (z : ℕ → Option C). changed z p None k) (equal (same_awaits h parted (unlinked_same h (heads r) p) touched))

      left_rows : Rows (changed f p None) (changed heads r (new_head h (heads r) p)) (λ k. (parted k).next) (λ k. (parted k).back) S.rank
      left_rows = ⊎_elim
          (λ b.
          let e : h ≡ parted = sym (cond-true (is_head (heads r) p) h (spliced h p) b) in
          let a : follower h p ≡ new_head h (heads r) p = sym (cond-true (is_head (heads r) p) (follower h p) (heads r) b) in
          subst (λ g. Rows (changed f p None) (changed heads r (new_head h (heads r) p)) (λ k. (g k).next) (λ k. (g k).back) S.rank) e
          (subst (λ z. Rows (changed f p None) (changed heads r z) (λ k. (h k).next) (λ k. (h k).back) S.rank) a
          (linking.unheaded f heads (λ k. (h k).next) (λ k. (h k).back) S.rank S.lists p r fp (head_true (heads r) p b))))
          (λ b.
          let e : spliced h p ≡ parted = sym (cond-false (is_head (heads r) p) h (spliced h p) b) in
          let a : heads r ≡ new_head h (heads r) p = sym (cond-false (is_head (heads r) p) (follower h p) (heads r) b) in
          let i = (h p).back in
          let v = unwrap_or (follower h p) i in
          subst (λ g. Rows (changed f p None) (changed heads r (new_head h (heads r) p)) (λ k. (g k).next) (λ k. (g k).back) S.rank) e
          (same_rows (changed f p None) (changed f p None) heads (changed heads r (new_head h (heads r) p))
          (changed (λ k. (h k).next) i v) (λ k. (spliced h p k).next) (changed (λ k. (h k).back) (h p).next i) (λ k. (spliced h p k).back) S.rank
          (λ k. refl)
          (λ k. sym (changed_same heads r (heads r) k refl) ∙ ap (λ z. changed heads r z k) a)
          (λ k. sym (twice_next h i v (h p).next i k))
          (λ k. sym (twice_back h i v (h p).next i k))
          (linking.spliced f heads (λ k. (h k).next) (λ k. (h k).back) S.rank S.lists p r fp (head_false (heads r) p b))))
          (cases_Bool (is_head (heads r) p))

      pub left_sound : Sound t gone n touched rows (changed heads r (new_head h (heads r) p)) l
      left_sound =
          let s = unlinked_same h (heads r) p in
          let heads' = changed heads r (new_head h (heads r) p) in
          record {
            some = S.some;
            most = S.most;
            vouches = same_vouches parted gone n touched
                (λ k. kept (λ r. r.at) parted p (new_cost None) k refl)
                (λ k. kept (λ r. r.slot) parted p (new_cost None) k refl)
                (same_vouches h parted n touched s.at s.slot S.vouches);
            rank = S.rank;
            lists = same_rows (changed f p None) (filed t rows (awaits gone touched)) heads' heads'
                (λ k. (parted k).next) (λ k. (gone k).next) (λ k. (parted k).back) (λ k. (gone k).back) S.rank
                (filed_changed rows (awaits h touched) (awaits gone touched) p None left_waiting)
                (λ k. refl)
                (λ k. sym (kept (λ r. r.next) parted p (new_cost None) k refl))
                (λ k. sym (kept (λ r. r.back) parted p (new_cost None) k refl))
                left_rows;
            near = λ k d e. ⊎_elim
                (λ kp. absurd (none_some (awaits gone touched k) d (left_waiting k ∙ changed_at (awaits h touched) p None k kp) e))
                (λ ne. S.near k d (sym (changed_off (awaits h touched) p None k ne) ∙ sym (left_waiting k) ∙ e))
                (cases_eq k p);
            fits = S.fits;
          }

    -- THE FIRST ROW
    -- a place that waits is filed in a row that is not passed
    module _ (from : ℕ) (ef : from ≡ base t l % rows) where
      pub row_from : (c : C) → base t l ≤ t.level c → (from + (t.level c - base t l)) % rows ≡ t.level c % rows
      row_from c b =
          ap (λ z. (z + (t.level c - base t l)) % rows) ef
          ∙ mod-add-mod (base t l) rows (t.level c - base t l)
          ∙ ap (λ z. z % rows) (let e : base t l + (t.level c - base t l) ≡ t.level c = omega arith in e)

      not_passed : (p : ℕ) (c : C) → awaits h touched p ≡ Some c → heads ((from + (t.level c - base t l)) % rows) ≡ None → ⊥
      not_passed p c e z =
          let b = S.lists.headed (t.level c % rows) p (row_is p c e) in
          none_some (heads (t.level c % rows)) b.head (ap heads (sym (row_from c (S.near p c e).least)) ∙ z) b.here

      pub none_waits : ((j : ℕ) → j < rows → heads ((from + j) % rows) ≡ None) → (p : ℕ) → awaits h touched p ≡ None
      none_waits z p = ⊎_elim
          (λ e. e)
          (λ x. let w = S.near p x.0 x.1 in let m = w.most in let b = w.least in
          absurd (not_passed p x.0 x.1 (z (t.level x.0 - base t l) (omega arith))))
          (cases_option (awaits h touched p))

      module _ (row head : ℕ) (F : First heads rows from row head) where
        pub first_filed : filed t rows (awaits h touched) head ≡ Some row
        first_filed = S.lists.head row head F.head_is

        pub first_waits : awaits h touched head ≡ None → ⊥
        first_waits e = none_some (filed t rows (awaits h touched) head) row (ap (option_map (λ c. t.level c % rows)) e) first_filed

        module _ (c : C) (w : awaits h touched head ≡ Some c) where
          pub first_row : t.level c % rows ≡ row
          first_row = let a = first_filed in let b = row_is head c w in cc

          pub first_least : (p : ℕ) (d : C) → awaits h touched p ≡ Some d → t.level c ≤ t.level d
          first_least p d e =
              let nc = S.near head c w in
              let nd = S.near p d e in
              let bc = nc.least in
              let mc = nc.most in
              let bd = nd.least in
              let md = nd.most in
              let lc : t.level c - base t l < rows = omega arith in
              let la = F.near in
              let same : t.level c - base t l ≡ F.ahead = one_turn from (t.level c - base t l) F.ahead rows lc la (row_from c bc ∙ first_row ∙ F.here) in
              ⊎_elim
              (λ z. absurd (not_passed p d e (F.passed (t.level d - base t l) z)))
              (λ z. omega arith)
              (cases_lt (t.level d - base t l) F.ahead)

          pub first_early : Laws t → (p : ℕ) (d x : C) (k : Step) → awaits h touched p ≡ Some d → t.after d k ≡ Some x → t.less c x ≡ true
          first_early laws p d x k e a =
              let z = (S.near head c w).fits.levels in
              let m = first_least p d e in
              let o = (laws.rises d x k z a).0 in
              laws.ranks c x z (omega arith)

    -- the cost taken last moves on, below all that wait
    pub moved_on : (c : C) → Fits t rows → base t l ≤ t.level c → ((p : ℕ) (d : C) → awaits h touched p ≡ Some d → t.level c ≤ t.level d) → Sound t h n touched rows heads (Some c)
    moved_on c fits b m = record {
      some = S.some;
      most = S.most;
      vouches = S.vouches;
      rank = S.rank;
      lists = S.lists;
      near = λ p d e.
          let o = (S.near p d e).most in
          record { fits = fits; least = m p d e; most = omega arith };
      fits = λ _ _. fits;
    }
