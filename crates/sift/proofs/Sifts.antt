-- One turn of a place that is sifted up or down.
use Rattle.std.proofs.Common.{◌≡◌, ℕ, ◌+◌, ◌/◌, ◌<◌, ◌≤◌, true, false, Some, None, sym, refl, ap, ◌∙◌, subst, arith}
use Rattle.tariff.specs.Rates.{Rates, Laws}
use Rattle.front.specs.Places.{room, changed}
use Rattle.sift.specs.Layouts.{Layout, filled, lower, key, Order, Hole, HoleUp, HoleDown, SameWaiting, Sifted, below_parent, lower_child}
use Rattle.front.proofs.Changes.{changed_at, changed_off}
use Rattle.sift.proofs.Links.{link_step, link_waits}
use Rattle.sift.proofs.Orders.{swap_up, settled_up, swap_down, settled_down, below_parent_true, below_parent_false, lower_child_some, lower_child_none}

-- a sift that has moved nothing yet, and one more turn of it
pub same_self : {C : Type 0} (h : Layout C) (count : ℕ) → SameWaiting h h count
same_self h count = record { cost = λ p. refl; waits = λ p. refl }

pub same_on : {C : Type 0} (g h k : Layout C) (count : ℕ) → SameWaiting g h count → SameWaiting h k count → SameWaiting g k count
same_on g h k count a b = record { cost = λ p. b.cost p ∙ a.cost p; waits = λ p. b.waits p ∙ a.waits p }

module _ {C : Type 0} (h : Layout C) (n count i u q : ℕ) (c : C) (s : Hole h n count i q c) (u1 : 1 ≤ u) (um : u ≤ count) (ne : u ≡ i → ⊥) where
  pub hole_step : Hole (filled h i (h.slot u)) n count u q c
  hole_step = record {
    first = u1;
    most = um;
    place = s.place;
    here = s.here;
    linked = link_step h n count i u q s.linked s.place u1 um s.first s.most ne;
  }

  pub hole_same : SameWaiting (filled h i q) (filled (filled h i (h.slot u)) u q) count
  hole_same = record {
    cost = λ p. refl;
    waits = λ p. link_waits h n count i u q s.linked s.place u1 um s.first s.most ne p;
  }

  -- the place at another position than the hole
  pub hole_place : h.slot u < n
  hole_place = subst (λ x. x < n) (changed_off h.slot i q u ne) (s.linked.slots u u1 um).0

  pub hole_key : key (filled h i q) u ≡ key h u
  hole_key = ap h.cost (changed_off h.slot i q u ne)

-- that place has a record, in a list of m
pub place_inside : {C : Type 0} (h : Layout C) (m m' count i u q : ℕ) (c : C) → m ≡ m' → Hole h (room m') count i q c → 1 ≤ u → u ≤ count → (u ≡ i → ⊥) → (o : ℕ) → h.slot u ≡ o → o + 1 < m
place_inside h m m' count i u q c e s u1 um ne o is = let p = hole_place h (room m') count i u q c s u1 um ne in omega arith

module _ {C : Type 0} (h : Layout C) (n count i q : ℕ) (c : C) (s : Hole h n count i q c) where
  pub hole_here : key (filled h i q) i ≡ Some c
  hole_here = ap h.cost (changed_at h.slot i q i refl) ∙ s.here

-- the keys after the place that is to be at i, and the one at u, change places
module _ {C : Type 0} (h : Layout C) (i u q : ℕ) (ne : u ≡ i → ⊥) where
  pub keys_up : key (filled (filled h i (h.slot u)) u q) u ≡ key (filled h i q) i
  keys_up = ap h.cost (changed_at (changed h.slot i (h.slot u)) u q u refl ∙ sym (changed_at h.slot i q i refl))

  pub keys_down : key (filled (filled h i (h.slot u)) u q) i ≡ key (filled h i q) u
  keys_down = ap h.cost (changed_off (changed h.slot i (h.slot u)) u q i (λ e. ne (sym e)) ∙ changed_at h.slot i (h.slot u) i refl ∙ sym (changed_off h.slot i q u ne))

  pub keys_off : (j : ℕ) → (j ≡ i → ⊥) → (j ≡ u → ⊥) → key (filled (filled h i (h.slot u)) u q) j ≡ key (filled h i q) j
  keys_off j n1 n2 = ap h.cost (changed_off (changed h.slot i (h.slot u)) u q j n2 ∙ changed_off h.slot i (h.slot u) j n1 ∙ sym (changed_off h.slot i q j n1))

-- a hole at i, and what was in the heap g before
module _ {C : Type 0} (t : Rates C) (g h : Layout C) (n count i q : ℕ) (c : C) where
  -- that goes up
  abbrev pub GoingUp : Type 0
  GoingUp = HoleUp t h n count i q c × SameWaiting g (filled h i q) count

  -- that goes down
  abbrev pub GoingDown : Type 0
  GoingDown = HoleDown t h n count i q c × SameWaiting g (filled h i q) count

module _ {C : Type 0} {t : Rates C} (laws : Laws t) (g h h' : Layout C) (n count i q o : ℕ) (c : C) where
  -- the place o at the parent of i goes down to i
  pub up_turn : GoingUp t g h n count i q c → true ≡ below_parent t h i c → h.slot (i / 2) ≡ o → h' ≡ filled h i o → GoingUp t g h' n count (i / 2) q c
  up_turn (s, v) up eo e =
      let (two, b) = below_parent_true t h i c up in
      let u = i / 2 in
      let most = s.hole.most in
      let um : u ≤ count = omega arith in
      let u1 : 1 ≤ u = omega arith in
      let ne : (u ≡ i → ⊥) = λ e. omega arith in
      let ki = hole_here h n count i q c s.hole in
      let ku = hole_key h n count i u q c s.hole u1 um ne in
      let r : HoleUp t (filled h i (h.slot u)) n count u q c = record {
        hole = hole_step h n count i u q c s.hole u1 um ne;
        order = swap_up laws (key (filled h i q)) (key (filled (filled h i (h.slot u)) u q)) count i s.order two most (rw (ki, ku) b)
            (keys_up h i u q ne) (keys_down h i u q ne) (keys_off h i u q ne);
      } in
      subst (λ k. GoingUp t g k n count u q c) (ap (filled h i) eo ∙ sym e) (r, same_on g (filled h i q) _ count v (hole_same h n count i u q c s.hole u1 um ne))

  -- the place o at the child m of i goes up to i
  pub down_turn : (m : ℕ) → GoingDown t g h n count i q c → Some m ≡ lower_child t h count i c → h.slot m ≡ o → h' ≡ filled h i o → GoingDown t g h' n count m q c
  down_turn m (s, v) down eo e =
      let l = lower_child_some laws h count i c m down in
      let mi = l.child.under in
      let i1 = s.hole.first in
      let m1 : 1 ≤ m = omega arith in
      let ne : (m ≡ i → ⊥) = λ e. omega arith in
      let k = key (filled h i q) in
      let ki : k i ≡ Some c = hole_here h n count i q c s.hole in
      let km : k m ≡ key h m = hole_key h n count i m q c s.hole m1 l.child.most ne in
      let b : lower t (k m) (k i) ≡ true = rw (km, ki) l.less in
      let r : HoleDown t (filled h i (h.slot m)) n count m q c = record {
        hole = hole_step h n count i m q c s.hole m1 l.child.most ne;
        order = swap_down laws k (key (filled (filled h i (h.slot m)) m q)) count i m s.order i1 mi l.child.most b
            (λ j jc e. let kj : k j ≡ key h j = hole_key h n count i j q c s.hole (omega arith) jc (λ x. omega arith) in rw (kj, km) (l.child.least j jc e))
            (keys_up h i m q ne) (keys_down h i m q ne) (keys_off h i m q ne);
      } in
      subst (λ k. GoingDown t g k n count m q c) (ap (filled h i) eo ∙ sym e) (r, same_on g (filled h i q) _ count v (hole_same h n count i m q c s.hole m1 l.child.most ne))

module _ {C : Type 0} {t : Rates C} (laws : Laws t) (g h h' : Layout C) (n count i q : ℕ) (c : C) where
  -- the hole is filled where it is
  done : Hole h n count i q c → SameWaiting g (filled h i q) count → Order t (key (filled h i q)) count → h' ≡ filled h i q → Sifted t g h' n count
  done s v o e = subst (λ k. Sifted t g k n count) (sym e) (record { same = v; heaped = record { linked = s.linked; order = o } })

  pub up_done : GoingUp t g h n count i q c → false ≡ below_parent t h i c → h' ≡ filled h i q → (m : ℕ) → count ≡ m → Sifted t g h' n m
  up_done (s, v) stop e m l = subst (Sifted t g h' n) l (done s.hole v (settled_up laws (key (filled h i q)) count i s.order (λ two.
      let most = s.hole.most in
      let ki = hole_here h n count i q c s.hole in
      let ku = hole_key h n count i (i / 2) q c s.hole (omega arith) (omega arith) (λ e. omega arith) in
      rw (ki, ku) (below_parent_false t h i c stop two))) e)

  pub down_done : GoingDown t g h n count i q c → None ≡ lower_child t h count i c → h' ≡ filled h i q → (m : ℕ) → count ≡ m → Sifted t g h' n m
  down_done (s, v) stop e m l = subst (Sifted t g h' n) l (done s.hole v (settled_down laws (key (filled h i q)) count i s.order (λ j jc under.
      let i1 = s.hole.first in
      let k = key (filled h i q) in
      let ki : k i ≡ Some c = hole_here h n count i q c s.hole in
      let kj : k j ≡ key h j = hole_key h n count i j q c s.hole (omega arith) jc (λ x. omega arith) in
      rw (kj, ki) (lower_child_none laws h count i c stop j jc under))) e)
