-- What `find_map` answers over the rows from one up to another.
use Rattle.std.proofs.Common.{◌≡◌, ℕ, ◌+◌, ◌-◌, ◌<◌, ◌≤◌, Some, None, Option, MatchOption, IsTrue, sym, refl, ap, ◌∙◌, subst, arith}
use Rattle.std.specs.Fn.{Called}
use Rattle.std.specs.Option.{option_map, IfSome, IsSomeAnd}
use Rattle.std.specs.Iterator.{ActsAs}
use Rattle.std.specs.Iterator.Runs.{Run, SomeRun, AllItemsGive, IsFirstToGive}
use Rattle.std.proofs.iter.Yields.{nat_range_steps}
use Rattle.std.proofs.iter.runs.Sources.{range_runs}
use Rattle.ring.specs.declared.turning.Bucket.{Bucket}
use Rattle.ring.specs.Rings.{FoundIn}
use denote.Param.Members.{Mut}

module _ (heads : ℕ → Option ℕ) where
  -- a row and its head, if it has one
  abbrev pub bucket_of : ℕ → Option Bucket
  bucket_of row = option_map (λ head. record { row = row; head = head }) (heads row)

  no_head : (row : ℕ) (o : Option ℕ) → option_map {U = Bucket} (λ head. record { row = row; head = head }) o ≡ None → o ≡ None
  no_head row None e = refl
  no_head row (Some head) e = cc

  is_head : (row : ℕ) (o : Option ℕ) (b : Bucket) → option_map (λ head. record { row = row; head = head }) o ≡ Some b → (row ≡ b.row) × (o ≡ Some b.head)
  is_head row None b e = cc
  is_head row (Some head) b e = (cc, cc)

  module _ {F : Type 0} {g : Mut F (ℕ × Unit {0}) (Option Bucket)} {f : F} (acts : ActsAs g f bucket_of) where
    -- what the closure answers at an item
    at_some : (o : Option ℕ) (row : ℕ) (r : Option Bucket) → option_map (λ y. y) o ≡ Some row → IfSome o (λ x. Called g f (x, tt) r f) → bucket_of row ≡ r
    at_some None row r e c = cc
    at_some (Some x) row r e c = let same : x ≡ row = cc in sym ((acts x r f c).1 ∙ ap bucket_of same)

    given : (o : Option ℕ) (r : Option Bucket) → IsSomeAnd o (λ x. Called g f (x, tt) r f) → IfSome o (λ x. Called g f (x, tt) r f)
    given None r c = absurd c
    given (Some x) r c = c

    module _ (p : Run nat_range_steps) (k : ℕ) (first : p.from.start ≤ k) (inside : k < p.from.start + p.len) (r : Option Bucket) where
      at_row : IfSome (p.at (k - p.from.start)) (λ x. Called g f (x, tt) r f) → bucket_of k ≡ r
      at_row c =
          let i = k - p.from.start in
          let e : p.from.start + i ≡ k = omega arith in
          at_some (p.at i) k r ((range_runs p p.seen).3 i (omega arith) ∙ ap Some e) c

    pub found_over : {s : _} (r : Option Bucket) →
        SomeRun nat_range_steps s (λ p. MatchOption r (IsTrue p.whole × AllItemsGive p g f None) (λ y. (i : ℕ) × (i < p.len) × (p.len ≡ i + 1) × IsFirstToGive p g f (Some y) None i)) →
        FoundIn heads s.start s.end r
    found_over None (p, from, (whole, give)) =
        let up = range_runs p p.seen in
        let size = up.1 whole in
        subst (λ z. FoundIn heads z.start z.end None) from
        (λ k a b. no_head k (heads k) (at_row p k a (omega arith) None (give (λ (x, u) o f' c. (acts x o f' c).0) (k - p.from.start))))
    found_over (Some b) (p, from, (i, lt, len, give)) =
        let up = range_runs p p.seen in
        let few = up.0 in
        let (hit, miss) = give (λ (x, u) o f' c. (acts x o f' c).0) in
        let row = p.from.start + i in
        let here = is_head row (heads row) b (at_some (p.at i) row (Some b) (up.3 i lt) (given (p.at i) (Some b) hit)) in
        let same = here.0 in
        subst (λ z. FoundIn heads z.start z.end (Some b)) from
        (record {
          least = omega arith;
          most = omega arith;
          passed = λ k a l. no_head k (heads k) (at_row p k a (omega arith) None (given (p.at (k - p.from.start)) None (miss (k - p.from.start) (omega arith))));
          head_is = ap heads (sym same) ∙ here.1;
        })
