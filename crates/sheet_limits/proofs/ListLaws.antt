-- What a caller's list holds, from what the sheet means.
use Rattle.std.proofs.Common.{◌≡◌, ℕ, ◌≤◌, cond, List, length, Ok, Err, Result, sym, ap, ◌∙◌, subst, arith}
use Rattle.grid.specs.declared.shape.Shape.{Shape}
use Rattle.grid.specs.declared.fault.SheetFault.{SheetFault}
use Rattle.grid.specs.Places.{count_of}
use Rattle.model.proofs.WideLaws.{served_all, wide_told, wide_copper, past_told}
use Rattle.model.specs.Entries.{served}
use Rattle.model.specs.Paths.{on, Covered, Covers}
use Rattle.model.specs.Sheets.{Sheet, Held}
use Rattle.model.specs.Wide.{wide_sheet, wide_held, wide_metal, Made}
use Rattle.sheet_limits.specs.Lists.{Wired, Wires}

module _ (s : Shape) (xs ys zs ps : List ℕ) (n : ℕ) (made : Made s xs ys) where
  covered_list : count_of s ≤ length xs → Covered (wide_sheet s ys) (wide_sheet s zs) ps n → (loan loan' : ℕ) → wide_held s loan' zs ≡ wide_held s loan ys → Wired s xs zs ps n
  covered_list long w loan loan' kept =
      let size = made.size in
      let all : served s ys ≡ count_of s = served_all s ys (omega arith) in
      let limit = w.limit in
      record {
        places = λ q h.
            let was : (wide_metal s ys).copper q ≡ 0 = wide_copper s ys q (omega arith) ∙ made.places q h in
            sym (wide_copper s zs q (omega arith)) ∙ (w.copper q ∙ ap (λ (v : ℕ). cond (on q ps) n v) was);
        past = λ q h. past_told s ys zs w.limit (ap (λ (k : Held). k.rest) kept) q (omega arith) ∙ made.past q h;
      }

  same_shape : (t : Shape) (r : Result (Unit {0}) SheetFault) → Covers (wide_sheet s ys) (wide_sheet t zs) ps n r → t ≡ s
  same_shape t (Ok u) w = w.shape
  same_shape t (Err f) w = ap (λ (b : Sheet). b.area.shape) w

  covers_list : (r : Result (Unit {0}) SheetFault) → Covers (wide_sheet s ys) (wide_sheet s zs) ps n r → (loan loan' : ℕ) → wide_held s loan' zs ≡ wide_held s loan ys → Wires s xs zs ps n r
  covers_list (Ok u) w loan loan' kept = λ long. covered_list long w loan loan' kept
  covers_list (Err f) w loan loan' kept =
      let e : zs ≡ ys = (wide_told s ys).one zs (λ p. ap (λ (b : Sheet). b.metal.copper p) w) (ap (λ (b : Sheet). b.metal.limit) w) (ap (λ (k : Held). k.rest) kept) in
      subst (λ (vs : List ℕ). Made s xs vs) (sym e) made

-- THE LIST AFTER a path was laid, or refused, on a sheet of the shape s that was made on the list xs and left ys, then zs
pub wires : (s t u : Shape) (xs ys zs ps : List ℕ) (n loan loan' : ℕ) (r : Result (Unit {0}) SheetFault) → t ≡ s → Made s xs ys → Covers (wide_sheet t ys) (wide_sheet u zs) ps n r → wide_held u loan' zs ≡ wide_held t loan ys → (vs : List ℕ) → vs ≡ zs → Wires s xs vs ps n r
wires s t u xs ys zs ps n loan loan' r e made w kept vs same =
    let made' : Made t xs ys = subst (λ (x : Shape). Made x xs ys) (sym e) made in
    let k : u ≡ t = same_shape t xs ys zs ps n made' u r w in
    let w' = subst (λ (x : Shape). Covers (wide_sheet t ys) (wide_sheet x zs) ps n r) k w in
    let kept' = subst (λ (x : Shape). wide_held x loan' zs ≡ wide_held t loan ys) k kept in
    subst (λ (l : List ℕ). Wires s xs l ps n r) (sym same)
    (subst (λ (x : Shape). Wires x xs zs ps n r) e (covers_list t xs ys zs ps n made' r w' loan loan' kept'))
