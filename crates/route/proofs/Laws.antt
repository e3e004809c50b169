-- The laws that the trait has are those that the theory asks for.
use Rattle.std.proofs.Common.{◌≡◌, true, false, Some, sym, ap, subst, ⊎_elim}
use Rattle.std.proofs.lemmas.Bool.{both_ways, cases_Bool}
use Rattle.grid.specs.declared.step.Step.{Step}
use Rattle.tariff.specs.Rates.{Rates, Laws}
use Rattle.route.proofs.Lawful.{Lawful}

module _ {C : Type 0} {t : Rates C} (laws : Laws t) where
  one_way : (a b : C) → t.less a b ≡ true → t.less b a ≡ false
  one_way a b p = ⊎_elim
      (λ h. absurd (both_ways _ (laws.irreflexive a) (laws.transitive a b a p h)))
      (λ h. h)
      (cases_Bool (t.less b a))

  keeps : (a b x y : C) (k : Step) → t.less b a ≡ false → t.after a k ≡ Some x → t.after b k ≡ Some y → t.less y x ≡ false
  keeps a b x y k le p q = ⊎_elim
      (λ h. one_way x y (laws.keeps a b x y k h p q))
      (λ h. let e : a ≡ b = laws.same a b h le in
      let f : x ≡ y = (let g : t.after a k ≡ t.after b k = ap (λ z. t.after z k) e in cc) in
      subst (λ z. t.less y z ≡ false) (sym f) (laws.irreflexive y))
      (cases_Bool (t.less a b))

  pub lawful : Lawful t 2097152
  lawful = record {
    one_way = one_way;
    trans = laws.transitive;
    same = laws.same;
    grows = laws.grows;
    keeps = keeps;
    lasts = laws.lasts;
  }
