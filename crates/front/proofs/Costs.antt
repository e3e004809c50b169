-- The order of costs that a tariff's laws give.
use Rattle.std.proofs.Common.{◌≡◌, true, false, ⊎_elim}
use Rattle.std.proofs.lemmas.Bool.{cases_Bool}
use Rattle.tariff.specs.Rates.{Rates, Laws}

module _ {C : Type 0} {t : Rates C} (laws : Laws t) where
  -- "not less" is transitive
  pub not_less : (a b c : C) → t.less a b ≡ false → t.less b c ≡ false → t.less a c ≡ false
  not_less a b c p q = ⊎_elim
      (λ h. ⊎_elim
      (λ k. let e = laws.transitive b a c k h in cc)
      (λ k. let e : a ≡ b = laws.same a b p k in cc)
      (cases_Bool (t.less b a)))
      (λ h. h)
      (cases_Bool (t.less a c))

  -- of two costs only one is less
  pub less_not : (a b : C) → t.less a b ≡ true → t.less b a ≡ false
  less_not a b p = ⊎_elim
      (λ h. let e = laws.transitive a b a p h in let i = laws.irreflexive a in cc)
      (λ h. h)
      (cases_Bool (t.less b a))

  -- c is not greater than d, and d is less than x
  pub under : (c d x : C) → t.less d c ≡ false → t.less d x ≡ true → t.less c x ≡ true
  under c d x p q = ⊎_elim
      (λ h. laws.transitive c d x h q)
      (λ h. let e : c ≡ d = laws.same c d h p in cc)
      (cases_Bool (t.less c d))
