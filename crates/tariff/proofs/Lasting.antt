-- Nothing, followed by steps that a tariff has, is not refused: from a bound that holds after any n steps.
use Rattle.std.proofs.Common.{◌≡◌, ℕ, suc, ◌<◌, ◌≤◌, true, List, [], ◌∷◌, length, is_some, Some, refl, ap, ◌∙◌, arith}
use Rattle.grid.specs.declared.step.Step.{Step}
use Rattle.tariff.specs.Rates.{Rates, followed, charge, AllHad}

-- `Low n c`: c may be the cost of n steps. From such a cost each step that the tariff has leads to another.
module _ {C : Type 0} (t : Rates C) (Low : ℕ → C → Type 0) (begins : Low 0 t.nothing)
    (goes_on : (n : ℕ) (c : C) (k : Step) → Low n c → n < 2097152 → t.has k ≡ true → (d : C) × (t.after c k ≡ Some d) × Low (suc n) d) where
  pub charged : (ks : List Step) → AllHad t ks → length ks ≤ 2097152 → (c : C) × (charge t ks ≡ Some c) × Low (length ks) c
  charged [] all h = (t.nothing, refl, begins)
  charged (k ∷ ks) all h =
      let (c, e, low) = charged ks all.1 (omega arith) in
      let (d, f, next) = goes_on (length ks) c k low (omega arith) all.0 in
      (d, ap (λ o. followed t o k) e ∙ f, next)

  pub lasting : (ks : List Step) → AllHad t ks → length ks ≤ 2097152 → is_some (charge t ks) ≡ true
  lasting ks all h = let (c, e, low) = charged ks all h in ap is_some e
