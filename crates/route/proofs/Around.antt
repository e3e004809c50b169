-- The places around a place are those that a step joins to it.
use Rattle.std.proofs.Common.{◌≡◌, ℕ, ◌⊎◌, ◌↔◌, List, [], ◌∷◌, ◌++◌, Some, None, Option, sym, refl, ap, ◌∙◌, subst, inl, inr}
use Rattle.grid.specs.declared.shape.Shape.{Shape}
use Rattle.grid.specs.declared.step.Step.{Step}
use Rattle.grid.specs.declared.step.Direction.{Direction}
use Rattle.grid.specs.Steps.{kind, order, neighbour_of, Joins, Among as Listed}
use Rattle.grid.proofs.Joining.{joined, joins_back, exact}
use Rattle.route.specs.Hops.{Hop, hop, Among, put_in, gather, around}
use Rattle.route.proofs.Order.{none_some}

-- one more direction at the end
pub gather_push : (s : Shape) (p : ℕ) (ds : List Direction) (d : Direction) → gather s p (ds ++ (d ∷ [])) ≡ gather s p ds ++ put_in (kind d) (neighbour_of s p d) []
unfolding gather
gather_push s p [] d = refl
gather_push s p (e ∷ ds) d = go (gather_push s p ds d) (neighbour_of s p e)
  where
    go : gather s p (ds ++ (d ∷ [])) ≡ gather s p ds ++ put_in (kind d) (neighbour_of s p d) [] → (o : Option ℕ) →
        put_in (kind e) o (gather s p (ds ++ (d ∷ []))) ≡ put_in (kind e) o (gather s p ds) ++ put_in (kind d) (neighbour_of s p d) []
    go ih None = ih
    go ih (Some q) = ap (λ l. hop (kind e) q ∷ l) ih

-- a direction of the list that leads to the hop
record Led (s : Shape) (p : ℕ) (ds : List Direction) (h : Hop) : Type 0 where
  to : Direction
  listed : Listed to ds
  by : kind to ≡ h.by
  leads : neighbour_of s p to ≡ Some h.to

led : (s : Shape) (p : ℕ) (ds : List Direction) (h : Hop) → Among h (gather s p ds) → Led s p ds h
unfolding gather
led s p [] h i = absurd i
led s p (d ∷ ds) h i = go (led s p ds h) (neighbour_of s p d) refl i
  where
    later : Led s p ds h → Led s p (d ∷ ds) h
    later f = record { to = f.to; listed = inr f.listed; by = f.by; leads = f.leads }

    go : (Among h (gather s p ds) → Led s p ds h) → (o : Option ℕ) → neighbour_of s p d ≡ o → Among h (put_in (kind d) o (gather s p ds)) → Led s p (d ∷ ds) h
    go ih None e i = later (ih i)
    go ih (Some q) e (inl j) = record { to = d; listed = inl refl; by = sym (ap (λ (x : Hop). x.by) j); leads = e ∙ ap Some (sym (ap (λ (x : Hop). x.to) j)) }
    go ih (Some q) e (inr i) = later (ih i)

gathered : (s : Shape) (p q : ℕ) (d : Direction) (ds : List Direction) → Listed d ds → neighbour_of s p d ≡ Some q → Among (hop (kind d) q) (gather s p ds)
unfolding gather
gathered s p q d [] i e = absurd i
gathered s p q d (x ∷ ds) i e = go (λ j. gathered s p q d ds j e) (neighbour_of s p x) refl i
  where
    go : (Listed d ds → Among (hop (kind d) q) (gather s p ds)) → (o : Option ℕ) → neighbour_of s p x ≡ o → (d ≡ x) ⊎ Listed d ds → Among (hop (kind d) q) (put_in (kind x) o (gather s p ds))
    go ih None f (inl j) = none_some (sym f ∙ ap (neighbour_of s p) (sym j) ∙ e)
    go ih None f (inr i) = ih i
    go ih (Some r) f (inl j) = inl (let z : Some q ≡ Some r = sym e ∙ ap (neighbour_of s p) j ∙ f in let w : q ≡ r = cc in λ k. hop (kind (j k)) (w k))
    go ih (Some r) f (inr i) = inr (ih i)

joins_of : (s : Shape) (p q : ℕ) (k : Step) → Among (hop k q) (around s p) → Joins s k p q
joins_of s p q k i = let f = led s p order (hop k q) i in (joined s p q k).1 (f.to, f.by, f.leads)

among_of : (s : Shape) (p q : ℕ) (k : Step) → Joins s k p q → Among (hop k q) (around s p)
among_of s p q k j =
    let (d, e, f) = (joined s p q k).0 j in
    subst (λ x. Among (hop x q) (around s p)) e (gathered s p q d order (exact.all d) f)

pub around_joined : (s : Shape) (p q : ℕ) (k : Step) → Among (hop k q) (around s p) ↔ Joins s k p q
around_joined s p q k = (joins_of s p q k, among_of s p q k)

pub around_back : (s : Shape) (p q : ℕ) (k : Step) → Among (hop k q) (around s p) → Among (hop k p) (around s q)
around_back s p q k i = among_of s q p k (joins_back s p q k (joins_of s p q k i))
