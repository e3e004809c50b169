-- Rows stay rows as a place is put before a head, or is taken out.
use Rattle.std.proofs.Common.{◌≡◌, ℕ, zero, suc, ◌+◌, ◌≤◌, cond, eqb, Some, None, Option, unwrap_or, sym, refl, ap, ◌∙◌, subst, ⊎_elim, arith}
use Rattle.std.proofs.lemmas.Bool.{cases_eq, eq-eqb, ne_eqb, cond-true, cond-false}
use Rattle.front.specs.Places.{changed}
use Rattle.rows.specs.Rows.{Follows, Rows}
use Rattle.front.proofs.Changes.{changed_at, changed_off, none_some, cases_option}

-- A PLACE p IS PUT BEFORE THE HEAD OF THE ROW r
module _ (f heads : ℕ → Option ℕ) (next back rank : ℕ → ℕ) (R : Rows f heads next back rank) (p r : ℕ) (u : f p ≡ None) where
  -- the head, or p itself
  abbrev follower : ℕ
  follower = unwrap_or (heads r) p

  abbrev Filed : ℕ → Option ℕ
  Filed = changed f p (Some r)

  abbrev Heads : ℕ → Option ℕ
  Heads = changed heads r (Some p)

  abbrev Next : ℕ → ℕ
  Next = changed next p follower

  abbrev Back : ℕ → ℕ
  Back = changed back follower p

  abbrev Rank : ℕ → ℕ
  Rank = changed rank p (rank follower + 1)

  -- no place that was filed is p
  other : (s x : ℕ) → f x ≡ Some s → x ≡ p → ⊥
  other s x e xp = none_some (f x) s (ap f xp ∙ u) e

  still : (s x : ℕ) → f x ≡ Some s → Filed x ≡ Some s
  still s x e = changed_off f p (Some r) x (other s x e) ∙ e

  was : (s x : ℕ) → Filed x ≡ Some s → (x ≡ p → ⊥) → f x ≡ Some s
  was s x e ne = sym (changed_off f p (Some r) x ne) ∙ e

  here : (s x : ℕ) → Filed x ≡ Some s → x ≡ p → s ≡ r
  here s x e xp = let a = changed_at f p (Some r) x xp in cc

  head_is : (x : ℕ) → heads r ≡ Some x → follower ≡ x
  head_is x e = rw e

  is_head : (follower ≡ p → ⊥) → heads r ≡ Some follower
  is_head ne = ⊎_elim
      (λ n. absurd (ne (rw n)))
      (λ x. x.1 ∙ ap Some (sym (head_is x.0 x.1)))
      (cases_option (heads r))

  kept : (s a b : ℕ) → Follows f next back rank s a b → (b ≡ follower → ⊥) → Follows Filed Next Back Rank s a b
  kept s a b w ne =
      let oa = other s a w.first in
      let ob = other s b w.second in
      let ra = changed_off rank p (rank follower + 1) a oa in
      let rb = changed_off rank p (rank follower + 1) b ob in
      let l = w.falls in
      record {
        first = still s a w.first;
        second = still s b w.second;
        onward = changed_off next p follower a oa ∙ w.onward;
        backward = changed_off back follower p b ne ∙ w.backward;
        falls = omega arith;
      }

  new : (follower ≡ p → ⊥) → Follows Filed Next Back Rank r p follower
  new ne =
      let e = R.head r follower (is_head ne) in
      let rp = changed_at rank p (rank follower + 1) p refl in
      let rq = changed_off rank p (rank follower + 1) follower ne in
      record {
        first = changed_at f p (Some r) p refl;
        second = still r follower e;
        onward = changed_at next p follower p refl;
        backward = changed_at back follower p follower refl;
        falls = omega arith;
      }

  pub linked : Rows Filed Heads Next Back Rank
  linked = record {
    head = λ s x e. ⊎_elim
        (λ sr. let a = changed_at heads r (Some p) s sr in let xp : x ≡ p = cc in changed_at f p (Some r) x xp ∙ ap Some (sym sr))
        (λ ns. still s x (R.head s x (sym (changed_off heads r (Some p) s ns) ∙ e)))
        (cases_eq s r);
    headed = λ s x e. ⊎_elim
        (λ xp. record { head = p; here = changed_at heads r (Some p) s (here s x e xp); most = let a = ap Rank xp in omega arith })
        (λ xn.
        let t = R.headed s x (was s x e xn) in
        let m = t.most in
        let rx = changed_off rank p (rank follower + 1) x xn in
        ⊎_elim
        (λ sr.
        let q = ap rank (head_is t.head (ap heads (sym sr) ∙ t.here)) in
        let rp = changed_at rank p (rank follower + 1) p refl in
        record { head = p; here = changed_at heads r (Some p) s sr; most = omega arith })
        (λ ns.
        let rh = changed_off rank p (rank follower + 1) t.head (other s t.head (R.head s t.head t.here)) in
        record { head = t.head; here = changed_off heads r (Some p) s ns ∙ t.here; most = omega arith })
        (cases_eq s r))
        (cases_eq x p);
    before = λ s x e nh. ⊎_elim
        (λ xp. absurd (nh (changed_at heads r (Some p) s (here s x e xp) ∙ ap Some (sym xp))))
        (λ xn.
        let w = was s x e xn in
        ⊎_elim
        (λ xq.
        let ne : (follower ≡ p → ⊥) = λ q. xn (xq ∙ q) in
        let fq = R.head r follower (is_head ne) in
        let fx = ap f xq in
        let sr : s ≡ r = cc in
        (p, subst (λ z. Follows Filed Next Back Rank s p z) (sym xq) (subst (λ z. Follows Filed Next Back Rank z p follower) (sym sr) (new ne))))
        (λ xq.
        let old = R.before s x w (λ e. ⊎_elim
        (λ sr. xq (sym (head_is x (ap heads (sym sr) ∙ e))))
        (λ ns. nh (changed_off heads r (Some p) s ns ∙ e))
        (cases_eq s r)) in
        (old.0, kept s old.0 x old.1 xq))
        (cases_eq x follower))
        (cases_eq x p);
    after = λ s x e nx. ⊎_elim
        (λ xp.
        let sr = here s x e xp in
        let ne : (follower ≡ p → ⊥) = λ q. nx (changed_at next p follower x xp ∙ q ∙ sym xp) in
        (follower, subst (λ z. Follows Filed Next Back Rank s z follower) (sym xp) (subst (λ z. Follows Filed Next Back Rank z p follower) (sym sr) (new ne))))
        (λ xn.
        let w = was s x e xn in
        let old = R.after s x w (λ q. nx (changed_off next p follower x xn ∙ q)) in
        let y = old.0 in (
          y,
          kept s x y old.1 (λ yq.
              let ne : (follower ≡ p → ⊥) = λ q. other s y old.1.second (yq ∙ q) in
              let hq = is_head ne in
              let fq = R.head r follower hq in
              let fy = old.1.second in
              let fe = ap f yq in
              let sr : s ≡ r = cc in
              let t = R.headed s x w in
              let he = head_is t.head (ap heads (sym sr) ∙ t.here) in
              let re = ap rank (yq ∙ he) in
              let m = t.most in
              let l = old.1.falls in
              omega arith),
        ))
        (cases_eq x p);
  }

-- A PLACE p IS TAKEN OUT OF THE ROW r
module _ (f heads : ℕ → Option ℕ) (next back rank : ℕ → ℕ) (R : Rows f heads next back rank) (p r : ℕ) (fp : f p ≡ Some r) where
  abbrev Left : ℕ → Option ℕ
  Left = changed f p None

  stays : (s x : ℕ) → f x ≡ Some s → (x ≡ p → ⊥) → Left x ≡ Some s
  stays s x e ne = changed_off f p None x ne ∙ e

  not_p : (s x : ℕ) → Left x ≡ Some s → x ≡ p → ⊥
  not_p s x e xp = none_some (Left x) s (changed_at f p None x xp) e

  had : (s x : ℕ) → Left x ≡ Some s → f x ≡ Some s
  had s x e = sym (changed_off f p None x (not_p s x e)) ∙ e

  same_row : (s x : ℕ) → f x ≡ Some s → x ≡ p → s ≡ r
  same_row s x e xp = let a = ap f xp in cc

  -- the place after p
  abbrev Later : Option ℕ
  Later = cond (eqb (next p) p) None (Some (next p))

  lone : next p ≡ p → Later ≡ None
  lone e = cond-true (eqb (next p) p) None (Some (next p)) (eq-eqb (next p) p e)

  more : (next p ≡ p → ⊥) → Later ≡ Some (next p)
  more e = cond-false (eqb (next p) p) None (Some (next p)) (ne_eqb (next p) p e)

  -- p is the head
  module _ (hp : heads r ≡ Some p) where
    top : (x : ℕ) → f x ≡ Some r → rank x ≤ rank p
    top x e = let t = R.headed r x e in let m = t.most in let h = t.here in let a : t.head ≡ p = cc in let b = ap rank a in omega arith

    over : (x : ℕ) → f x ≡ Some r → (x ≡ p → ⊥) → (a : ℕ) × Follows f next back rank r a x
    over x e ne = R.before r x e (λ h. let a : x ≡ p = cc in ne a)

    -- any other place of the row is the one after p, or ranks below it
    climb : (k x : ℕ) → f x ≡ Some r → (x ≡ p → ⊥) → rank p ≤ rank x + k → (next p ≡ p → ⊥) × (rank x ≤ rank (next p))
    climb zero x e ne l = let w = over x e ne in let t = top w.0 w.1.first in let m = w.1.falls in absurd (omega arith)
    climb (suc k) x e ne l =
        let w = over x e ne in
        let m = w.1.falls in
        ⊎_elim
        (λ ap'. let e : next p ≡ x = ap next (sym ap') ∙ w.1.onward in let q = ap rank e in ((λ z. ne (sym e ∙ z)), omega arith))
        (λ an. let q = climb k w.0 w.1.first an (omega arith) in (q.0, let o = q.1 in omega arith))
        (cases_eq w.0 p)

    pub unheaded : Rows Left (changed heads r Later) next back rank
    unheaded = record {
      head = λ s x e. ⊎_elim
          (λ sr.
          let a : Later ≡ Some x = sym (changed_at heads r Later s sr) ∙ e in
          ⊎_elim
          (λ np. absurd (none_some Later x (lone np) a))
          (λ np.
          let m = more np in
          let xn : next p ≡ x = cc in
          let w = R.after r p fp np in
          let yn : w.0 ≡ next p = sym w.1.onward in
          subst (λ z. Left x ≡ Some z) (sym sr) (stays r x (ap f (sym (yn ∙ xn)) ∙ w.1.second) (λ xp. np (xn ∙ xp))))
          (cases_eq (next p) p))
          (λ ns.
          let a = R.head s x (sym (changed_off heads r Later s ns) ∙ e) in
          stays s x a (λ xp. ns (same_row s x a xp)))
          (cases_eq s r);
      headed = λ s x e.
          let fx = had s x e in
          ⊎_elim
          (λ sr.
          let c = climb (rank p) x (fx ∙ ap Some sr) (not_p s x e) (omega arith) in
          record { head = next p; here = changed_at heads r Later s sr ∙ more c.0; most = c.1 })
          (λ ns. let t = R.headed s x fx in record { head = t.head; here = changed_off heads r Later s ns ∙ t.here; most = t.most })
          (cases_eq s r);
      before = λ s x e nh.
          let fx = had s x e in
          let w = R.before s x fx (λ h. ⊎_elim
          (λ sr. not_p s x e (let a = ap heads sr in cc))
          (λ ns. nh (changed_off heads r Later s ns ∙ h))
          (cases_eq s r)) in
          let o = w.1 in (
            w.0,
            record {
              first = stays s w.0 o.first (λ ap'.
                  let sr = same_row s w.0 o.first ap' in
                  let xn : next p ≡ x = ap next (sym ap') ∙ o.onward in
                  nh (changed_at heads r Later s sr ∙ more (λ z. not_p s x e (sym xn ∙ z)) ∙ ap Some xn));
              second = e;
              onward = o.onward;
              backward = o.backward;
              falls = o.falls;
            },
          );
      after = λ s x e nx.
          let fx = had s x e in
          let w = R.after s x fx nx in
          let o = w.1 in (
            w.0,
            record {
              first = e;
              second = stays s w.0 o.second (λ yp.
                  let sr = same_row s w.0 o.second yp in
                  let t = top x (fx ∙ ap Some sr) in
                  let q = ap rank yp in
                  let l = o.falls in
                  omega arith);
              onward = o.onward;
              backward = o.backward;
              falls = o.falls;
            },
          );
    }

  -- p is not the head
  module _ (hp : heads r ≡ Some p → ⊥) where
    abbrev prior : ℕ
    prior = back p

    abbrev onto : ℕ
    onto = unwrap_or Later prior

    abbrev Next' : ℕ → ℕ
    Next' = changed next prior onto

    abbrev Back' : ℕ → ℕ
    Back' = changed back (next p) prior

    link : Follows f next back rank r prior p
    link = let w = R.before r p fp hp in subst (λ z. Follows f next back rank r z p) (sym w.1.backward) w.1

    prior_off : prior ≡ p → ⊥
    prior_off e = let l = link.falls in let q = ap rank e in omega arith

    onward_link : (next p ≡ p → ⊥) → Follows f next back rank r p (next p)
    onward_link ne = let w = R.after r p fp ne in subst (λ z. Follows f next back rank r p z) (sym w.1.onward) w.1

    -- the two neighbours
    joined : (next p ≡ p → ⊥) → Follows Left Next' Back' rank r prior (next p)
    joined ne =
        let o = onward_link ne in
        let l = link.falls in
        let m = o.falls in
        record {
          first = stays r prior link.first prior_off;
          second = stays r (next p) o.second ne;
          onward = changed_at next prior onto prior refl ∙ ap (λ z. unwrap_or z prior) (more ne);
          backward = changed_at back (next p) prior (next p) refl;
          falls = omega arith;
        }

    -- two that p is none of
    apart : (s a b : ℕ) → Follows f next back rank s a b → (a ≡ p → ⊥) → (b ≡ p → ⊥) → Follows Left Next' Back' rank s a b
    apart s a b w na nb = record {
      first = stays s a w.first na;
      second = stays s b w.second nb;
      onward = changed_off next prior onto a (λ e. nb (sym w.onward ∙ ap next e ∙ link.onward)) ∙ w.onward;
      backward = changed_off back (next p) prior b (λ e. na (sym w.backward ∙ ap back e ∙ (onward_link (λ z. nb (e ∙ z))).backward)) ∙ w.backward;
      falls = w.falls;
    }

    pub spliced : Rows Left heads Next' Back' rank
    spliced = record {
      head = λ s x e. let a = R.head s x e in stays s x a (λ xp. hp (ap heads (sym (same_row s x a xp)) ∙ e ∙ ap Some xp));
      headed = λ s x e. R.headed s x (had s x e);
      before = λ s x e nh.
          let fx = had s x e in
          let w = R.before s x fx nh in
          ⊎_elim
          (λ ap'.
          let sr = same_row s w.0 w.1.first ap' in
          let xn : x ≡ next p = sym w.1.onward ∙ ap next ap' in (
            prior,
            subst (λ z. Follows Left Next' Back' rank s prior z) (sym xn)
                (subst (λ z. Follows Left Next' Back' rank z prior (next p)) (sym sr) (joined (λ z. not_p s x e (xn ∙ z)))),
          ))
          (λ an. (w.0, apart s w.0 x w.1 an (not_p s x e)))
          (cases_eq w.0 p);
      after = λ s x e nx.
          let fx = had s x e in
          ⊎_elim
          (λ xb.
          let sr : s ≡ r = let a = link.first in let b = ap f xb in cc in
          let ne : (next p ≡ p → ⊥) = λ z. nx (changed_at next prior onto x xb ∙ ap (λ z. unwrap_or z prior) (lone z) ∙ sym xb) in (
            next p,
            subst (λ z. Follows Left Next' Back' rank s z (next p)) (sym xb)
                (subst (λ z. Follows Left Next' Back' rank z prior (next p)) (sym sr) (joined ne)),
          ))
          (λ xb.
          let w = R.after s x fx (λ z. nx (changed_off next prior onto x xb ∙ z)) in
          (w.0, apart s x w.0 w.1 (not_p s x e) (λ yp. xb (sym w.1.backward ∙ ap back yp))))
          (cases_eq x prior);
    }
