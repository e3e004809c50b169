-- The octile tariff keeps the laws.
use Rattle.std.specs.Prelude.{◌≡◌, ℕ, suc, ◌+◌, ◌*◌, ◌<◌, ◌≤◌, true, Some}
use Rattle.std.proofs.Common.{sym, ◌∙◌, ap, ⊎_elim, arith}
use Rattle.std.proofs.lemmas.Bool.{cases_lt, le-leb, true≢false}
use Rattle.std.proofs.lemmas.Bool.Decides.{nat_tests}
use Rattle.grid.specs.declared.step.Step.{Step}
use Rattle.grid.specs.declared.step.Step.TheVariants.{Straight, Diagonal, Via}
use Rattle.surd.specs.declared.Surd.{Surd}
use Rattle.surd.specs.Surds.{surd, is_below, whole_part, whole_of}
use Rattle.surd.specs.OrderLaws.{below_irreflexive, below_transitive, below_same}
use Rattle.surd.proofs.Order.{below_more, below_shift, below_whole}
use Rattle.surd.proofs.Roots.{whole_step}
use Rattle.tariff.specs.Rates.{Laws}
use Rattle.tariff.proofs.Lasting.{lasting}
use Rattle.octile.specs.Octile.{octile_within, octile_after, octile_rates}

-- what a step adds to a, and to b
straight_part : Step → ℕ
straight_part Straight = 1
straight_part Diagonal = 0
straight_part Via = 8

diagonal_part : Step → ℕ
diagonal_part Straight = 0
diagonal_part Diagonal = 1
diagonal_part Via = 0

parts : (k : Step) → (1 ≤ straight_part k + diagonal_part k) × (straight_part k + 2 * diagonal_part k ≤ 8) × (diagonal_part k ≤ 1)
unfolding straight_part diagonal_part
parts Straight = (omega arith, omega arith, omega arith)
parts Diagonal = (omega arith, omega arith, omega arith)
parts Via = (omega arith, omega arith, omega arith)

after_is : (x : Surd) (k : Step) → octile_after x k ≡ octile_within (x.a + straight_part k) (x.b + diagonal_part k)
unfolding straight_part diagonal_part
after_is x Straight = let e : x.b ≡ x.b + 0 = omega arith in ap (λ b. octile_within (x.a + 1) b) e
after_is x Diagonal = let e : x.a ≡ x.a + 0 = omega arith in ap (λ a. octile_within a (x.b + 1)) e
after_is x Via = let e : x.b ≡ x.b + 0 = omega arith in ap (λ b. octile_within (x.a + 8) b) e

-- what is not refused
within_is : (a b : ℕ) (y : Surd) → octile_within a b ≡ Some y → y ≡ surd a b
within_is a b y h = grind (arith, nat_tests)

added : (x y : Surd) (k : Step) → octile_after x k ≡ Some y → (y.a ≡ x.a + straight_part k) × (y.b ≡ x.b + diagonal_part k)
added x y k h =
    let e = within_is (x.a + straight_part k) (x.b + diagonal_part k) y (sym (after_is x k) ∙ h) in
    (ap (λ (c : Surd). c.a) e, ap (λ (c : Surd). c.b) e)

octile_grows : (x y : Surd) (k : Step) → octile_after x k ≡ Some y → is_below x y ≡ true
octile_grows x y k h = let sums = added x y k h in let steps = parts k in below_more x y (omega arith) (omega arith) (omega arith)

octile_keeps : (x y v w : Surd) (k : Step) → is_below x y ≡ true → octile_after x k ≡ Some v → octile_after y k ≡ Some w → is_below v w ≡ true
octile_keeps x y v w k h e f =
    let one = added x v k e in
    let two = added y w k f in
    below_shift x y v w (straight_part k) (diagonal_part k) one.0 one.1 two.0 two.1 h

-- no step adds more than 8 to a or 1 to b
abbrev Low : ℕ → Surd → Type 0
Low n c = (c.a ≤ 8 * n) × (c.b ≤ n)

goes_on : (n : ℕ) (c : Surd) (k : Step) → Low n c → n < 2097152 → true ≡ true → (d : Surd) × (octile_after c k ≡ Some d) × Low (suc n) d
goes_on n c k low h has =
    let a = c.a + straight_part k in
    let b = c.b + diagonal_part k in
    let steps = parts k in
    let fits-a = le-leb a 16777216 (omega arith) in
    let fits-b = le-leb b 2097152 (omega arith) in
    (surd a b, after_is c k ∙ rw (fits-a, fits-b), (omega arith, omega arith))

part_rises : (b d n : ℕ) → n ≤ 1 → d ≡ b + n → (whole_part b + n ≤ whole_part d) × (whole_part d ≤ whole_part b + 2 * n)
part_rises b d n l e = ⊎_elim
    (λ some. let f : d ≡ b + 1 = omega arith in let same = ap whole_part f in let step = whole_step b in (omega arith, omega arith))
    (λ none. let f : d ≡ b = omega arith in let same = ap whole_part f in (omega arith, omega arith))
    (cases_lt 0 n)

octile_rises : (x y : Surd) (k : Step) → octile_after x k ≡ Some y → (whole_of x + 1 ≤ whole_of y) × (whole_of y ≤ whole_of x + 8)
octile_rises x y k h =
    let sums = added x y k h in
    let steps = parts k in
    let part = part_rises x.b y.b (diagonal_part k) steps.2 sums.1 in
    (omega arith, omega arith)

pub octile_laws : Laws octile_rates
octile_laws = record {
  irreflexive = below_irreflexive;
  transitive = below_transitive;
  same = below_same;
  grows = octile_grows;
  keeps = octile_keeps;
  lacks = λ c k h. absurd (true≢false h);
  lasts = lasting octile_rates Low (omega arith, omega arith) goes_on;
  ranks = λ x y p h. below_whole x y h;
  rises = λ x y k p h. octile_rises x y k h;
}
