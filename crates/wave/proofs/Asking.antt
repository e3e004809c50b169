-- What the questions of a search tell, and how its labels end up in the caller's list.
use Rattle.std.proofs.Common.{◌≡◌, ℕ, zero, suc, ◌≤◌, Bool, true, false, cond, ltb, leb, List, [], ◌∷◌, ◌++◌, length, get_or, take, drop, Some, None, Ok, Err, Option, Result, sym, refl, ap, ◌∙◌, subst, arith}
use Rattle.std.proofs.lemmas.List.{same_lists, get_or_default, length-take-le}
use Rattle.std.proofs.lemmas.Bool.{leb-true}
use Rattle.grid.specs.Faults.{Refusal}
use Rattle.grid.specs.declared.shape.Shape.{Shape}
use Rattle.grid.specs.Places.{count_of}
use Rattle.grid.proofs.Numbering.{count_most}
use Rattle.tariff.specs.Rates.{Rates, Laws}
use Rattle.front.specs.Queue.{Queue}
use Rattle.model.specs.Sheets.{Ground, Sound}
use Rattle.route.specs.Paths.{maze, labels, label_of}
use Rattle.route.specs.Search.{Maze, least}
use Rattle.route.specs.Sweep.{row, swept}
use Rattle.route.proofs.Order.{none_some}
use Rattle.route.proofs.Sweep.{swept_is_least}
use Rattle.route.proofs.Laws.{lawful}
use Rattle.wave.specs.declared.connection.Connection.{Connection}
use Rattle.wave.specs.Questions.{Question, ask, refused_by, unless, serves, start_asks, wave_asks, search_asks, whole_wave, RefusalLeaves}

-- a question that holds, and the rest
pub passed : (b : Bool) (f : Refusal) (rest : Option Refusal) → cond b rest (Some f) ≡ None → (b ≡ true) × (rest ≡ None)
passed true f rest h = (refl, h)
passed false f rest h = none_some (sym h)

-- the questions were all answered
pub granted : (o : Option Refusal) → ◌≡◌ {A = Result (Unit {0}) Refusal} (Ok tt) (unless o (Ok tt)) → o ≡ None
granted None e = refl
granted (Some f) e = let z : ◌≡◌ {A = ℕ} 0 1 = cc in absurd (omega arith)

-- or one was not
pub denied : (o : Option Refusal) (f : Refusal) → ◌≡◌ {A = Result (Unit {0}) Refusal} (Err f) (unless o (Ok tt)) → o ≡ Some f
denied None f e = let z : ◌≡◌ {A = ℕ} 0 1 = cc in absurd (omega arith)
denied (Some x) f e = ap Some (let i : f ≡ x = cc in sym i)

pub unless_some : {A : Type 0} (o : Option Refusal) (f : Refusal) (a : Result A Refusal) → o ≡ Some f → Err f ≡ unless o a
unless_some o f a e = sym (ap (λ z. unless z a) e)

pub unless_none : {A : Type 0} (o : Option Refusal) (a : Result A Refusal) → o ≡ None → a ≡ unless o a
unless_none o a e = sym (ap (λ z. unless z a) e)

-- what the questions of a start tell of the labels xs, whose first k are those of the board's places
pub record Allowed {C : Type 0} (t : Rates C) (g : Ground) (q : Queue C) (net start : ℕ) (xs : List (Option C)) (k : ℕ) : Type 0 where
  pub places : k ≡ count_of g.shape
  pub enough : count_of g.shape ≤ length xs
  pub sized : length (take k xs) ≡ count_of g.shape
  pub served : serves t g q ≡ true
  pub free : g.opened start net ≡ true

module _ {C : Type 0} (t : Rates C) (g : Ground) (q : Queue C) (xs : List (Option C)) {s : Shape} {k : ℕ} (es : s ≡ g.shape) (ek : k ≡ count_of s) where
  -- with any questions behind them
  start_allowed : (net start : ℕ) (more : List Question) → refused_by (start_asks t g q net start (length xs) ++ more) ≡ None → Allowed t g q net start xs k
  start_allowed net start more h =
      let (l, h1) = passed (leb (count_of g.shape) (length xs)) _ _ h in
      let (s, h2) = passed (serves t g q) _ _ h1 in
      let (o, h3) = passed (g.opened start net) _ _ h2 in
      let e : k ≡ count_of g.shape = ek ∙ ap count_of es in
      let enough = leb-true _ _ l in
      record { places = e; enough = enough; sized = length-take-le k xs (omega arith) ∙ e; served = s; free = o }

  pub wave_allowed : (net start : ℕ) → refused_by (wave_asks t g q net start (length xs)) ≡ None → Allowed t g q net start xs k
  wave_allowed net start h =
      let (a, h1) = passed _ _ _ h in
      let (i, h2) = passed (ltb start (count_of g.shape)) _ _ h1 in
      start_allowed net start [] h2

  pub search_allowed : (j : Connection) → refused_by (search_asks t g q j (length xs)) ≡ None → Allowed t g q j.net j.start xs k
  search_allowed j h = start_allowed j.net j.start (ask (g.opened j.goal j.net) 5 j.goal ∷ []) h

length_row : {A : Type 0} (f : ℕ → A) (i n : ℕ) → length (row f i n) ≡ n
unfolding row
length_row f i zero = refl
length_row f i (suc n) = ap suc (length_row f (suc i) n)

length_swept : {C : Type 0} (t : Rates C) (m : Maze) (n k : ℕ) → length (swept t m n k) ≡ n
unfolding swept
length_swept t m n zero = length_row _ 0 n
length_swept t m n (suc k) = length_row _ 0 n

pub label_least : {C : Type 0} {t : Rates C} → Laws t → (g : Ground) → Sound g → (n start p : ℕ) → label_of (labels t g n start) p ≡ least t (maze g n start) 2097152 p
label_least {C} {t} laws g sound n start p = swept_is_least C t (maze g n start) 2097152 (count_of g.shape) p (lawful laws) (count_most g.shape) (λ q e. sound.inside q n e)

-- labels that are least costs at every place are the labels of the wave
pub whole_labels : {C : Type 0} {t : Rates C} → Laws t → (g : Ground) → Sound g → (n start : ℕ) (ys : List (Option C)) → length ys ≡ count_of g.shape →
    ((p : ℕ) → get_or ys p None ≡ least t (maze g n start) 2097152 p) → ys ≡ labels t g n start
whole_labels {C} {t} laws g sound n start ys size h =
    let long = length_swept t (maze g n start) (count_of g.shape) (count_of g.shape) in
    same_lists ys (labels t g n start) (size ∙ sym long)
    (λ k d l. get_or_default ys k d None l ∙ h k ∙ sym (label_least laws g sound n start k) ∙ get_or_default (labels t g n start) k None d (omega (arith, size, long)))

-- and in the caller's list
pub whole_list : {C : Type 0} {t : Rates C} → Laws t → (g : Ground) → Sound g → (n start k : ℕ) (xs ys : List (Option C)) → k ≡ count_of g.shape → length ys ≡ count_of g.shape →
    ((p : ℕ) → get_or ys p None ≡ least t (maze g n start) 2097152 p) → ys ++ drop k xs ≡ whole_wave t g n start xs
whole_list {t} laws g sound n start k xs ys e size h =
    ap (λ l. l ++ drop k xs) (whole_labels laws g sound n start ys size h) ∙ ap (λ m. labels t g n start ++ drop m xs) e

-- what a refused search leaves, by whether it was refused before it began
pub leaves_whole : {C F : Type 0} (t : Rates C) (g : Ground) (n start : ℕ) (early : Option Refusal) (xs ys : List (Option C)) (f f' : F) → early ≡ None → ys ≡ whole_wave t g n start xs →
    RefusalLeaves t g n start early xs ys f f'
leaves_whole t g n start early xs ys f f' e h = subst (λ z. RefusalLeaves t g n start z xs ys f f') (sym e) h

pub leaves_same : {C F : Type 0} (t : Rates C) (g : Ground) (n start : ℕ) (early : Option Refusal) (e : Refusal) (xs : List (Option C)) (f : F) → early ≡ Some e → RefusalLeaves t g n start early xs xs f f
leaves_same t g n start early e xs f h = subst (λ z. RefusalLeaves t g n start z xs xs f f) (sym h) (refl, refl)
