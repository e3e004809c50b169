-- The questions of a search, and what it answers and leaves.
use Rattle.std.specs.Prelude.{◌≡◌, ℕ, ◌<◌, Bool, true, if◌then◌else◌, ◌&&◌, List, [], ◌∷◌, ◌++◌, length, take, drop, is_some, Some, None, Ok, Err, Option, Result, nat_le, nat_lt}
use Rattle.grid.specs.Faults.{Refusal, refusal, sheet_refusal}
use Rattle.grid.specs.Places.{count_of}
use Rattle.tariff.specs.Rates.{Rates}
use Rattle.front.specs.Queue.{Queue}
use Rattle.model.specs.Sheets.{Ground, is_net}
use Rattle.route.specs.Listed.{On}
use Rattle.route.specs.Paths.{LeastCost, maze, labels, label_of, wire_over, wire}
use Rattle.wave.specs.declared.connection.Connection.{Connection}
use Rattle.wave.specs.declared.fault.SearchFault.{SearchFault}
use Rattle.wave.specs.declared.fault.SearchFault.TheVariants.{Sheet, NotServed, NoPath, ShortPath}
use Rattle.wave.specs.Spread.{labelled}

-- the number and the value of each fault
abbrev pub search_refusal : SearchFault → Refusal
search_refusal (Sheet f) = sheet_refusal f
search_refusal (NotServed n) = refusal 9 n
search_refusal (NoPath p) = refusal 10 p
search_refusal (ShortPath n) = refusal 11 n

-- a question, and the refusal that is given when it does not hold
pub record Question : Type 0 where
  pub holds : Bool
  pub refuses : Refusal

abbrev pub ask : Bool → ℕ → ℕ → Question
ask b number named = record { holds = b; refuses = refusal number named }

-- the refusal of the first question that does not hold
abbrev pub refused_by : List Question → Option Refusal
refused_by [] = None
refused_by (q ∷ qs) = if q.holds then refused_by qs else Some q.refuses

-- an answer by its refusal's number and value
abbrev pub search_answered : {A : Type 0} → Result A SearchFault → Result A Refusal
search_answered (Ok a) = Ok a
search_answered (Err f) = Err (search_refusal f)

-- a refusal, or what is answered else
abbrev pub unless : {A : Type 0} → Option Refusal → Result A Refusal → Result A Refusal
unless None a = a
unless (Some f) a = Err f

-- the front serves the tariff and the places of the board
abbrev pub serves : {C : Type 0} → Rates C → Ground → Queue C → Bool
serves t g q = q.spans t.span && nat_le (count_of g.shape) q.served

-- A START asks 2, 9, 5
abbrev pub start_asks : {C : Type 0} → Rates C → Ground → Queue C → ℕ → ℕ → ℕ → List Question
start_asks t g q n start entries =
    ask (nat_le (count_of g.shape) entries) 2 (count_of g.shape) ∷ ask (serves t g q) 9 (count_of g.shape) ∷ ask (g.opened start n) 5 start ∷ []

-- THE WAVE asks 4, 3, and then what a start asks
abbrev pub wave_asks : {C : Type 0} → Rates C → Ground → Queue C → ℕ → ℕ → ℕ → List Question
wave_asks t g q n start entries = ask (is_net n) 4 n ∷ ask (nat_lt start (count_of g.shape)) 3 start ∷ start_asks t g q n start entries

-- and answers how many places have a least cost
abbrev pub wave_answer : {C : Type 0} → Rates C → Ground → Queue C → ℕ → ℕ → ℕ → Result ℕ Refusal
wave_answer t g q n start entries = unless (refused_by (wave_asks t g q n start entries)) (Ok (labelled (labels t g n start)))

-- the labels of the whole wave, and what stood behind the last place
abbrev pub whole_wave : {C : Type 0} → Rates C → Ground → ℕ → ℕ → List (Option C) → List (Option C)
whole_wave t g n start xs = labels t g n start ++ drop (count_of g.shape) xs

-- what the wave leaves: a refusal leaves labels and front untouched
abbrev pub WaveLeaves : {C F : Type 0} → Rates C → Ground → ℕ → ℕ → List (Option C) → List (Option C) → F → F → Result ℕ SearchFault → Type 0
WaveLeaves t g n start xs ys f f' (Ok k) = ys ≡ whole_wave t g n start xs
WaveLeaves t g n start xs ys f f' (Err e) = (ys ≡ xs) × (f' ≡ f)

-- THE SEARCH TO A GOAL asks what a start asks, and 5 of the goal
abbrev pub search_asks : {C : Type 0} → Rates C → Ground → Queue C → Connection → ℕ → List Question
search_asks t g q j entries = start_asks t g q j.net j.start entries ++ (ask (g.opened j.goal j.net) 5 j.goal ∷ [])

-- and then 10: it answers the goal's least cost
abbrev pub found : {C : Type 0} → ℕ → Option C → Result C Refusal
found goal None = Err (refusal 10 goal)
found goal (Some c) = Ok c

abbrev pub search_answer : {C : Type 0} → Rates C → Ground → Queue C → Connection → ℕ → Result C Refusal
search_answer t g q j entries = unless (refused_by (search_asks t g q j entries)) (found j.goal (label_of (labels t g j.net j.start) j.goal))

-- labels where the goal was reached: each is none or the least cost, every place of the wire has one, the trace over them is the wire,
-- and those behind the last place are as they stood
pub record SomeLabels {C : Type 0} (t : Rates C) (g : Ground) (n start goal : ℕ) (xs ys : List (Option C)) : Type 0 where
  pub least : (p : ℕ) (c : C) → p < count_of g.shape → label_of ys p ≡ Some c → LeastCost t g n start p c
  pub wired : (p : ℕ) → On p (wire t g n start goal) → is_some (label_of ys p) ≡ true
  pub same : wire_over t (maze g n start) (take (count_of g.shape) ys) goal ≡ wire t g n start goal
  pub past : drop (count_of g.shape) ys ≡ drop (count_of g.shape) xs
  pub long : length ys ≡ length xs

-- what a refused search leaves: the first four questions leave labels and front untouched, 10 the labels of the whole wave
abbrev pub RefusalLeaves : {C F : Type 0} → Rates C → Ground → ℕ → ℕ → Option Refusal → List (Option C) → List (Option C) → F → F → Type 0
RefusalLeaves t g n start (Some e) xs ys f f' = (ys ≡ xs) × (f' ≡ f)
RefusalLeaves t g n start None xs ys f f' = ys ≡ whole_wave t g n start xs

abbrev pub SearchLeaves : {C F : Type 0} → Rates C → Ground → Connection → Option Refusal → List (Option C) → List (Option C) → F → F → Result C SearchFault → Type 0
SearchLeaves t g j early xs ys f f' (Ok c) = SomeLabels t g j.net j.start j.goal xs ys
SearchLeaves t g j early xs ys f f' (Err x) = RefusalLeaves t g j.net j.start early xs ys f f'
