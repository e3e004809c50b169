-- The wire traced back over labels: what is asked, answered and written.
use Rattle.std.specs.Prelude.{ℕ, List, [], ◌∷◌, ◌++◌, length, take, drop, Some, None, Ok, Option, Result, nat_le}
use Rattle.grid.specs.Faults.{Refusal}
use Rattle.grid.specs.Places.{count_of}
use Rattle.tariff.specs.Rates.{Rates}
use Rattle.model.specs.Sheets.{Ground}
use Rattle.route.specs.Paths.{LeastCost, IsWire, maze, wire_over, wire}
use Rattle.wave.specs.declared.connection.Connection.{Connection}
use Rattle.wave.specs.Questions.{Question, ask, refused_by, unless, SomeLabels}

-- THE TRACED WIRE, the start first. The labels may be any; those of the board's places count.
abbrev pub traced : {C : Type 0} → Rates C → Ground → Connection → List (Option C) → List ℕ
traced t g j ls = wire_over t (maze g j.net j.start) (take (count_of g.shape) ls) j.goal

-- A TRACE asks 2: there is a label for each place
abbrev pub label_ask : Ground → ℕ → Question
label_ask g entries = ask (nat_le (count_of g.shape) entries) 2 (count_of g.shape)

abbrev pub trace_asks : Ground → ℕ → List Question
trace_asks g entries = label_ask g entries ∷ []

-- and answers a number of places
abbrev pub trace_answer : Ground → ℕ → ℕ → Result ℕ Refusal
trace_answer g entries number = unless (refused_by (trace_asks g entries)) (Ok number)

-- WRITING THE WIRE ps asks 2, and 11: the path list has room for so many places
abbrev pub room_asks : ℕ → ℕ → List Question
room_asks number room = ask (nat_le number room) 11 number ∷ []

abbrev pub write_asks : Ground → ℕ → List ℕ → ℕ → List Question
write_asks g entries ps room = label_ask g entries ∷ room_asks (length ps) room

-- and answers how many places the wire has
abbrev pub write_answer : Ground → ℕ → List ℕ → ℕ → Result ℕ Refusal
write_answer g entries ps room = unless (refused_by (write_asks g entries ps room)) (Ok (length ps))

-- the path list xs after that: the wire, and what stood behind it; a refusal leaves the list as it stood
abbrev pub written : Option Refusal → List ℕ → List ℕ → List ℕ
written None ps xs = ps ++ drop (length ps) xs
written (Some f) ps xs = xs

abbrev pub path_after : Ground → ℕ → List ℕ → List ℕ → List ℕ
path_after g entries ps xs = written (refused_by (write_asks g entries ps (length xs))) ps xs

-- AFTER A GRANTED SEARCH, which leaves the labels ls, P holds of the wire to the goal: it is the wire if the goal has a least cost
pub record AfterSearch {C : Type 0} (t : Rates C) (g : Ground) (j : Connection) (ls : List (Option C)) (P : List ℕ → Type 0) : Type 0 where
  pub holds : (xs : List (Option C)) → SomeLabels t g j.net j.start j.goal xs ls → P (wire t g j.net j.start j.goal)
  pub is_wire : (c : C) → LeastCost t g j.net j.start j.goal c → IsWire t g j.net j.start j.goal (wire t g j.net j.start j.goal)
