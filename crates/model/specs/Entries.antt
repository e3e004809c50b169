-- Lists that have one entry a place.
use Rattle.std.specs.Prelude.{ℕ, if◌then◌else◌, List, length, Ok, Result, nat_le}
use Rattle.grid.specs.declared.shape.Shape.{Shape}
use Rattle.grid.specs.Faults.{Refusal, refusal}
use Rattle.grid.specs.Places.{count_of}
use Rattle.model.specs.Sheets.{ask}

-- how many places a list serves: all of them if it has an entry for each, else none
abbrev pub served : {A : Type 0} → Shape → List A → ℕ
served s xs = if nat_le (count_of s) (length xs) then count_of s else 0

-- question 2, the list has an entry for each place; names the entries needed
abbrev pub entries_answer : {A : Type 0} → Shape → List A → Result (Unit {0}) Refusal
entries_answer s xs = ask (nat_le (count_of s) (length xs)) (refusal 2 (count_of s)) (Ok tt)
