-- What a ring means: the places that wait in its list.
use Rattle.std.specs.Prelude.{ℕ, ◌+◌, ◌-◌, Bool, cond, ◌&&◌, List, length, None, Option, ◌==◌, nat_le, nat_lt, slice_index_or}
use Rattle.front.specs.Queue.{Queue}
use Rattle.rows.specs.declared.RingRecord.{RingRecord}

-- what stands past the end of a list
abbrev pub blank : {C : Type 0} → RingRecord C
blank = record { cost = None; next = 0; back = 0; slot = 0; at = 0 }

-- the record of each place and position; the first of the list belongs to none
abbrev pub layout : {C : Type 0} → List (RingRecord C) → ℕ → RingRecord C
layout xs k = slice_index_or xs (k + 1) blank

-- whether a place is in use: the position that it names is, and names it
abbrev pub vouched : {C : Type 0} → (ℕ → RingRecord C) → ℕ → ℕ → Bool
vouched h touched p = nat_lt (h p).at touched && (h (h p).at).slot == p

-- the cost at which a place waits
abbrev pub awaits : {C : Type 0} → (ℕ → RingRecord C) → ℕ → ℕ → Option C
awaits h touched p = cond (vouched h touched p) (h p).cost None

-- the tariffs served have a span of 1 to 31
abbrev pub some_rows : ℕ → Bool
some_rows span = nat_le 1 span && nat_le span 31

-- a ring serves one place fewer than its list has records
abbrev pub ringed : {C : Type 0} → List (RingRecord C) → ℕ → Option C → Queue C
ringed xs touched l = record {
  waiting = awaits (layout xs) touched;
  last = l;
  served = length xs - 1;
  spans = some_rows;
}
