-- What a ring writes into its records.
use Rattle.std.specs.Prelude.{ℕ, Bool, false, cond, Some, None, Option, ◌==◌}
use Rattle.std.specs.Option.{unwrap_or}
use Rattle.front.specs.Places.{changed}
use Rattle.rows.specs.declared.RingRecord.{RingRecord}

-- one record is edited
abbrev pub edit : {C : Type 0} → (ℕ → RingRecord C) → ℕ → (RingRecord C → RingRecord C) → ℕ → RingRecord C
edit h p g = changed h p (g (h p))

-- in one field
abbrev pub new_cost : {C : Type 0} → Option C → RingRecord C → RingRecord C
new_cost v r = record { cost = v; next = r.next; back = r.back; slot = r.slot; at = r.at }

abbrev pub new_next : {C : Type 0} → ℕ → RingRecord C → RingRecord C
new_next v r = record { cost = r.cost; next = v; back = r.back; slot = r.slot; at = r.at }

abbrev pub new_back : {C : Type 0} → ℕ → RingRecord C → RingRecord C
new_back v r = record { cost = r.cost; next = r.next; back = v; slot = r.slot; at = r.at }

abbrev pub new_slot : {C : Type 0} → ℕ → RingRecord C → RingRecord C
new_slot v r = record { cost = r.cost; next = r.next; back = r.back; slot = v; at = r.at }

abbrev pub new_at : {C : Type 0} → ℕ → RingRecord C → RingRecord C
new_at v r = record { cost = r.cost; next = r.next; back = r.back; slot = r.slot; at = v }

-- a place is put at a position
abbrev pub seated : {C : Type 0} → (ℕ → RingRecord C) → ℕ → ℕ → ℕ → RingRecord C
seated h i p = edit (edit h i (new_slot p)) p (new_at i)

-- a place is put before the head of a row, or is its only place
abbrev pub linked : {C : Type 0} → (ℕ → RingRecord C) → Option ℕ → ℕ → ℕ → RingRecord C
linked h head p = edit (edit h p (new_next (unwrap_or head p))) (unwrap_or head p) (new_back p)

-- the place after p in its row
abbrev pub follower : {C : Type 0} → (ℕ → RingRecord C) → ℕ → Option ℕ
follower h p = cond ((h p).next == p) None (Some (h p).next)

-- the neighbours of p in its row are joined; p has one before it
abbrev pub spliced : {C : Type 0} → (ℕ → RingRecord C) → ℕ → ℕ → RingRecord C
spliced h p = edit (edit h (h p).back (new_next (unwrap_or (follower h p) (h p).back))) (h p).next (new_back (h p).back)

-- whether a place is the head of a row
abbrev pub is_head : Option ℕ → ℕ → Bool
is_head None p = false
is_head (Some q) p = q == p

-- p leaves its row
abbrev pub unlinked : {C : Type 0} → (ℕ → RingRecord C) → Option ℕ → ℕ → ℕ → RingRecord C
unlinked h head p = cond (is_head head p) h (spliced h p)

-- and the row's head is then
abbrev pub new_head : {C : Type 0} → (ℕ → RingRecord C) → Option ℕ → ℕ → Option ℕ
new_head h head p = cond (is_head head p) (follower h p) head
