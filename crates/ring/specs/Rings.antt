-- The row that a ring takes from, and the order of a ring.
use Rattle.std.specs.Prelude.{◌≡◌, ℕ, ◌+◌, ◌%◌, ◌<◌, ◌≤◌, replicate, Some, None, Option}
use Rattle.tariff.specs.Rates.{Rates}
use Rattle.front.specs.Queue.{Queue}
use Rattle.rows.specs.Waiting.{ringed}
use Rattle.rows.specs.Rows.{First, Ordered}
use Rattle.ring.specs.declared.turning.Bucket.{Bucket}
use Rattle.ring.specs.declared.Ring.{Ring}

-- the first row that is not empty, if there is one
abbrev pub Found : (ℕ → Option ℕ) → ℕ → ℕ → Option Bucket → Type 0
Found heads rows from None = (j : ℕ) → j < rows → heads ((from + j) % rows) ≡ None
Found heads rows from (Some b) = First heads rows from b.row b.head

-- the first row that is not empty, of those from one up to another
pub record FirstIn (heads : ℕ → Option ℕ) (from to row head : ℕ) : Type 0 where
  pub least : from ≤ row
  pub most : row < to
  pub passed : (k : ℕ) → from ≤ k → k < row → heads k ≡ None
  pub head_is : heads row ≡ Some head

-- if there is one
abbrev pub FoundIn : (ℕ → Option ℕ) → ℕ → ℕ → Option Bucket → Type 0
FoundIn heads from to None = (k : ℕ) → from ≤ k → k < to → heads k ≡ None
FoundIn heads from to (Some b) = FirstIn heads from to b.row b.head

-- what a ring means
abbrev pub view_of : {C : Type 0} → Ring C → Queue C
view_of s = ringed s.list.now s.touched s.last

-- its inner order
abbrev pub InOrder : {C : Type 0} → Rates C → Ring C → Type 0
InOrder t s = Ordered t s.list.now s.touched s.rows s.heads s.last

-- no position is in use, no row has a head, and nothing was taken
pub record Emptied {C : Type 0} (s : Ring C) (rows : ℕ) : Type 0 where
  pub touched : s.touched ≡ 0
  pub rows_are : s.rows ≡ rows
  pub heads : s.heads ≡ replicate 32 None
  pub last : s.last ≡ None
