-- Small boards, and the costs and wires on them. Places are numbered as on any board; net 1 is routed.
use Rattle.std.specs.Prelude.{◌≡◌, ℕ, ◌≤◌, [], ◌∷◌, replicate, Some, None, Option}
use Rattle.std.proofs.Common.{lit≤}
use Rattle.grid.specs.declared.shape.Shape.{Shape}
use Rattle.tariff.specs.Rates.{Rates}
use Rattle.surd.specs.Surds.{surd}
use Rattle.octile.specs.Octile.{octile_rates}
use Rattle.rectilinear.specs.Rectilinear.{rectilinear_rates}
use Rattle.model.specs.Sheets.{Ground}
use Rattle.model.specs.Wide.{wide_ground}
use Rattle.model.specs.Clear.{clear_ground}
use Rattle.route.specs.Paths.{labels, label_of, wire}

abbrev pub shape_of : (c r l : ℕ) → (1 ≤ c) × (c ≤ 512) → (1 ≤ r) × (r ≤ 512) → (1 ≤ l) × (l ≤ 8) → Shape
shape_of c r l w t d = record { columns = c; rows = r; layers = l; wide = w; tall = t; deep = d }

-- the least cost of the goal for net 1
abbrev pub cost_to : {C : Type 0} → Rates C → Ground → ℕ → ℕ → Option C
cost_to t g start goal = label_of (labels t g 1 start) goal

-- 5 columns, 3 rows, 1 layer, bare
abbrev pub five_three : Shape
five_three = shape_of 5 3 1 (lit≤ tt, lit≤ tt) (lit≤ tt, lit≤ tt) (lit≤ tt, lit≤ tt)

abbrev pub bare_board : Ground
bare_board = wide_ground five_three (replicate 15 0)

-- 2 columns, 2 rows, 1 layer, places 1 and 2 barred
abbrev pub crossed : Ground
crossed = wide_ground (shape_of 2 2 1 (lit≤ tt, lit≤ tt) (lit≤ tt, lit≤ tt) (lit≤ tt, lit≤ tt)) (0 ∷ 65535 ∷ 65535 ∷ 0 ∷ [])

-- 3 columns, 1 row, 2 layers, place 1 barred
abbrev pub blocked : Ground
blocked = wide_ground (shape_of 3 1 2 (lit≤ tt, lit≤ tt) (lit≤ tt, lit≤ tt) (lit≤ tt, lit≤ tt)) (0 ∷ 65535 ∷ 0 ∷ 0 ∷ 0 ∷ 0 ∷ [])

-- 3 columns, 2 rows, 1 layer, bare
abbrev pub three_two : Ground
three_two = wide_ground (shape_of 3 2 1 (lit≤ tt, lit≤ tt) (lit≤ tt, lit≤ tt) (lit≤ tt, lit≤ tt)) (replicate 6 0)

-- clearance over 5 columns, 3 rows, 1 layer, place 2 barred
abbrev pub cleared : Ground
cleared = clear_ground (wide_ground five_three (0 ∷ 0 ∷ 65535 ∷ replicate 12 0))

pub record WorkedBoards : Type 0 where
  -- from corner to corner
  pub bare_cost : cost_to octile_rates bare_board 0 14 ≡ Some (surd 2 2)
  pub bare_wire : wire octile_rates bare_board 1 0 14 ≡ 0 ∷ 6 ∷ 12 ∷ 13 ∷ 14 ∷ []
  pub bare_rectilinear : cost_to rectilinear_rates bare_board 0 14 ≡ Some 6
  -- a diagonal between two barred places, which rectilinear does not have
  pub crossed_cost : cost_to octile_rates crossed 0 3 ≡ Some (surd 0 1)
  pub crossed_rectilinear : cost_to rectilinear_rates crossed 0 3 ≡ None
  -- under the barred place, by two vias
  pub blocked_cost : cost_to octile_rates blocked 0 2 ≡ Some (surd 18 0)
  -- along a row
  pub row_cost : cost_to octile_rates three_two 0 2 ≡ Some (surd 2 0)
  -- around the barred place, with clearance
  pub cleared_cost : cost_to octile_rates cleared 0 4 ≡ Some (surd 4 2)
  pub cleared_wire : wire octile_rates cleared 1 0 4 ≡ 0 ∷ 5 ∷ 11 ∷ 12 ∷ 13 ∷ 9 ∷ 4 ∷ []
