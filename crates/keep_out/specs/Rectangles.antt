-- Rectangles, what the making of one answers, and what lies in one.
use Rattle.std.specs.Prelude.{◌≡◌, ◌≤◌, Bool, if◌then◌else◌, ◌&&◌, Ok, Err, Result, ◌==◌, nat_le}
use Rattle.grid.specs.declared.shape.Coordinates.{Coordinates}
use Rattle.grid.specs.declared.fault.SheetFault.{SheetFault}
use Rattle.grid.specs.Faults.{Refusal, refusal, sheet_refusal}
use Rattle.keep_out.specs.declared.rectangle.Rectangle.{Rectangle}
use Rattle.keep_out.specs.declared.row.Row.{Row}

-- the numbers of a rectangle
abbrev pub row_of : Rectangle → Row
row_of r = record { layer = r.layer; left = r.left; top = r.top; right = r.right; bottom = r.bottom }

-- the numbers are a rectangle's: left up to right, top up to bottom, the layer at most 7 and the others at most 511
abbrev pub is_rectangle : Row → Bool
is_rectangle x = nat_le x.layer 7 && ((nat_le x.left x.right && nat_le x.right 511) && (nat_le x.top x.bottom && nat_le x.bottom 511))

-- an answer as its numbers tell it
abbrev pub told : Result Rectangle SheetFault → Result Row Refusal
told (Ok r) = Ok (row_of r)
told (Err f) = Err (sheet_refusal f)

-- the rectangle with these numbers; else refusal 1, which names 0
abbrev pub rectangle_answer : Row → Result Row Refusal
rectangle_answer x = if is_rectangle x then Ok x else Err (refusal 1 0)

-- the coordinates lie within the numbers
abbrev pub is_within : Row → Coordinates → Bool
is_within x p = p.layer == x.layer && ((nat_le x.left p.column && nat_le p.column x.right) && (nat_le x.top p.row && nat_le p.row x.bottom))

-- a row has the coordinates in it; one that is no rectangle's has none
abbrev pub has_in : Row → Coordinates → Bool
has_in x p = is_rectangle x && is_within x p

-- THE COORDINATES LIE IN THE RECTANGLE
pub record LiesIn (r : Rectangle) (p : Coordinates) : Type 0 where
  pub layer : p.layer ≡ r.layer
  pub across : (r.left ≤ p.column) × (p.column ≤ r.right)
  pub along : (r.top ≤ p.row) × (p.row ≤ r.bottom)
