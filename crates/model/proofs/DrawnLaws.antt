-- What a drawn ground keeps.
use Rattle.std.proofs.Common.{ℕ, List, arith}
use Rattle.std.proofs.lemmas.Bool.Decides.{nat_tests}
use Rattle.grid.specs.declared.shape.Shape.{Shape}
use Rattle.model.specs.Sheets.{Sound}
use Rattle.model.specs.Drawn.{drawn_ground}

pub drawn_sound : (s : Shape) (xs : List ℕ) → Sound (drawn_ground s xs)
drawn_sound s xs = record { inside = λ p n h. grind (arith, nat_tests); nets = λ p n h. grind (arith, nat_tests) }
