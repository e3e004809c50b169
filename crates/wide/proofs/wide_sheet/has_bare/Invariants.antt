use Rattle.std.proofs.Common.{◌≡◌, ◌+◌, length, take, eqb}
use Rattle.std.specs.List.{filter}
use Rattle.wide.proofs.wide_sheet.has_bare.Given as goal

abbrev pub invariant-loop-here : goal.invariant-loop-here
invariant-loop-here l = l.missing + length (filter (λ x. eqb x 0) (take l.here-index l.cells)) ≡ l.needed
