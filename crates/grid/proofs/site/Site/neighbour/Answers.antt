use Rattle.std.proofs.Common.{arith}
use Rattle.std.proofs.lemmas.Bool.Decides.{nat_tests}
use Rattle.grid.proofs.Striding.{site_small}
use Rattle.grid.proofs.site.Site.neighbour.Goals as goal

pub forth-requires-in-SouthWest : goal.forth-requires-in-SouthWest
forth-requires-in-SouthWest c = let small = site_small c.args.self in grind (arith, nat_tests)

pub forth-requires-in-SouthEast-2 : goal.forth-requires-in-SouthEast-2
forth-requires-in-SouthEast-2 c = let small = site_small c.args.self in grind (arith, nat_tests)
