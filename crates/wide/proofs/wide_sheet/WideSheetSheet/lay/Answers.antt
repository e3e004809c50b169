use Rattle.std.proofs.Common.{arith}
use Rattle.std.proofs.lemmas.Bool.Decides.{nat_tests}
use Rattle.model.proofs.WideLaws.{wide_lays}
use Rattle.wide.proofs.wide_sheet.WideSheetSheet.lay.Goals as goal

pub returns-clause-answer : goal.returns-clause-answer
returns-clause-answer c = wide_lays c.args.self.now.shape c.args.self.now.cells.now c.args.place c.args.net (grind (arith, nat_tests))
