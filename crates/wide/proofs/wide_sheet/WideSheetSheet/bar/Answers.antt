use Rattle.std.proofs.Common.{arith}
use Rattle.std.proofs.lemmas.Bool.Decides.{nat_tests}
use Rattle.model.proofs.WideLaws.{wide_bars}
use Rattle.wide.proofs.wide_sheet.WideSheetSheet.bar.Goals as goal

pub returns-clause-answer : goal.returns-clause-answer
returns-clause-answer c =
    wide_bars c.args.self.now.shape c.args.self.now.cells.now c.args.place (grind (arith, nat_tests)) (grind (arith, nat_tests))
