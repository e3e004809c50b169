use Rattle.model.proofs.WideLaws.{entries_small, wide_tied}
use Rattle.wide.proofs.wide_sheet.WideSheetSheet.copper.Goals as goal

pub returns-clause-tied : goal.returns-clause-tied
returns-clause-tied c =
    let s = c.args.self.now.shape in
    let xs = c.args.self.now.cells.now in
    wide_tied s xs (entries_small s xs (λ p. rw c.entries.ensures at (c.entry-here.ensures.small p)))
