use Rattle.std.proofs.Common.{get_or, ap, ◌∙◌, rules}
use Rattle.model.specs.Sheets.{Held}
use Rattle.sheet_limits.proofs.ListLaws.{wires}
use Rattle.sheet_limits.proofs.tests.wire_list.Goals as goal

pub returns : goal.returns
returns c =
    let made = c.new-sheet.ensures in
    let laid = c.cover.ensures in
    let same = ap (λ (k : Held). get_or k.loans 0 0) laid.kept ∙ made.named in
    wires c.args.shape c.new-sheet.result.shape c.cover.new.sheet.shape c.args.cells.now c.new-sheet.result.cells.now c.cover.new.sheet.cells.now c.args.path.now c.args.net c.new-sheet.result.cells.ghost_name c.cover.new.sheet.cells.ghost_name c.cover.result made.shaped made.made laid.after laid.kept _ (search rules)
