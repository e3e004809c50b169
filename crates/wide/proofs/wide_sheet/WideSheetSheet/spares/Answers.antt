use Rattle.std.proofs.Common.{refl}
use Rattle.model.proofs.WideLaws.{spare_bare}
use Rattle.wide.proofs.wide_sheet.WideSheetSheet.spares.Goals as goal

pub returns : goal.returns
returns c =
    let e = spare_bare c.args.self.now.shape c.args.self.now.cells.now in
    rw (c.has_bare.ensures, c.entries.ensures, e) refl
