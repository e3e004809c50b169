use Rattle.model.proofs.WideLaws.{wide_told}
use Rattle.wide.proofs.wide_sheet.WideSheet.new.Goals as goal

pub returns-clause-told : goal.returns-clause-told
returns-clause-told c = wide_told c.args.shape
