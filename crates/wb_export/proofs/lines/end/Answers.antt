use Rattle.std.proofs.Common.{◌∙◌}
use Rattle.wb_export.proofs.LineLemmas.{of_some}
use Rattle.wb_export.proofs.lines.end.Goals as goal

pub returns-in-Ok : goal.returns-in-Ok
returns-in-Ok c all h = c.in-Ok.ensures.ok ∙ of_some _ _ h.text
