use Rattle.std.proofs.Common.{ap, sym, ◌∙◌}
use Rattle.wb_list.specs.Room.{Room}
use Rattle.wb_access.specs.Receipts.{Receipt, number_of, entry_key}
use Rattle.wb_access.proofs.ReceiptTables.{found}
use Rattle.wb_access.proofs.receipts.ReceiptBox.reserve.Goals as goal

pub returns-clause-found : goal.returns-clause-found
returns-clause-found c t d = found t d _ ∙ (c.reserve.ensures.entries.2 (entry_key t d) ∙ (sym (found t d c.self.inside.numbers.entries) ∙ ap (λ (r : Room Receipt). number_of t d r.items) c.self.view_is))
