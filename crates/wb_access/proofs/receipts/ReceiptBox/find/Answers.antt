use Rattle.std.proofs.Common.{ap, sym, ◌∙◌}
use Rattle.std.specs.Map.{lookup}
use Rattle.wb_list.specs.Room.{Room}
use Rattle.wb_access.specs.Receipts.{Receipt, number_of}
use Rattle.wb_access.proofs.ReceiptTables.{eq_key, found}
use Rattle.wb_access.proofs.receipts.ReceiptBox.find.Goals as goal

pub returns : goal.returns
returns c = c.copied.ensures ∙ (c.get.ensures.value ∙ (ap (λ k. lookup (eq_key k) c.self.inside.numbers.entries) c.key.ensures ∙ (sym (found c.args.tenant c.args.digest.now c.self.inside.numbers.entries) ∙ ap (λ (r : Room Receipt). number_of c.args.tenant c.args.digest.now r.items) c.self.view_is)))
