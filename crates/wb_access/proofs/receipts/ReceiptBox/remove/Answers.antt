use Rattle.std.proofs.Common.{None, cond, ap, sym, ◌∙◌}
use Rattle.std.specs.Map.{lookup}
use Rattle.wb_list.specs.Room.{Room}
use Rattle.wb_access.specs.Receipts.{Receipt, number_of, entry_key}
use Rattle.wb_access.proofs.ReceiptTables.{eq_key, found}
use Rattle.wb_access.proofs.receipts.ReceiptBox.remove.Goals as goal

pub returns-clause-found : goal.returns-clause-found
returns-clause-found c t d =
    found t d _ ∙ (c.remove.ensures.updates.0 (entry_key t d)
    ∙ (ap (λ k. cond (eq_key k (entry_key t d)) None (lookup (eq_key (entry_key t d)) c.self.inside.numbers.entries)) c.key.ensures
    ∙ (ap (λ o. cond (eq_key (entry_key c.args.tenant c.args.digest.now) (entry_key t d)) None o) (sym (found t d c.self.inside.numbers.entries))
    ∙ ap (λ (r : Room Receipt). cond (eq_key (entry_key c.args.tenant c.args.digest.now) (entry_key t d)) None (number_of t d r.items)) c.self.view_is)))
