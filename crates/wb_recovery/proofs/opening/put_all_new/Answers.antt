use Rattle.std.proofs.Common.{◌<◌, List, length, get_or, sym, ap, ◌∙◌, subst}
use Rattle.wb_model.specs.declared.registry.Lists.{Lists}
use Rattle.wb_model.specs.declared.registry.TenantItem.{TenantItem}
use Rattle.wb_recovery.proofs.OpenedPlaces.{there_at}
use Rattle.wb_recovery.proofs.opening.put_all_new.Goals as goal

pub put_new-requires-clause-there : goal.put_new-requires-clause-there
put_new-requires-clause-there c =
    let same = c.as_slice-item-items.ensures ∙ ap (λ (l : Lists). l.tenants) c.lists.ensures.all in
    there_at c.args.registry.now.lists c.loop-item.item-index c.item-item.result (subst (λ (xs : List TenantItem). c.loop-item.item-index < length xs) same c.loop-item-test.true)
    (ap (λ (xs : List TenantItem). get_or xs c.loop-item.item-index c.item-item.result) (sym same) ∙ sym c.item-item.is)
