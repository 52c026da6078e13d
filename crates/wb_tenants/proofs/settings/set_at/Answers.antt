use Rattle.std.proofs.Common.{◌≡◌, ap, sym, ◌∙◌, unwrap_or, Option}
use Rattle.std.specs.Cmp.{nat_cmp_total}
use Rattle.std.specs.Ordering.{nat_cmp}
use Rattle.wb_list.specs.Keyed.{insert_item}
use Rattle.wb_list.proofs.KeyedLemmas.{find_at_place, change_at_place}
use Rattle.wb_model.specs.declared.registry.TenantItem.{TenantItem}
use Rattle.wb_model.specs.Openings.{no_settings}
use Rattle.wb_setup.specs.Keys.{tenant_key}
use Rattle.wb_tenants.specs.Sets.{settings_in, set_tenant}
use Rattle.wb_tenants.proofs.LookUps.{tenant-found}
use Rattle.wb_tenants.proofs.settings.set_at.Goals as goal

pub returns : goal.returns
returns c =
    let found = find_at_place nat_cmp_total tenant_key c.args.items.now.items c.args.tenant c.args.at c.index_mut.result.now c.requires.order c.requires.place in
    let is : settings_in c.args.items.now.items c.args.tenant ≡ c.index_mut.result.now =
    ap (λ (o : Option TenantItem). unwrap_or o (no_settings c.args.tenant)) (sym (tenant-found c.args.items.now.items c.args.tenant) ∙ found) ∙ sym c.index_mut.ensures.value in
    let made = change_at_place nat_cmp_total tenant_key c.args.items.now.items c.args.tenant c.args.at c.index_mut.result.now c.set_item.new.item c.requires.order c.requires.place c.index_mut.ensures.value (ap tenant_key c.set_item.ensures) in
    sym made ∙ ap (insert_item nat_cmp tenant_key c.args.items.now.items) (c.set_item.ensures ∙ ap (set_tenant c.args.next) (sym is))
