use Rattle.std.proofs.Common.{◌<◌, List, length, get_or, map, sym, ap, ◌∙◌, subst}
use Rattle.std.proofs.lemmas.List.{take_all}
use Rattle.wb_model.specs.declared.registry.Lists.{Lists}
use Rattle.wb_model.specs.declared.registry.TenantItem.{TenantItem}
use Rattle.wb_recovery.specs.HeldPlaces.{bare, held_place}
use Rattle.wb_recovery.proofs.OpenedPlaces.{there_at}
use Rattle.wb_recovery.proofs.NewTenants.{map_twice}
use Rattle.wb_recovery.proofs.opening.tenancies.Goals as goal

pub tenancy-requires : goal.tenancy-requires
tenancy-requires c =
    let same = c.as_slice-item-items.ensures ∙ ap (λ (l : Lists). l.tenants) c.lists.ensures.all in
    there_at c.args.registry.now.lists c.loop-item.item-index c.item-item.result (subst (λ (xs : List TenantItem). c.loop-item.item-index < length xs) same c.loop-item-test.true)
    (ap (λ (xs : List TenantItem). get_or xs c.loop-item.item-index c.item-item.result) (sym same) ∙ sym c.item-item.is)

pub returns : goal.returns
returns c =
    let lists = c.args.registry.now.lists in
    let bare_place = held_place (bare lists c.args.numberings.now) in
    let same = c.as_slice-item-items.ensures ∙ ap (λ (l : Lists). l.tenants) c.lists.ensures.all in
    c.loop-item.invariant
    ∙ (ap (λ (xs : List TenantItem). map (λ x. bare_place x.tenant) xs) (take_all c.loop-item.item-index c.as_slice-item-items.result.now c.loop-item-test.false ∙ same)
    ∙ sym (map_twice bare_place (λ (x : TenantItem). x.tenant) lists.tenants))
