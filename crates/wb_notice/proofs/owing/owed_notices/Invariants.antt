use Rattle.std.proofs.Common.{◌≡◌, ◌++◌, drop, map}
use Rattle.std.specs.List.{flat_map}
use Rattle.wb_model.specs.declared.registry.TenantItem.{TenantItem}
use Rattle.wb_rows.specs.Held.{held_by}
use Rattle.wb_notice.specs.Owed.{notices_of, owed, unsealed}
use Rattle.wb_notice.proofs.owing.owed_notices.Given as goal

abbrev pub invariant-loop-item : goal.invariant-loop-item
invariant-loop-item l = (l.notices.items ++ flat_map (notices_of (unsealed (held_by l.tables)) l.now) (map (λ (x : TenantItem). x.tenant) (drop l.item-index l.tables.registry.lists.tenants)))
    ≡ owed (unsealed (held_by l.tables)) l.now
