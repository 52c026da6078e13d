use Rattle.std.proofs.Common.{◌≡◌, List, ◌++◌, map, ◌∙◌, subst}
use Rattle.std.specs.Prelude.{OnOk}
use Rattle.wb_base.specs.declared.rows.Row.{Row}
use Rattle.wb_base.specs.declared.rows.Change.TheVariants.{Put}
use Rattle.wb_model.specs.SetUps.{tenant_ids}
use Rattle.wb_setup.proofs.Orders.{ids_ascend}
use Rattle.wb_recovery.proofs.OwnRows.{new_rows}
use Rattle.wb_recovery.proofs.opening.put_tenant.Goals as goal

pub returns : goal.returns
returns c =
    let lists = c.args.registry.now.lists in
    let told = c.in_ok-tables.ensures in
    let rows = new_rows c.args.tenant lists (ids_ascend (tenant_ids lists) c.requires.order.tenants) c.requires.there c.in_ok-tables.tables (told.lists ∙ c.in_ok-own.ensures.own) told.numberings told.none in
    subst (λ (rs : List Row). OnOk c.put_rows.result (c.put_rows.new.batch.items ≡ c.args.batch.now.items ++ map Put rs)) (c.in_ok-write_own.ensures ∙ rows) c.put_rows.ensures
