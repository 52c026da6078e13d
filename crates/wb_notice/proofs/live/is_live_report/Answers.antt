use Rattle.std.proofs.Common.{◌≡◌, find, Some, None, rules, to_z, of_z, w32}
use Rattle.wb_base.specs.Days.{IsOffset}
use Rattle.wb_model.specs.SetUps.{is_tenant_item}
use Rattle.wb_tenants.specs.Sets.{is_tenant}
use Rattle.wb_rows.proofs.Fitting.{found-fits, offset-fits}
use Rattle.wb_notice.proofs.LiveOnes.{found_any, none_any}
use Rattle.wb_notice.proofs.live.is_live_report.Goals as goal

pub day_of-requires : goal.day_of-requires
day_of-requires c =
    let tenants = c.args.registry.now.lists.tenants in
    let found : find (is_tenant c.args.item.now.tenant) tenants ≡ Some c.in-Some.settings.now = search rules in
    let between : IsOffset c.in-Some.settings.now.offset = offset-fits c.in-Some.settings.now (found-fits (is_tenant c.args.item.now.tenant) is_tenant_item tenants c.in-Some.settings.now c.requires found) in
    search rules

pub returns-in-Some : goal.returns-in-Some
returns-in-Some c =
    let tenants = c.args.registry.now.lists.tenants in
    let t = c.args.item.now.tenant in
    let found : find (is_tenant t) tenants ≡ Some c.in-Some.settings.now = search rules in
    let there = found_any (is_tenant t) tenants c.in-Some.settings.now found in
    let between : IsOffset c.in-Some.settings.now.offset = offset-fits c.in-Some.settings.now (found-fits (is_tenant t) is_tenant_item tenants c.in-Some.settings.now c.requires found) in
    let offset : to_z w32 (of_z w32 c.in-Some.settings.now.offset) ≡ c.in-Some.settings.now.offset = search rules in
    rw (there, found, ← offset, ← c.day_of.ensures.day) (c.lives.ensures c.args.item.now.number)

pub returns-in-None : goal.returns-in-None
returns-in-None c =
    let tenants = c.args.registry.now.lists.tenants in
    let t = c.args.item.now.tenant in
    let found : find (is_tenant t) tenants ≡ None = search rules in
    rw (none_any (is_tenant t) tenants found)
