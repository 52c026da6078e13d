use Rattle.std.proofs.Common.{◌≡◌, Some, find, rules}
use Rattle.wb_base.specs.Days.{IsOffset}
use Rattle.wb_model.specs.SetUps.{is_tenant_item}
use Rattle.wb_tenants.specs.Sets.{is_tenant}
use Rattle.wb_rows.proofs.Fitting.{found-fits, offset-fits}
use Rattle.wb_rows.proofs.trails.days_of.Goals as goal

pub returns-in-Some-clause-range : goal.returns-in-Some-clause-range
returns-in-Some-clause-range c =
    let found : find (is_tenant c.args.tenant) c.args.registry.now.lists.tenants ≡ Some c.in-Some.item.now = search rules in
    let between : IsOffset c.in-Some.item.now.offset = offset-fits c.in-Some.item.now (found-fits (is_tenant c.args.tenant) is_tenant_item c.args.registry.now.lists.tenants c.in-Some.item.now c.requires.tenants found) in
    search rules
