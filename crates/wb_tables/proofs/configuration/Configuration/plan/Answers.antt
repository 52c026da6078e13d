use Rattle.std.proofs.Common.{◌≡◌, subst}
use Rattle.std.specs.Prelude.{IfOk}
use Rattle.wb_tables.specs.Configured.{Configured, row_of}
use Rattle.wb_tables.proofs.Configurations.{settings_row}
use Rattle.wb_tables.proofs.configuration.Configuration.plan.Goals as goal

pub returns-in-ToTenant-clause-row : goal.returns-in-ToTenant-clause-row
returns-in-ToTenant-clause-row c =
    subst (λ (v : Configured). IfOk c.plan_settings.result (λ kept. kept ≡ row_of v.tenant v.registry c.args.next.now)) c.self.view_is
    (settings_row c.self.inside.registry.lists c.self.inside.tenant c.args.next.now c.in-ToTenant.next c.plan_settings.result c.in-ToTenant.is c.self.invariant c.plan_settings.ensures.row)
