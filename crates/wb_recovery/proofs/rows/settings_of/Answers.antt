use Rattle.std.proofs.Common.{ap, sym, ◌∙◌}
use Rattle.wb_model.specs.Tables.{Registry}
use Rattle.wb_recovery.proofs.OwnSettings.{own_settings}
use Rattle.wb_recovery.proofs.rows.settings_of.Goals as goal

pub returns-clause-own : goal.returns-clause-own
returns-clause-own c =
    let is = c.registry-there.ensures in
    ap (λ x. x.tenant) c.settings.ensures ∙ (ap (λ (g : Registry). g.settings.tenant) (sym is.registry) ∙ own_settings c.registry-there.result.now.lists _ is.there)
