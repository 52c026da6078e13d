use Rattle.std.proofs.Common.{◌<◌, ◌++◌, ◌∷◌, []}
use Rattle.wb_base.specs.declared.rows.Change.TheVariants.{Put}
use Rattle.wb_model.specs.Changes.{Configures}
use Rattle.wb_model.specs.Host.{changed}
use Rattle.wb_model.specs.Tenants.{Tenancy}
use Rattle.wb_rows.specs.Puts.{setting_row}
use Rattle.wb_rows.proofs.ConfiguredRows.{configured_rows}
use Rattle.wb_rows.proofs.PutsBehind.{lifted, setting_behind}
use Rattle.wb_rows.proofs.RowPuts.{held_all}
use Rattle.wb_rows.proofs.laws.a_setting_puts_its_row.Goals as goal

pub returns : goal.returns
returns c = λ before after x below above versions setting version now secret.
    let g = x.tables.plain.registry in
    lifted (before ++ (x ∷ after)) (before ++ (record { id = x.id; tables = changed now (Configures setting) secret x.tables } ∷ after)) (Put (setting_row x.id g setting) ∷ []) (setting_behind x.id g setting)
    (configured_rows before after x (held_all (λ (b : Tenancy). b.id < x.id) before below) (held_all (λ (a : Tenancy). x.id < a.id) after above) versions setting version now secret)
