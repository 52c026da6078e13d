use Rattle.std.proofs.Common.{◌<◌, ◌+◌, ◌++◌, ◌∷◌, length, arith}
use Rattle.wb_base.specs.declared.rows.Change.TheVariants.{Put}
use Rattle.wb_model.specs.Changes.{Notes}
use Rattle.wb_model.specs.Host.{changed}
use Rattle.wb_model.specs.Rows.{row, entry_data}
use Rattle.wb_model.specs.Tenants.{Tenancy}
use Rattle.wb_rows.specs.Puts.{sealed_put}
use Rattle.wb_rows.proofs.NotedRows.{noted_rows}
use Rattle.wb_rows.proofs.PutsBehind.{lifted, sealed_behind}
use Rattle.wb_rows.proofs.RowPuts.{held_all}
use Rattle.wb_rows.proofs.laws.an_entry_puts_its_rows.Goals as goal

pub returns : goal.returns
returns c = λ before after x below above up n case there now entry given.
    lifted (before ++ (x ∷ after)) (before ++ (record { id = x.id; tables = changed now (Notes n entry) given x.tables } ∷ after)) (Put (row 6 x.id n (length case.trail + 1) (entry_data entry)) ∷ sealed_put x.id n given) (omega arith, sealed_behind x.id n given)
    (noted_rows before after x (held_all (λ (b : Tenancy). b.id < x.id) before below) (held_all (λ (a : Tenancy). x.id < a.id) after above) up n case there now entry given)
