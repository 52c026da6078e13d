-- The rows of a tenant, by their kind.
use Rattle.std.specs.Prelude.{List}
use Rattle.wb_base.specs.declared.rows.Row.{Row}
use Rattle.wb_model.specs.Rows.{settings_rows, numbering_rows, user_rows, form_rows, context_rows, entry_rows, answer_rows}
use Rattle.wb_model.specs.Tenants.{Tenancy}
use Rattle.wb_recovery.specs.declared.rows.Kind.{Kind}
use Rattle.wb_recovery.specs.declared.rows.Kind.TheVariants as kinds

abbrev pub rows_by : Kind → Tenancy → List Row
rows_by kinds.Settings = settings_rows
rows_by kinds.Numbering = numbering_rows
rows_by kinds.Users = user_rows
rows_by kinds.Forms = form_rows
rows_by kinds.Contexts = context_rows
rows_by kinds.Entries = entry_rows
rows_by kinds.Answers = answer_rows
