use Rattle.std.proofs.Common.{◌≡◌, ◌++◌, map, drop}
use Rattle.wb_base.specs.declared.form.Format.TheVariants.{Weighed}
use Rattle.wb_base.specs.declared.rows.Change.TheVariants.{Put}
use Rattle.wb_rows.specs.HeldRows.{form_row}
use Rattle.wb_rows.proofs.writing.put_forms.Given as goal

abbrev pub invariant-loop-form : goal.invariant-loop-form
invariant-loop-form l = l.batch.items ++ map Put (map (form_row Weighed) (drop l.form-index l.forms)) ≡ l.initial.batch.items ++ map Put (map (form_row Weighed) l.forms)
