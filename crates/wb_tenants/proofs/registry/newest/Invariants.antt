use Rattle.std.proofs.Common.{◌≡◌, ◌==◌, drop, fold, if◌then◌else◌, Option, Some}
use Rattle.std.specs.Option.{option_copied}
use Rattle.wb_model.specs.declared.registry.FormItem.{FormItem}
use Rattle.wb_model.specs.Tables.{newest_form}
use Rattle.wb_tenants.proofs.registry.newest.Given as goal

abbrev pub invariant-loop-form : goal.invariant-loop-form
invariant-loop-form l = fold (λ (before : Option FormItem) x. if x.id == l.id then Some x else before) (option_copied l.last) (drop l.form-index l.forms) ≡ newest_form l.id l.forms
