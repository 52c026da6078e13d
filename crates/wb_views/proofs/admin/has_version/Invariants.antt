use Rattle.std.proofs.Common.{◌≡◌, ◌==◌, List, drop, filter}
use Rattle.std.specs.List.{list_any}
use Rattle.wb_model.specs.declared.registry.FormItem.{FormItem}
use Rattle.wb_views.proofs.admin.has_version.Given as goal

abbrev pub invariant-loop-form : goal.invariant-loop-form
invariant-loop-form l = let among = λ (xs : List FormItem). list_any (λ (y : FormItem). y.id == l.id) (filter (λ (x : FormItem). x.tenant == l.tenant) xs) in among (drop l.form-index l.forms) ≡ among l.forms
