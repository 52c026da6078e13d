use Rattle.std.proofs.Common.{◌≡◌, ◌++◌, map, drop}
use Rattle.serde_json.specs.View.{view}
use Rattle.wb_views.specs.Shown.{forms_shown}
use Rattle.wb_views.proofs.admin.forms_value.Given as goal

abbrev pub invariant-loop-at : goal.invariant-loop-at
invariant-loop-at l = map view l.values.items ++ forms_shown l.tenant (drop l.at l.forms) ≡ forms_shown l.tenant l.forms
