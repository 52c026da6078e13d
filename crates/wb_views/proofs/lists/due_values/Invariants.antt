use Rattle.std.proofs.Common.{◌≡◌, map, take}
use Rattle.serde_json.specs.View.{view}
use Rattle.wb_model.specs.ListViews.{due_data}
use Rattle.wb_views.proofs.lists.due_values.Given as goal

abbrev pub invariant-loop-row : goal.invariant-loop-row
invariant-loop-row l = map view l.values.items ≡ map (due_data l.today) (take l.row-index l.rows)
