use Rattle.std.proofs.Common.{◌≡◌, ◌+◌, ◌++◌, map, drop}
use Rattle.serde_json.specs.View.{view}
use Rattle.wb_model.specs.Openings.{registry_of}
use Rattle.wb_model.specs.ViewRows.{custodied_from}
use Rattle.wb_model.specs.Views.{request_data}
use Rattle.wb_views.proofs.recipient.requests_value.Given as goal

abbrev pub invariant-loop-at : goal.invariant-loop-at
invariant-loop-at l = let users = (registry_of l.registry.lists l.tenant).users in map view l.values.items ++ map request_data (custodied_from users l.fn.number (l.at + 1) (drop l.at l.desk.items)) ≡ map request_data (custodied_from users l.fn.number 1 l.desk.items)
