use Rattle.std.proofs.Common.{◌≡◌, ◌+◌, ◌++◌, drop}
use Rattle.wb_model.specs.Openings.{registry_of}
use Rattle.wb_model.specs.ViewRows.{custodied_from}
use Rattle.wb_views.proofs.asked.push_custodied.Given as goal

abbrev pub invariant-loop-at : goal.invariant-loop-at
invariant-loop-at l = let users = (registry_of l.registry.lists l.tenant).users in l.rows.items ++ custodied_from users l.number (l.at + 1) (drop l.at l.desk.items) ≡ l.fn.rows.items ++ custodied_from users l.number 1 l.desk.items
