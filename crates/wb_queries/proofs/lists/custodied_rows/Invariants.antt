use Rattle.std.proofs.Common.{◌≡◌, ◌++◌, drop, map, filter}
use Rattle.wb_model.specs.ViewRows.{all_custodied}
use Rattle.wb_tables.specs.Indexed.{has_requests}
use Rattle.wb_tables.specs.Kept.{case_of, lives_on}
use Rattle.wb_queries.proofs.lists.custodied_rows.Given as goal

abbrev pub invariant-loop-at : goal.invariant-loop-at
invariant-loop-at l = l.rows.items ++ all_custodied l.configuration.registry.users (filter (lives_on l.today) (drop l.at (filter has_requests (map case_of l.cases.items)))) ≡ all_custodied l.configuration.registry.users (filter (lives_on l.today) (map case_of l.cases.items))
