use Rattle.std.proofs.Common.{◌≡◌, ◌++◌, drop, map, filter}
use Rattle.wb_model.specs.ViewRows.{dues, readable}
use Rattle.wb_tables.specs.Indexed.{has_dues}
use Rattle.wb_tables.specs.Kept.{case_of, lives_on}
use Rattle.wb_queries.proofs.PickedRows.{is_read_on}
use Rattle.wb_queries.proofs.lists.dues_of.Given as goal

abbrev pub invariant-loop-at : goal.invariant-loop-at
invariant-loop-at l = l.rows.items ++ dues (filter (is_read_on l.today l.user) (drop l.at (filter has_dues (map case_of l.cases.items)))) ≡ dues (readable l.user (filter (lives_on l.today) (map case_of l.cases.items)))
