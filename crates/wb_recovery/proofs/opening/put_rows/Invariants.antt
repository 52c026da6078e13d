use Rattle.std.proofs.Common.{◌≡◌, ◌++◌, map}
use Rattle.wb_base.specs.declared.rows.Change.TheVariants.{Put}
use Rattle.wb_recovery.proofs.opening.put_rows.Given as goal

abbrev pub invariant-loop-row : goal.invariant-loop-row
invariant-loop-row l = l.batch.items ++ map Put l.row-iterator.rest.items ≡ l.fn.batch.items ++ map Put l.fn.rows.items
