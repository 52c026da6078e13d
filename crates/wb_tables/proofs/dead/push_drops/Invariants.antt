use Rattle.std.proofs.Common.{◌≡◌, ◌++◌, drop, map}
use Rattle.wb_base.specs.declared.rows.Change.TheVariants.{DropReport}
use Rattle.wb_tables.proofs.dead.push_drops.Given as goal

abbrev pub invariant-loop-number : goal.invariant-loop-number
invariant-loop-number l = l.batch.items ++ map (λ n. DropReport l.tenant n) (drop l.number-index l.numbers) ≡ l.initial.batch.items ++ map (λ n. DropReport l.tenant n) l.numbers
