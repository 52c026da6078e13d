use Rattle.std.proofs.Common.{◌≡◌, None, Some, take}
use Rattle.std.specs.Prelude.{option_map}
use Rattle.wb_model.specs.Trails.{submitted}
use Rattle.wb_tables.proofs.cases.receipt.Given as goal

abbrev pub invariant-loop-entry : goal.invariant-loop-entry
invariant-loop-entry l = option_map (λ digest. digest.0) l.found ≡ submitted (λ s. Some s.receipt) None (take l.entry-index l.trail)
