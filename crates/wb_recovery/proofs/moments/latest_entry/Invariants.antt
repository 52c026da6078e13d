use Rattle.std.proofs.Common.{◌≡◌, drop, map}
use Rattle.std.specs.Prelude.{max}
use Rattle.wb_model.specs.declared.entry.Entry.{Entry}
use Rattle.wb_model.specs.Reopened.{latest}
use Rattle.wb_recovery.proofs.moments.latest_entry.Given as goal

abbrev pub invariant-loop-entry : goal.invariant-loop-entry
invariant-loop-entry l = max l.last (latest (map (λ (e : Entry). e.at) (drop l.entry-index l.trail))) ≡ max l.fn.time (latest (map (λ (e : Entry). e.at) l.trail))
