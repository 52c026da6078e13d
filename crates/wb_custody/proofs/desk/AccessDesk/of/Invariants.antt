use Rattle.std.proofs.Common.{◌≡◌, take}
use Rattle.wb_model.specs.Access as access
use Rattle.wb_custody.proofs.desk.AccessDesk.of.Given as goal

abbrev pub invariant-loop-entry : goal.invariant-loop-entry
invariant-loop-entry l = l.desk.items ≡ access.requests (take l.entry-index l.entries)
