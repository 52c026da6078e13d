use Rattle.std.proofs.Common.{◌≡◌, drop}
use Rattle.wb_base.specs.FormFaults.{has_twice}
use Rattle.wb_form.proofs.fields.has_twice.Given as goal

abbrev pub invariant-loop-at : goal.invariant-loop-at
invariant-loop-at l = has_twice (drop l.at l.options) ≡ has_twice l.options
