use Rattle.std.proofs.Common.{◌≡◌, take}
use Rattle.wb_model.specs.Trails as trails
use Rattle.wb_commands.proofs.identity.public_answers.Given as goal

abbrev pub invariant-loop-entry : goal.invariant-loop-entry
invariant-loop-entry l = l.found ≡ trails.answers (take l.entry-index l.trail)
