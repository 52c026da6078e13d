use Rattle.std.proofs.Common.{◌≡◌, length}
use Rattle.wb_model.specs.SetUps.{are_apart}
use Rattle.wb_setup.proofs.rules.differ.Given as goal

abbrev pub invariant-loop-first : goal.invariant-loop-first
invariant-loop-first g l = are_apart (g.S.Sameness.same l.test) l.items ≡ are_apart (g.S.Sameness.same l.test) l.rest

abbrev pub decreases-loop-first : goal.decreases-loop-first
decreases-loop-first g l = length l.rest
