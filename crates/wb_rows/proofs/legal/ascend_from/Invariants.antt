use Rattle.std.proofs.Common.{◌≡◌, drop}
use Rattle.wb_model.specs.Legal.{ascends_from}
use Rattle.wb_rows.proofs.legal.ascend_from.Given as goal

abbrev pub invariant-loop-user : goal.invariant-loop-user
invariant-loop-user l = ascends_from l.last (drop l.user-index l.users) ≡ ascends_from l.fn.low l.users
