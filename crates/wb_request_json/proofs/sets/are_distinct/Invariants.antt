-- Each before stands once.
use Rattle.std.proofs.Common.{◌≡◌, drop}
use Rattle.wb_model.specs.Fits.{are_distinct}
use Rattle.wb_request_json.proofs.sets.are_distinct.Given as goal

abbrev pub invariant-loop-at : goal.invariant-loop-at
invariant-loop-at l = are_distinct l.users ≡ are_distinct (drop l.at l.users)
