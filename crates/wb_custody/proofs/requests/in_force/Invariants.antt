use Rattle.std.proofs.Common.{◌≡◌, drop}
use Rattle.wb_model.specs.Access as access
use Rattle.wb_custody.proofs.requests.in_force.Given as goal

abbrev pub invariant-loop-request : goal.invariant-loop-request
invariant-loop-request l = access.in_force_of l.user l.stamp l.now (drop l.request-index l.requests) ≡ access.in_force_of l.user l.stamp l.now l.requests
