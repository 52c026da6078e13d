use Rattle.std.proofs.Common.{◌≡◌, ◌++◌, map, take, drop}
use Rattle.wb_model.specs.Access as access
use Rattle.wb_custody.proofs.requests.end_of.Given as goal

abbrev pub invariant-loop-request : goal.invariant-loop-request
invariant-loop-request l = take l.request-index l.requests ++ map (access.ended_of l.user) (drop l.request-index l.requests) ≡ map (access.ended_of l.user) l.fn.requests
