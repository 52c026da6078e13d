use Rattle.std.proofs.Common.{sym, ◌∙◌, ap, Some, arith}
use Rattle.wb_custody.proofs.RequestLists.{is_there, not_there}
use Rattle.wb_custody.proofs.rules.request_at.Goals as goal

pub returns-then-number-requests : goal.returns-then-number-requests
returns-then-number-requests c = ap Some c.index-requests-number.is ∙ sym (is_there c.args.number c.args.requests.now c.index-requests-number.result (omega arith) (omega arith))

pub returns-else-number-gt0 : goal.returns-else-number-gt0
returns-else-number-gt0 c = sym (not_there c.args.number c.args.requests.now c.else-number-gt0.either)
