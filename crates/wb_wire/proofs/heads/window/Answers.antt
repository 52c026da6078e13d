use Rattle.std.proofs.Common.{sym, arith}
use Rattle.std.proofs.lemmas.List.{take_all}
use Rattle.wb_wire.proofs.heads.window.Goals as goal

pub returns-then-bytes-lt8192-clause-front : goal.returns-then-bytes-lt8192-clause-front
returns-then-bytes-lt8192-clause-front c = sym (take_all 8_192 c.args.bytes.now (omega arith))
