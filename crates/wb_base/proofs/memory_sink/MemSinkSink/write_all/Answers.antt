use Rattle.std.proofs.Common.{take, drop, sym, arith}
use Rattle.std.proofs.lemmas.List.{take-append-drop}
use Rattle.std.proofs.lemmas.Grind.{common_steps}
use Rattle.wb_base.proofs.memory_sink.MemSinkSink.write_all.Goals as goal

pub returns-then-fails-clause-err : goal.returns-then-fails-clause-err
returns-then-fails-clause-err c = (take c.if-is_to_fail-2.fitting c.args.bytes.now, drop c.if-is_to_fail-2.fitting c.args.bytes.now, sym (take-append-drop c.if-is_to_fail-2.fitting c.args.bytes.now), grind (arith, common_steps))
