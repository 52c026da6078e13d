use Rattle.std.proofs.Common.{inl, inr, sym, arith}
use Rattle.wb_custody.proofs.RequestLists.{not_there}
use Rattle.wb_commands.proofs.custody.request_of.Goals as goal

pub returns-then-k-eq0 : goal.returns-then-k-eq0
returns-then-k-eq0 c = sym (not_there c.args.k c.args.report.now.desk.items (inr (omega (arith, c.if-k-eq0.true))))

pub returns-else-k-len : goal.returns-else-k-len
returns-else-k-len c = sym (not_there c.args.k c.args.report.now.desk.items (inl (omega (arith, c.if-k-eq0.false), omega (arith, c.len.ensures, c.if-k-len.false))))
