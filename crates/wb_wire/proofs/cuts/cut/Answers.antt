-- At the first mark, or where there is none.
use Rattle.std.proofs.Common.{◌+◌, sym}
use Rattle.std.proofs.lemmas.List.{take_rest}
use Rattle.wb_wire.proofs.CutLemmas.{cut_there, one_part}
use Rattle.wb_wire.proofs.cuts.cut.Goals as goal

pub returns-in-Some-clause-parts : goal.returns-in-Some-clause-parts
returns-in-Some-clause-parts c = rw (take_rest c.args.bytes.now (c.in-Some.at + 1)) (cut_there c.args.mark c.args.bytes.now c.in-Some.at (sym c.in-Some.ensures))

pub returns-in-None-clause-parts : goal.returns-in-None-clause-parts
returns-in-None-clause-parts c = one_part c.args.mark c.args.bytes.now (sym c.in-None.ensures)
