use Rattle.std.proofs.Common.{◌∙◌, sym, arith, codes, decimal, subst}
use Rattle.wb_wire.specs.TextReading.{Lacks}
use Rattle.wb_wire.proofs.SetupLemmas.{mark_lacks}
use Rattle.wb_wire.proofs.TextLemmas.{one_way, stands_there}
use Rattle.wb_wire.proofs.frame_line.SetupLineFirstLine.read.Goals as goal

pub returns-in-None-clause-only : goal.returns-in-None-clause-only
returns-in-None-clause-only c = λ head n is. absurd (stands_there 32 (codes "@setup") (decimal n) (subst (Lacks 32) is.1 c.in-None.ensures.none))

pub returns-then-not-is_same-clause-only : goal.returns-then-not-is_same-clause-only
returns-then-not-is_same-clause-only c = λ head n is.
    let parts = one_way 32 c.in-Some.parts.0.now (codes "@setup") c.in-Some.parts.1.now (decimal n) c.in-Some.ensures.lacks (mark_lacks 32 (omega arith)) (sym c.in-Some.ensures.found ∙ is.1) in
    let same = c.is_same.ensures.1 parts.0 in
    let not' = c.if-not-is_same.true in
    cc
