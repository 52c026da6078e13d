use Rattle.std.proofs.Common.{◌∙◌, sym, arith, decimal, subst}
use Rattle.wb_wire.specs.TextReading.{Lacks}
use Rattle.wb_wire.proofs.LineLemmas.{decimal_lacks}
use Rattle.wb_wire.proofs.TextLemmas.{one_way, stands_there}
use Rattle.wb_wire.proofs.frame_line.number_item.Goals as goal

pub returns-in-None-clause-again : goal.returns-in-None-clause-again
returns-in-None-clause-again c = λ n r small is. stands_there 32 (decimal n) r (subst (Lacks 32) is c.in-None.ensures.none)

pub returns-in-Some-number_of-clause-again : goal.returns-in-Some-number_of-clause-again
returns-in-Some-number_of-clause-again c = λ n r small is.
    let parts = one_way 32 c.in-Some.parts.0.now (decimal n) c.in-Some.parts.1.now r c.in-Some.ensures.lacks (decimal_lacks 32 n (omega arith) small) (sym c.in-Some.ensures.found ∙ is) in
    let read = c.number_of.ensures.again n small parts.0 in
    (cc, parts.1)

pub returns-in-None-number_of-clause-again : goal.returns-in-None-number_of-clause-again
returns-in-None-number_of-clause-again c = λ n r small is.
    let parts = one_way 32 c.in-Some.parts.0.now (decimal n) c.in-Some.parts.1.now r c.in-Some.ensures.lacks (decimal_lacks 32 n (omega arith) small) (sym c.in-Some.ensures.found ∙ is) in
    let read = c.number_of.ensures.again n small parts.0 in
    cc
