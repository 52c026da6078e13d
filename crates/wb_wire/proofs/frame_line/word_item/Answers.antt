use Rattle.std.proofs.Common.{◌∙◌, sym, arith, subst}
use Rattle.wb_wire.specs.TextReading.{Lacks}
use Rattle.wb_model.specs.FrameTexts.{word_text}
use Rattle.wb_wire.proofs.LineLemmas.{word_lacks}
use Rattle.wb_wire.proofs.TextLemmas.{one_way, stands_there}
use Rattle.wb_wire.proofs.frame_line.word_item.Goals as goal

pub returns-in-None-clause-again : goal.returns-in-None-clause-again
returns-in-None-clause-again c = λ n r small is. stands_there 32 (word_text n) r (subst (Lacks 32) is c.in-None.ensures.none)

pub returns-in-Some-word_of-clause-again : goal.returns-in-Some-word_of-clause-again
returns-in-Some-word_of-clause-again c = λ n r small is.
    let parts = one_way 32 c.in-Some.parts.0.now (word_text n) c.in-Some.parts.1.now r c.in-Some.ensures.lacks (word_lacks 32 (omega arith) (omega arith) n) (sym c.in-Some.ensures.found ∙ is) in
    let read = c.word_of.ensures.again n small parts.0 in
    (cc, parts.1)

pub returns-in-None-word_of-clause-again : goal.returns-in-None-word_of-clause-again
returns-in-None-word_of-clause-again c = λ n r small is.
    let parts = one_way 32 c.in-Some.parts.0.now (word_text n) c.in-Some.parts.1.now r c.in-Some.ensures.lacks (word_lacks 32 (omega arith) (omega arith) n) (sym c.in-Some.ensures.found ∙ is) in
    let read = c.word_of.ensures.again n small parts.0 in
    cc
