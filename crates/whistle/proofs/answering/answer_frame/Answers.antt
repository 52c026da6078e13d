use Rattle.std.proofs.Common.{List, ℕ, sym, subst}
use Rattle.wb_model.specs.Readings.{Asks, Refuses, Reads, Closes}
use Rattle.wb_tables.specs.Standing.{hosts_of}
use Rattle.whistle.proofs.AnswerLemmas.{asked, unanswered}
use Rattle.whistle.proofs.answering.answer_frame.Goals as goal

pub returns-in-Ok-clause-answer : goal.returns-in-Ok-clause-answer
returns-in-Ok-clause-answer g c = λ past stands.
    asked (g.K.Keeper.end c.args.keeper.now) (g.K.Keeper.end c.step-told.new.keeper) past c.args.frame.now c.step-told.result c.in-Ok.asked (hosts_of c.step-told.new.self)
    (subst (λ (bytes : List ℕ). Reads bytes (Asks c.in-Ok.asked)) c.as_slice.ensures c.in-Ok.ensures.ok) (c.step-told.ensures.turn c.requires past stands)

pub returns-in-Err-clause-answer : goal.returns-in-Err-clause-answer
returns-in-Err-clause-answer g c = λ past stands.
    unanswered (g.K.Keeper.end c.args.keeper.now) past c.args.frame.now c.refusal.result c.in-Err.no.fault c.in-Err.no.close (hosts_of c.args.desk.now)
    (λ ne. subst (λ (bytes : List ℕ). Reads bytes (Refuses c.in-Err.no.fault c.in-Err.no.close)) c.as_slice.ensures (c.in-Err.ensures.refused ne))
    (λ e. subst (λ (bytes : List ℕ). Closes bytes c.in-Err.no.close) c.as_slice.ensures (c.in-Err.ensures.memory e))
    (λ e a reads. c.in-Err.ensures.health e a (subst (λ (bytes : List ℕ). Reads bytes (Asks a)) (sym c.as_slice.ensures) reads)) stands c.refusal.ensures

pub returns-in-Ok-clause-read_back : goal.returns-in-Ok-clause-read_back
returns-in-Ok-clause-read_back g c = λ past stands. c.a_desk_leaves_rows_that_are_read.ensures c.step-told.new.self past c.stands.ensures stands

pub returns-in-Err-clause-read_back : goal.returns-in-Err-clause-read_back
returns-in-Err-clause-read_back g c = λ past stands. c.a_desk_leaves_rows_that_are_read.ensures c.args.desk.now past c.stands-in-Err.ensures stands
