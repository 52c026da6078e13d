use Rattle.wb_model.proofs.ReadAnswers.{text_read, got_read, answers_fit}
use Rattle.wb_model.proofs.laws.answers_that_are_read_stand_in_order.Goals as goal

pub returns-clause-whole : goal.returns-clause-whole
returns-clause-whole c = λ text value a read is. answers_fit value a (text_read text value read) is

pub returns-clause-member : goal.returns-clause-member
returns-clause-member c = λ text key value under a read has is. answers_fit under a (got_read key value under (text_read text value read) has) is
