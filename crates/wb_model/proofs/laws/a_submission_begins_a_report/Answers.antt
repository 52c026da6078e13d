use Rattle.wb_model.proofs.Answered.{answered_opens}
use Rattle.wb_model.proofs.laws.a_submission_begins_a_report.Goals as goal

pub returns : goal.returns
returns c = λ past p t s. answered_opens past p s.0 s.1 t s.2 s.3 s.4
