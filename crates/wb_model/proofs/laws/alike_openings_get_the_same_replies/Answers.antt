use Rattle.wb_model.specs.Pasts.{standing_hosts}
use Rattle.wb_model.proofs.ScriptLaw.{later_answers, later_end, all_same}
use Rattle.wb_model.proofs.RowsAlike.{rows_alike}
use Rattle.wb_model.proofs.AlikeOpenings.{openings_alike, openings_marks, reopened_alike}
use Rattle.wb_model.proofs.laws.alike_openings_get_the_same_replies.Goals as goal

pub returns-clause-openings : goal.returns-clause-openings
returns-clause-openings c = openings_alike

pub returns-clause-marks : goal.returns-clause-marks
returns-clause-marks c = openings_marks

pub returns-clause-replies : goal.returns-clause-replies
returns-clause-replies c = later_answers

pub returns-clause-hosts : goal.returns-clause-hosts
returns-clause-hosts c = later_end

pub returns-clause-rows : goal.returns-clause-rows
returns-clause-rows c = λ t r past other alike. rows_alike t r (standing_hosts past) (standing_hosts other) alike

pub returns-clause-reopened : goal.returns-clause-reopened
returns-clause-reopened c = reopened_alike

pub returns-clause-same : goal.returns-clause-same
returns-clause-same c = λ t r past other places alike. later_answers t r past other places places alike (all_same t r past places)
