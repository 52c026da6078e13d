use Rattle.wb_base.specs.AnswerList.{answer_to}
use Rattle.wb_base.specs.FormFields.{fields_of}
use Rattle.wb_base.specs.AnswerFaults.{public_of}
use Rattle.wb_base.proofs.GoodForms.{good_parts}
use Rattle.wb_base.proofs.Sealing.{public-same, public-answers}
use Rattle.wb_base.proofs.laws.good_forms.Goals as goal

pub returns-clause-few : goal.returns-clause-few
returns-clause-few c = λ form good. (good_parts form good).few

pub returns-clause-sealed : goal.returns-clause-sealed
returns-clause-sealed c = λ form good answers k field here public.
    let parts = good_parts form good in
    public-same (answer_to answers) (answer_to (public_of form answers)) (fields_of form.steps) (public-answers form answers) parts.in_time parts.unsealed k field here public
