use Rattle.wb_model.proofs.TurnsServed.{spent_is_told, none_spent}
use Rattle.wb_model.proofs.laws.a_turn_is_not_answered_as_spent.Goals as goal

pub returns-clause-told : goal.returns-clause-told
returns-clause-told c = spent_is_told

pub returns-clause-others : goal.returns-clause-others
returns-clause-others c = none_spent
