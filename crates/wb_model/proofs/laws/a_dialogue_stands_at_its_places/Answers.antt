use Rattle.wb_model.proofs.Dialogue.{dialogue_at_places, dialogue_more}
use Rattle.wb_model.proofs.laws.a_dialogue_stands_at_its_places.Goals as goal

pub returns-clause-remarks : goal.returns-clause-remarks
returns-clause-remarks c = dialogue_at_places

pub returns-clause-more : goal.returns-clause-more
returns-clause-more c = dialogue_more
