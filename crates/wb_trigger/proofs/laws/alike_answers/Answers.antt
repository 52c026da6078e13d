use Rattle.std.proofs.Common.{refl}
use Rattle.wb_trigger.proofs.PublicLemmas.{alike_shown, alike_answer}
use Rattle.wb_trigger.proofs.laws.alike_answers.Goals as goal

pub returns-clause-shown : goal.returns-clause-shown
returns-clause-shown c = alike_shown

pub returns-clause-answer : goal.returns-clause-answer
returns-clause-answer c = alike_answer

pub returns-clause-fault : goal.returns-clause-fault
returns-clause-fault c = λ form a b k field good alike public. rw (alike_shown form a b k field good alike public, alike.1, alike_answer form a b k field good alike public) refl
