use Rattle.wb_base.proofs.AnswerLemmas.{absent}
use Rattle.wb_base.proofs.answers.Answers.insert.Goals as goal

pub add-requires-clause-free : goal.add-requires-clause-free
add-requires-clause-free c = rw c.reserve.ensures.items (absent c.self.inside.entries.items c.args.id (rw (← c.self.view_is) at c.requires))
