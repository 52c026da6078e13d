use Rattle.std.proofs.Common.{ap, sym, ◌∙◌, ℕ, List}
use Rattle.std.specs.Option.{option_map}
use Rattle.wb_base.specs.declared.answers.Given.{Given}
use Rattle.wb_base.proofs.AnswerLemmas.{answer-found}
use Rattle.wb_base.proofs.answers.Answers.find.Goals as goal

pub returns-in-Some : goal.returns-in-Some
returns-in-Some c = rw (← c.self.view_is) (ap (option_map (λ (entry : List ℕ × Given). entry.1)) c.in-Some.ensures.item ∙ sym (answer-found c.self.inside.entries.items c.args.id.now))

pub returns-in-None : goal.returns-in-None
returns-in-None c = rw (← c.self.view_is) (ap (option_map (λ (entry : List ℕ × Given). entry.1)) c.in-None.ensures.item ∙ sym (answer-found c.self.inside.entries.items c.args.id.now))
