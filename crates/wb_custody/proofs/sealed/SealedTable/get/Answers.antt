use Rattle.std.proofs.Common.{ap, sym, ◌∙◌}
use Rattle.std.specs.Map.{lookup}
use Rattle.wb_list.specs.Room.{Room}
use Rattle.wb_custody.specs.SealedAnswers.{answers_of}
use Rattle.wb_custody.specs.declared.sealed.SealedItem.{SealedItem}
use Rattle.wb_custody.proofs.SealedLookups.{answers-found, eq_key}
use Rattle.wb_custody.proofs.sealed.SealedTable.get.Goals as goal

pub returns : goal.returns
returns c = c.get.ensures.value ∙ (ap (λ k. lookup (eq_key k) c.self.inside.answers.entries) c.key.ensures ∙ (sym (answers-found c.self.inside.answers.entries c.args.tenant c.args.number) ∙ ap (λ (r : Room SealedItem). answers_of r.items c.args.tenant c.args.number) c.self.view_is))
