use Rattle.std.proofs.Common.{ap, sym, ◌∙◌}
use Rattle.std.specs.Map.{lookup}
use Rattle.wb_list.specs.Room.{Room}
use Rattle.wb_custody.specs.SealedAnswers.{answers_of}
use Rattle.wb_custody.specs.declared.sealed.SealedItem.{SealedItem}
use Rattle.wb_custody.proofs.SealedLookups.{answers-found, eq_key, on_ok, other_key}
use Rattle.wb_custody.proofs.sealed.SealedTable.put.Goals as goal

pub returns-clause-here : goal.returns-clause-here
returns-clause-here c =
    let put = on_ok _ _ c.unwrap.ensures c.insert-put.ensures.updates in
    answers-found _ c.args.tenant c.args.number ∙ (ap (λ k. lookup (eq_key k) c.insert-put.new.self.entries) (sym c.key.ensures) ∙ put.1)

pub returns-clause-others : goal.returns-clause-others
returns-clause-others c = λ t n other.
    let put = on_ok _ _ c.unwrap.ensures c.insert-put.ensures.updates in
    answers-found _ t n ∙ (put.2 (t, n) (ap (λ k. eq_key k (t, n)) c.key.ensures ∙ other_key c.args.tenant c.args.number t n other)
    ∙ (sym (answers-found c.self.inside.answers.entries t n) ∙ ap (λ (r : Room SealedItem). answers_of r.items t n) c.self.view_is))
