use Rattle.std.proofs.Common.{ap, sym, ◌∙◌}
use Rattle.std.specs.Option.{is_some}
use Rattle.wb_list.specs.Room.{Room}
use Rattle.wb_terms.proofs.TermOrder.{term-found}
use Rattle.wb_terms.proofs.term_index.TermIndex.remove.Goals as goal

pub returns-clause-there : goal.returns-clause-there
returns-clause-there c =
    rw (← ap (λ (r : Room _). r.items) c.self.view_is) (c.is_some.ensures ∙ ap is_some (c.take.ensures.item ∙ sym (term-found c.args.term.now c.self.inside.terms.items)))
