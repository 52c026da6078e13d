use Rattle.std.proofs.Common.{ap, sym, ◌∙◌}
use Rattle.wb_list.specs.Room.{Room}
use Rattle.wb_terms.proofs.TermOrder.{term-found, term-after}
use Rattle.wb_terms.proofs.term_index.TermIndex.add.Goals as goal

pub add-requires-clause-free : goal.add-requires-clause-free
add-requires-clause-free c = sym (term-found c.args.term c.self.inside.terms.items) ∙ rw (← ap (λ (r : Room _). r.items) c.self.view_is) at c.requires.free

pub returns-clause-found : goal.returns-clause-found
returns-clause-found c t =
    rw (← ap (λ (r : Room _). r.items) c.self.view_is) (term-after t c.args.term c.self.inside.terms.items c.add.new.self.items (c.add.ensures.found t))
