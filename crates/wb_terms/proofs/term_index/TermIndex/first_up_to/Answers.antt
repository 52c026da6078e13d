use Rattle.std.proofs.Common.{ap, ◌∙◌}
use Rattle.wb_list.specs.Room.{Room}
use Rattle.wb_terms.specs.Index.{first_of}
use Rattle.wb_terms.proofs.TermOrder.{up-to-run, run-is}
use Rattle.wb_terms.proofs.term_index.TermIndex.first_up_to.Goals as goal

pub run-requires : goal.run-requires
run-requires c = up-to-run c.args.tenant c.args.day

pub returns : goal.returns
returns c =
    rw (← ap (λ (r : Room _). r.items) c.self.view_is) (c.first_among.ensures ∙ ap (first_of c.args.kind) (c.run.ensures ∙ run-is c.args.tenant c.args.day c.self.inside.terms.items))
