use Rattle.std.proofs.Common.{ap, subst, ◌∙◌, ◌<◌, length, IfErr}
use Rattle.wb_list.specs.Room.{Room}
use Rattle.wb_terms.specs.Index.{numbers_of}
use Rattle.wb_terms.proofs.TermOrder.{up-to-run, run-is}
use Rattle.wb_terms.proofs.term_index.TermIndex.up_to.Goals as goal

pub run-requires : goal.run-requires
run-requires c = up-to-run c.args.tenant c.args.day

pub returns-clause-some : goal.returns-clause-some
returns-clause-some c =
    rw (← ap (λ (r : Room _). r.items) c.self.view_is) (subst (λ terms. IfErr c.numbers_of.result (λ x. 0 < length (numbers_of c.args.kind terms))) (c.run.ensures ∙ run-is c.args.tenant c.args.day c.self.inside.terms.items) c.numbers_of.ensures.some)
