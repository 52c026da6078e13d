use Rattle.std.proofs.Common.{true, ◌∙◌}
use Rattle.wb_form.proofs.IndexLemmas.{has-found}
use Rattle.wb_form.proofs.index.Index.has.Goals as goal

pub returns : goal.returns
returns c = c.is_some.ensures ∙ has-found c.args.self.now c.args.id.now c.args.before c.find.result (c.find.ensures (λ f. true))
