use Rattle.std.proofs.Common.{◌==◌, not, rules, ap, ◌∙◌, filter}
use Rattle.std.proofs.lemmas.Fn.{filter_same}
use Rattle.wb_case.proofs.readers.Readers.remove.Goals as goal

pub returns-clause-items : goal.returns-clause-items
returns-clause-items c = filter_same _ (λ x. not (x == c.args.user)) _ (λ s b f' called. (search rules, search rules)) _ _ c.retain.ensures.filtered ∙ ap (λ v. filter (λ x. not (x == c.args.user)) v.items) c.self.view_is
