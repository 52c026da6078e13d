use Rattle.std.proofs.Common.{codes, sym, ap, ◌∙◌}
use Rattle.wb_base.specs.AnswerList.{is_text}
use Rattle.wb_rows.proofs.Parted.{format-text}
use Rattle.wb_rows.proofs.reading.is_format_text.Goals as goal

pub returns : goal.returns
returns c = c.eq.ensures ∙ (ap (λ t. is_text t (codes "{\"format\":2}")) c.as_str.ensures ∙ ap (is_text c.args.text.now) (sym format-text))
