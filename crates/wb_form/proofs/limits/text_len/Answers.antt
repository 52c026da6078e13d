use Rattle.std.proofs.Common.{rules}
use Rattle.serde_json.specs.View.{view}
use Rattle.wb_form.proofs.NoFloats.{text_len-form}
use Rattle.wb_form.proofs.limits.text_len.Goals as goal

pub returns : goal.returns
returns c =
    text_len-form c.args.form.now (view c.in_ok-value.value) c.in_ok-text.text.items c.len.result c.in_ok-value.ensures c.in_ok-text.ensures.text (search rules)
