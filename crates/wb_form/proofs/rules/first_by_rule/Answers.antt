use Rattle.std.proofs.Common.{sym, ◌∙◌, arith}
use Rattle.wb_form.proofs.IndexLemmas.{refused-item, passed-item}
use Rattle.wb_form.proofs.rules.first_by_rule.Goals as goal

pub returns-then-refuses : goal.returns-then-refuses
returns-then-refuses g c =
    refused-item (λ f. f.now) g.R.Rule.rule c.fields-field-items.result.now c.args.index.now c.loop-at.at c.field-item.result c.fields-field-items.ensures (omega arith) c.field-item.is (sym c.refuses.ensures ∙ c.if-refuses.true)
    ∙ c.loop-at.invariant

pub loop-at-preserved : goal.loop-at-preserved
loop-at-preserved g c =
    passed-item (λ f. f.now) g.R.Rule.rule c.fields-field-items.result.now c.args.index.now c.loop-at.at c.field-item.result c.fields-field-items.ensures (omega arith) c.field-item.is (sym c.refuses.ensures ∙ c.if-refuses.false)
    ∙ c.loop-at.invariant
