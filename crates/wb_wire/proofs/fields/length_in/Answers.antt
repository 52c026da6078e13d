use Rattle.std.proofs.Common.{sym, ◌∙◌}
use Rattle.wb_wire.proofs.FieldLemmas.{digits_utf8, too_great}
use Rattle.wb_wire.proofs.fields.length_in.Goals as goal

pub returns-in-Err : goal.returns-in-Err
returns-in-Err c = absurd (c.in-Err.ensures.cases.0 (digits_utf8 c.args.text.now (sym c.is_digits.ensures ∙ c.if-not-is_digits.false)))

pub returns-in-Err-parse : goal.returns-in-Err-parse
returns-in-Err-parse c =
    let same = c.in-Ok.ensures.cases.0 in
    sym (too_great c.args.text.now (sym c.is_digits.ensures ∙ c.if-not-is_digits.false) (rw same at c.in-Err-parse.ensures.value.0))
