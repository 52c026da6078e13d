use Rattle.std.proofs.Common.{sym, ap, ◌∙◌}
use Rattle.std.specs.Option.{option_copied}
use Rattle.wb_rows.proofs.Parted.{parted-none, parted-first, parted-second, parted-bad}
use Rattle.wb_rows.proofs.reading.parted.Goals as goal

pub returns-then-not-is_format_key-clause-ok : goal.returns-then-not-is_format_key-clause-ok
returns-then-not-is_format_key-clause-ok c =
    parted-first c.args.rows.now c.in-Some.first.now (sym c.first.ensures.value ∙ ap option_copied c.in-Some.is) (sym c.is_format_key.ensures ∙ c.if-not-is_format_key.true)

pub returns-then-not-is_format_text-clause-err : goal.returns-then-not-is_format_text-clause-err
returns-then-not-is_format_text-clause-err c =
    parted-bad c.args.rows.now c.in-Some.first.now (sym c.first.ensures.value ∙ ap option_copied c.in-Some.is) (sym c.is_format_key.ensures ∙ c.if-not-is_format_key.false) (sym c.is_format_text.ensures ∙ c.if-not-is_format_text.true)

pub returns-else-not-is_format_text-clause-ok : goal.returns-else-not-is_format_text-clause-ok
returns-else-not-is_format_text-clause-ok c =
    parted-second c.args.rows.now c.in-Some.first.now (sym c.first.ensures.value ∙ ap option_copied c.in-Some.is) (sym c.is_format_key.ensures ∙ c.if-not-is_format_key.false) (sym c.is_format_text.ensures ∙ c.if-not-is_format_text.false)

pub returns-in-None-clause-ok : goal.returns-in-None-clause-ok
returns-in-None-clause-ok c = parted-none c.args.rows.now (sym c.first.ensures.value ∙ ap option_copied c.in-None.is)
