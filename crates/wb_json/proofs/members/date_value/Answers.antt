use Rattle.std.proofs.Common.{subst, sym, ◌∙◌}
use Rattle.std.specs.Str.{IsUtf8}
use Rattle.wb_json.proofs.DateBytes.{IsUtf8-date_text}
use Rattle.wb_json.proofs.members.date_value.Goals as goal

pub unreachable-requires : goal.unreachable-requires
unreachable-requires c =
    c.in-Err.ensures.cases.0 (subst IsUtf8 (sym (c.as_slice.ensures ∙ c.date_text-bytes.ensures)) (IsUtf8-date_text _ (c.days-days.ensures.low, c.days-days.ensures.high)))
