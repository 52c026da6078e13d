use Rattle.std.proofs.Common.{ap, ◌∙◌}
use Rattle.serde_json.specs.Written.{has_float}
use Rattle.wb_notice.proofs.NoticeTexts.{in-notice}
use Rattle.wb_notice.proofs.notice.notice_row.Goals as goal

pub text_of-requires : goal.text_of-requires
text_of-requires c = ap has_float c.in_ok-value.ensures ∙ in-notice c.args.notice.now
