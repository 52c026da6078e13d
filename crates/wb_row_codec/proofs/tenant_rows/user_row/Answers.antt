use Rattle.std.proofs.Common.{ap, ◌∙◌}
use Rattle.serde_json.specs.Written.{has_float}
use Rattle.wb_row_codec.proofs.TenantRows.{in-user}
use Rattle.wb_row_codec.proofs.tenant_rows.user_row.Goals as goal

pub text_of-requires : goal.text_of-requires
text_of-requires c = ap has_float c.in_ok-value.ensures ∙ in-user c.args.user.now
