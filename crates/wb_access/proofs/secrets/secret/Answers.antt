use Rattle.std.proofs.Common.{ap, ◌∙◌}
use Rattle.std.specs.Int.{to_be_bytes, w128}
use Rattle.hex.specs.Hex.{encode_lower}
use Rattle.wb_base.specs.Secrets.{secret_text}
use Rattle.wb_access.proofs.secrets.secret.Goals as goal

pub returns : goal.returns
unfolding secret_text
returns c = c.hex_of.ensures ∙ ap encode_lower (c.to_be_bytes.ensures ∙ ap (to_be_bytes w128) c.both.ensures)
