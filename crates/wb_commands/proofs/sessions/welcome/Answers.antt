use Rattle.std.proofs.Common.{sym, subst}
use Rattle.std.specs.Str.{IsUtf8}
use Rattle.wb_commands.proofs.SecretTexts.{IsUtf8-secret_text}
use Rattle.wb_commands.proofs.sessions.welcome.Goals as goal

pub session_view-requires : goal.session_view-requires
session_view-requires c = subst IsUtf8 (sym c.secret-secret.ensures) (IsUtf8-secret_text c.args.at.now.words)
