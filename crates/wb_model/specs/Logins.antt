-- Logins and logouts: the session that one makes, and the reply.
use Rattle.wb_base.specs.declared.callers.Role.{Role}
use Rattle.wb_base.specs.Secrets.{secret_text, digest}
use Rattle.wb_model.specs.declared.body.Told.{Told}
use Rattle.wb_model.specs.Tables.{Registry, Session, Who}
use Rattle.wb_model.specs.Json.{told}
use Rattle.wb_model.specs.ShortViews.{session_view}
use Rattle.wb_model.specs.Changes.{TurnContext}

-- the session that a turn makes for a caller
abbrev pub new_session : TurnContext → Registry → Role → Who → Session
new_session at g role who = record { turn = at.turn; digest = digest g.settings.salt (secret_text at.words); role = role; who = who; at = at.time }

-- the reply to a login
abbrev pub welcome : TurnContext → Role → Told
welcome at role = told 201 (session_view role at.turn (secret_text at.words))
