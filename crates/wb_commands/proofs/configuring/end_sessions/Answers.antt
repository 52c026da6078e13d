use Rattle.std.proofs.Common.{◌≡◌, false, not, map, sym, subst}
use Rattle.std.specs.Prelude.{filter}
use Rattle.std.specs.Option.{option_map_or}
use Rattle.wb_model.specs.Host.{is_user}
use Rattle.wb_model.proofs.SessionsLaw.{all_pass}
use Rattle.wb_tables.specs.Logins.{session_of}
use Rattle.wb_commands.proofs.configuring.end_sessions.Goals as goal

pub returns-in_default-clause-items : goal.returns-in_default-clause-items
returns-in_default-clause-items c =
    subst (λ ended. map session_of c.args.sessions.now.items ≡ filter (λ s. not (option_map_or (λ u. is_user u s.who) ended false)) (map session_of c.args.sessions.now.items)) (sym c.in_default.is)
    (sym (all_pass (map session_of c.args.sessions.now.items)))
