use Rattle.std.proofs.Common.{map, sym, ap, ◌∙◌, subst}
use Rattle.wb_model.specs.Tables.{Session}
use Rattle.wb_tables.specs.Logins.{Logins, AreOf, AreFew, login_of, session_of}
use Rattle.wb_tables.proofs.SessionLists.{earlier_all, own_opened, few_opened, opened_sessions}
use Rattle.wb_tables.proofs.sessions.Sessions.open.Goals as goal

pub open-requires-clause-later : goal.open-requires-clause-later
open-requires-clause-later c =
    earlier_all c.args.login.turn c.kept_session-session.result.turn c.self.inside.table.items (ap (λ (s : Session). s.turn) c.kept_session-session.ensures.is) (rw (← ap (λ (l : Logins). l.items) c.self.view_is) at c.requires.later)

pub invariant_of-self : goal.invariant_of-self
invariant_of-self c =
    subst (λ ss. AreOf c.self.inside.tenant ss × AreFew ss) (sym c.open.ensures.items)
    (own_opened c.self.inside.tenant c.self.inside.table.items c.kept_session-session.result c.self.invariant.0 c.kept_session-session.ensures.own, few_opened c.self.inside.table.items c.kept_session-session.result c.self.invariant.1)

pub returns-clause-items : goal.returns-clause-items
returns-clause-items c =
    rw (← ap (λ (l : Logins). l.items) c.self.view_is) (ap (map session_of) c.open.ensures.items
    ∙ opened_sessions c.self.inside.tenant c.self.inside.table.items c.kept_session-session.result (login_of c.args.login) c.kept_session-session.ensures.is c.self.invariant.0 c.kept_session-session.ensures.own c.self.invariant.1 c.as_slice-ascending.ensures.ascending)
