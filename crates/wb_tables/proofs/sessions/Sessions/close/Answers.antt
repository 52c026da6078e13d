use Rattle.std.proofs.Common.{map, not, refl, sym, ap, ◌∙◌, subst}
use Rattle.std.specs.Prelude.{◌==◌}
use Rattle.wb_access.specs.declared.sessions.Session.{Session as KeptSession}
use Rattle.wb_model.specs.Tables.{Session}
use Rattle.wb_tables.specs.Logins.{Logins, AreOf, AreFew, session_of}
use Rattle.wb_tables.proofs.SessionLists.{own_filter, few_filter, dropped_same}
use Rattle.wb_tables.proofs.sessions.Sessions.close.Goals as goal

pub invariant_of-self : goal.invariant_of-self
invariant_of-self c =
    subst (λ ss. AreOf c.self.inside.tenant ss × AreFew ss) (sym c.close.ensures.items)
    (own_filter c.self.inside.tenant (λ (s : KeptSession). not (s.turn == c.args.turn)) c.self.inside.table.items c.self.invariant.0, few_filter (λ (s : KeptSession). not (s.turn == c.args.turn)) c.self.inside.table.items c.self.invariant.1)

pub returns-clause-items : goal.returns-clause-items
returns-clause-items c =
    rw (← ap (λ (l : Logins). l.items) c.self.view_is) (ap (map session_of) c.close.ensures.items
    ∙ dropped_same c.self.inside.tenant (λ (s : KeptSession). not (s.turn == c.args.turn)) (λ (s : Session). not (s.turn == c.args.turn)) c.self.inside.table.items c.self.invariant.0 (λ s mine. refl))
