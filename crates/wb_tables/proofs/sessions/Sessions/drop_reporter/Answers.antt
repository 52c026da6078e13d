use Rattle.std.proofs.Common.{map, not, sym, ap, ◌∙◌, subst}
use Rattle.wb_access.specs.Sessions.{is_of}
use Rattle.wb_access.specs.declared.sessions.Session.{Session as KeptSession}
use Rattle.wb_base.specs.declared.callers.Principal.TheVariants as principals
use Rattle.wb_model.specs.Tables.{Session, is_reporter_of}
use Rattle.wb_tables.specs.Logins.{Logins, AreOf, AreFew, session_of}
use Rattle.wb_tables.proofs.SessionLists.{own_filter, few_filter, dropped_same, reporter_is}
use Rattle.wb_tables.proofs.sessions.Sessions.drop_reporter.Goals as goal

pub invariant_of-self : goal.invariant_of-self
invariant_of-self c =
    subst (λ ss. AreOf c.self.inside.tenant ss × AreFew ss) (sym c.drop_of.ensures.items) (
      own_filter c.self.inside.tenant (λ (s : KeptSession). not (is_of (principals.Report c.self.inside.tenant c.args.number) s)) c.self.inside.table.items c.self.invariant.0,
      few_filter (λ (s : KeptSession). not (is_of (principals.Report c.self.inside.tenant c.args.number) s)) c.self.inside.table.items c.self.invariant.1,
    )

pub returns-clause-items : goal.returns-clause-items
returns-clause-items c =
    rw (← ap (λ (l : Logins). l.items) c.self.view_is) (ap (map session_of) c.drop_of.ensures.items
    ∙ dropped_same c.self.inside.tenant (λ (s : KeptSession). not (is_of (principals.Report c.self.inside.tenant c.args.number) s)) (λ (s : Session). not (is_reporter_of c.args.number s.who)) c.self.inside.table.items c.self.invariant.0 (λ s mine. reporter_is c.self.inside.tenant c.args.number s mine))
