use Rattle.std.proofs.Common.{map, not, sym, ap, ◌∙◌, subst}
use Rattle.wb_access.specs.declared.sessions.Session.{Session as KeptSession}
use Rattle.wb_model.specs.Tables.{lasts}
use Rattle.wb_tables.specs.Kept.{case_of}
use Rattle.wb_tables.specs.Logins.{Logins, AreOf, AreFew, session_of}
use Rattle.wb_tables.proofs.Purges.{dropped}
use Rattle.wb_tables.proofs.SessionLists.{own_filter, few_filter}
use Rattle.wb_tables.proofs.sessions.Sessions.drop_each.Goals as goal

pub invariant_of-self : goal.invariant_of-self
invariant_of-self c =
    subst (λ ss. AreOf c.self.inside.tenant ss × AreFew ss) (sym c.drop_passing.ensures.items) (
      own_filter c.self.inside.tenant (λ (s : KeptSession). not (not (lasts c.args.time (map case_of c.args.cases.now.items) (session_of s)))) c.self.inside.table.items c.self.invariant.0,
      few_filter (λ (s : KeptSession). not (not (lasts c.args.time (map case_of c.args.cases.now.items) (session_of s)))) c.self.inside.table.items c.self.invariant.1,
    )

pub returns-clause-items : goal.returns-clause-items
returns-clause-items c =
    rw (← ap (λ (l : Logins). l.items) c.self.view_is) (ap (map session_of) c.drop_passing.ensures.items ∙ dropped session_of (lasts c.args.time (map case_of c.args.cases.now.items)) c.self.inside.table.items)
