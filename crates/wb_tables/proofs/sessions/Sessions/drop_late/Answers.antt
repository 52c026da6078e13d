use Rattle.std.proofs.Common.{sym, subst}
use Rattle.std.specs.Prelude.{◌+◌, nat_lt}
use Rattle.wb_access.specs.declared.sessions.Session.{Session as KeptSession}
use Rattle.wb_tables.specs.Logins.{AreOf, AreFew}
use Rattle.wb_tables.proofs.SessionLists.{own_filter, few_filter}
use Rattle.wb_tables.proofs.sessions.Sessions.drop_late.Goals as goal

pub invariant_of-self : goal.invariant_of-self
invariant_of-self c =
    subst (λ ss. AreOf c.self.inside.tenant ss × AreFew ss) (sym c.drop_ended.ensures.items) (
      own_filter c.self.inside.tenant (λ (s : KeptSession). nat_lt c.args.time (s.at + 14_400)) c.self.inside.table.items c.self.invariant.0,
      few_filter (λ (s : KeptSession). nat_lt c.args.time (s.at + 14_400)) c.self.inside.table.items c.self.invariant.1,
    )
