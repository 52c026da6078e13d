use Rattle.std.proofs.Common.{sym, subst}
use Rattle.wb_tables.specs.Logins.{AreOf, AreFew}
use Rattle.wb_tables.proofs.sessions.Sessions.reserve.Goals as goal

pub invariant_of-self : goal.invariant_of-self
invariant_of-self c = subst (λ ss. AreOf c.self.inside.tenant ss × AreFew ss) (sym c.reserve.ensures.items) c.self.invariant
