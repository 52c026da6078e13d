use Rattle.std.proofs.Common.{map, ap, ◌∙◌}
use Rattle.wb_tables.specs.Kept.{case_of}
use Rattle.wb_tables.specs.Logins.{session_of}
use Rattle.wb_tables.proofs.LateSessions.{late_are_ended}
use Rattle.wb_tables.proofs.sessions.Sessions.drop_ended.Goals as goal

pub returns-clause-items : goal.returns-clause-items
returns-clause-items c =
    ap (map session_of) c.drop_late.ensures.items ∙ late_are_ended c.args.time (map case_of c.args.cases.now.items) c.args.self.now.items (c.requires.there c.if-has_gone.false)
