use Rattle.std.proofs.Common.{ap, ◌∙◌, ◌+◌, cond}
use Rattle.wb_access.specs.SessionCounts.{count_in}
use Rattle.wb_access.specs.Sessions.{same_principal}
use Rattle.wb_access.proofs.CountTables.{one_more}
use Rattle.wb_access.proofs.session_counts.SessionCounts.add.Goals as goal

pub returns-clause-counts : goal.returns-clause-counts
returns-clause-counts c q =
    c.set.ensures.counts q
    ∙ (ap (λ n. cond (same_principal c.args.principal.now q) (n + 1) (count_in q c.args.self.now.items)) c.of-count.ensures
    ∙ one_more c.args.principal.now q c.args.self.now.items)
