use Rattle.std.proofs.Common.{ap, ◌∙◌}
use Rattle.std.specs.Option.{unwrap_or}
use Rattle.wb_list.specs.Room.{Room}
use Rattle.wb_access.specs.SessionCounts.{Counted, key_of, count_in}
use Rattle.wb_access.proofs.session_counts.SessionCounts.reserve.Goals as goal

pub returns-clause-counts : goal.returns-clause-counts
returns-clause-counts c q = ap (λ o. unwrap_or o 0) (c.reserve.ensures.entries.2 (key_of q)) ∙ ap (λ (r : Room Counted). count_in q r.items) c.self.view_is
