-- Those that are counted, with those of the rest that are left, are those that are left of all, with the rest.
use Rattle.std.proofs.Common.{◌≡◌, ◌+◌, ◌≤◌, not, count_by, filter, drop}
use Rattle.wb_base.specs.declared.callers.Principal.{Principal}
use Rattle.wb_access.specs.SessionCounts.{count_in}
use Rattle.wb_access.specs.Sessions.{is_of}
use Rattle.wb_access.proofs.sessions.uncount_passing.Given as goal

abbrev pub invariant-loop-session : goal.invariant-loop-session
invariant-loop-session g l = record {
  counted : (q : Principal) → count_in q l.counts.items + count_by (is_of q) (filter (λ s. not (g.X.ItemTest.passes l.test s)) (drop l.session-index l.sessions)) ≡ count_by (is_of q) (filter (λ s. not (g.X.ItemTest.passes l.test s)) l.sessions) + count_by (is_of q) (drop l.session-index l.sessions);
  kept : l.initial.counts.spare ≤ l.counts.spare;
}
