use Rattle.std.proofs.Common.{◌≡◌, ◌++◌, drop}
use Rattle.wb_rows.specs.Reports.{case_report}
use Rattle.wb_rows.specs.Openings.{case_of}
use Rattle.wb_notice.specs.Owed.{notices_to}
use Rattle.wb_notice.proofs.owing.add_user.Given as goal

abbrev pub invariant-loop-kind : goal.invariant-loop-kind
invariant-loop-kind l = l.notices.items ++ notices_to l.item.tenant l.today (drop l.kind-index l.arising) (case_of (case_report l.item)) l.user
    ≡ l.initial.notices.items ++ notices_to l.item.tenant l.today l.arising (case_of (case_report l.item)) l.user
