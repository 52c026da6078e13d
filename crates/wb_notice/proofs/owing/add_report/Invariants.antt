use Rattle.std.proofs.Common.{◌≡◌, ◌++◌, drop, map}
use Rattle.std.specs.List.{flat_map}
use Rattle.wb_rows.specs.Reports.{case_report}
use Rattle.wb_rows.specs.Openings.{case_of}
use Rattle.wb_notice.specs.Owed.{notices_to}
use Rattle.wb_notice.proofs.owing.add_report.Given as goal

abbrev pub invariant-loop-user : goal.invariant-loop-user
invariant-loop-user l =
    let told = notices_to l.item.tenant l.today l.kinds.items (case_of (case_report l.item)) in
    (l.notices.items ++ flat_map told (map (λ x. x) (drop l.user-index l.users))) ≡ (l.initial.notices.items ++ flat_map told l.users)
