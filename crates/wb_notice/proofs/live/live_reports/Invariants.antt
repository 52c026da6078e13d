use Rattle.std.proofs.Common.{◌≡◌, ℕ, drop}
use Rattle.std.specs.List.{list_any}
use Rattle.std.specs.Prelude.{◌||◌}
use Rattle.wb_notice.specs.LiveReports.{has_report}
use Rattle.wb_notice.proofs.LiveOnes.{is_here}
use Rattle.wb_notice.proofs.live.live_reports.Given as goal

abbrev pub invariant-loop-item : goal.invariant-loop-item
invariant-loop-item l = (t n : ℕ) → (has_report l.reports.items t n || list_any (is_here l.tables.registry.lists l.now t n) (drop l.item-index l.tables.cases)) ≡ list_any (is_here l.tables.registry.lists l.now t n) l.tables.cases
