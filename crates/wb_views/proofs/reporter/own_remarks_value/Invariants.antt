use Rattle.std.proofs.Common.{◌≡◌, ◌++◌, List, not, map, drop, filter}
use Rattle.serde_json.specs.View.{view}
use Rattle.wb_model.specs.Trails.{Remark}
use Rattle.wb_model.specs.Views.{own_remark_data}
use Rattle.wb_views.specs.Seen.{remark_seen}
use Rattle.wb_views.proofs.reporter.own_remarks_value.Given as goal

abbrev pub invariant-loop-remark : goal.invariant-loop-remark
invariant-loop-remark l = let shown = λ (rs : List Remark). map own_remark_data (filter (λ (r : Remark). not r.internal) rs) in map view l.values.items ++ shown (map remark_seen (drop l.remark-index l.remarks)) ≡ shown (map remark_seen l.remarks)
