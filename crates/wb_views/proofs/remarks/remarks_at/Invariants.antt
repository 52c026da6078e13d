use Rattle.std.proofs.Common.{◌≡◌, ◌++◌, map, drop}
use Rattle.wb_model.specs.Trails as trails
use Rattle.wb_views.specs.Seen.{remark_seen}
use Rattle.wb_views.proofs.remarks.remarks_at.Given as goal

abbrev pub invariant-loop-place : goal.invariant-loop-place
invariant-loop-place l = map remark_seen l.found.items ++ trails.remarks_at l.trail (drop l.place-index l.places) ≡ trails.remarks_at l.trail l.places
