use Rattle.std.proofs.Common.{[], refl, ◌∙◌}
use Rattle.wb_export.proofs.LineLemmas.{one_more, where_ok}
use Rattle.wb_export.proofs.lines.begin.Goals as goal

pub returns : goal.returns
returns c =
    let from = c.from_writer-lines.ensures in
    let e = c.write_fields.ensures in
    let ok = c.if-is_err.ensures.value in
    one_more _ c.from_writer-lines.result _ [] _
    (record { text = rw (from.wtr, from.empty, c.new-2.ensures.items) refl; setup = from.cfg ∙ c.new.ensures; fields = from.fields; wrote = from.wrote })
    (where_ok _ ok e.bytes) (where_ok _ ok e.setup) (where_ok _ ok e.ended) (where_ok _ ok e.clean)
