use Rattle.wb_export.proofs.LineLemmas.{one_more, where_ok}
use Rattle.wb_export.proofs.lines.put.Goals as goal

pub returns : goal.returns
returns c before fields h line =
    let e = c.write_byte_record.ensures in
    let ok = c.if-is_err.ensures.value in
    let bytes = where_ok _ ok e.bytes in
    one_more _ _ _ before fields h (rw line.all at bytes) (where_ok _ ok e.setup) (where_ok _ ok e.ended) (where_ok _ ok e.clean)
