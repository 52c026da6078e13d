use Rattle.std.proofs.Common.{refl, ◌∙◌, subst, arith}
use Rattle.std.proofs.lemmas.List.{drop_all}
use Rattle.std.specs.Io.KnownBytes.{Appends}
use Rattle.wb_base.specs.Outside.{AppendsFront}
use Rattle.whistle.proofs.TallyLemmas.{no_rows, row_at, parted, in_row, after_row, all_rows}
use Rattle.whistle.proofs.tally_lines.write_statuses.Goals as goal

pub loop-row-init : goal.loop-row-init
loop-row-init g c = record { so_far = no_rows (g.W.Sink.end c.args.sink.now).held c.args.rows.now; stayed = refl }

pub returns-in-Err-clause-err : goal.returns-in-Err-clause-err
returns-in-Err-clause-err g c =
    in_row (g.W.Sink.end c.args.sink.now).held (g.W.Sink.end c.loop-row.sink).held (g.W.Sink.end c.write_all.new.self).held c.args.rows.now c.loop-row.row-index (row_at c.args.rows.now c.loop-row.row-index) (parted c.args.rows.now c.loop-row.row-index (omega (arith, c.loop-row-test.true))) c.loop-row.invariant.so_far
    (subst (AppendsFront (g.W.Sink.end c.loop-row.sink).held (g.W.Sink.end c.write_all.new.self).held) (c.as_bytes.ensures ∙ c.status_line.ensures) c.in-Err.ensures.err)

pub loop-row-preserved : goal.loop-row-preserved
loop-row-preserved g c = record {
  so_far = after_row (g.W.Sink.end c.args.sink.now).held (g.W.Sink.end c.loop-row.sink).held (g.W.Sink.end c.write_all.new.self).held c.args.rows.now c.loop-row.row-index (row_at c.args.rows.now c.loop-row.row-index) (parted c.args.rows.now c.loop-row.row-index (omega (arith, c.loop-row-test.true))) c.loop-row.invariant.so_far
      (subst (Appends (g.W.Sink.end c.loop-row.sink).held (g.W.Sink.end c.write_all.new.self).held) (c.as_bytes.ensures ∙ c.status_line.ensures) c.in-Ok.ensures.ok);
  stayed = c.in-Ok.ensures.cause.stayed ∙ c.loop-row.invariant.stayed;
}

pub returns-clause-ok : goal.returns-clause-ok
returns-clause-ok g c = all_rows (g.W.Sink.end c.args.sink.now).held (g.W.Sink.end c.loop-row.sink).held c.args.rows.now c.loop-row.row-index (drop_all c.loop-row.row-index c.args.rows.now (omega arith)) c.loop-row.invariant.so_far
