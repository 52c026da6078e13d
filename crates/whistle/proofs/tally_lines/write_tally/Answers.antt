use Rattle.std.proofs.Common.{List, ℕ, ◌++◌, ◌∙◌, subst}
use Rattle.std.specs.List.{flat_map}
use Rattle.std.specs.Io.KnownBytes.{Appends}
use Rattle.std.proofs.KnownBytes.{Appends-trans}
use Rattle.wb_base.specs.Outside.{AppendsFront}
use Rattle.whistle.specs.TallyText.{turns_line, status_line, held_lines, counted}
use Rattle.wb_cli.proofs.SinkLemmas.{front_more, front_after}
use Rattle.whistle.proofs.tally_lines.write_tally.Goals as goal

pub returns-in-Err-clause-err : goal.returns-in-Err-clause-err
returns-in-Err-clause-err g c =
    let first : List ℕ = turns_line c.args.turns in
    let rows : List ℕ = flat_map status_line c.args.rows.now in
    let front : AppendsFront (g.W.Sink.end c.args.sink.now).held (g.W.Sink.end c.write_all.new.self).held first = subst (AppendsFront (g.W.Sink.end c.args.sink.now).held (g.W.Sink.end c.write_all.new.self).held) (c.as_bytes.ensures ∙ c.turns_line.ensures) c.in-Err.ensures.err in
    front_more (g.W.Sink.end c.args.sink.now).held (g.W.Sink.end c.write_all.new.self).held (first ++ rows) (held_lines (counted c.args.counts.now)) (front_more (g.W.Sink.end c.args.sink.now).held (g.W.Sink.end c.write_all.new.self).held first rows front)

pub returns-in-Err-write_statuses-clause-err : goal.returns-in-Err-write_statuses-clause-err
returns-in-Err-write_statuses-clause-err g c =
    let first : List ℕ = turns_line c.args.turns in
    let rows : List ℕ = flat_map status_line c.args.rows.now in
    let whole : Appends (g.W.Sink.end c.args.sink.now).held (g.W.Sink.end c.write_all.new.self).held first = subst (Appends (g.W.Sink.end c.args.sink.now).held (g.W.Sink.end c.write_all.new.self).held) (c.as_bytes.ensures ∙ c.turns_line.ensures) c.in-Ok.ensures.ok in
    front_more (g.W.Sink.end c.args.sink.now).held (g.W.Sink.end c.write_statuses.new.sink).held (first ++ rows) (held_lines (counted c.args.counts.now))
    (front_after (g.W.Sink.end c.args.sink.now).held (g.W.Sink.end c.write_all.new.self).held (g.W.Sink.end c.write_statuses.new.sink).held first rows whole c.in-Err-write_statuses.ensures.err)

pub returns-in-Err-write_all-clause-err : goal.returns-in-Err-write_all-clause-err
returns-in-Err-write_all-clause-err g c =
    let first : List ℕ = turns_line c.args.turns in
    let rows : List ℕ = flat_map status_line c.args.rows.now in
    let whole : Appends (g.W.Sink.end c.args.sink.now).held (g.W.Sink.end c.write_all.new.self).held first = subst (Appends (g.W.Sink.end c.args.sink.now).held (g.W.Sink.end c.write_all.new.self).held) (c.as_bytes.ensures ∙ c.turns_line.ensures) c.in-Ok.ensures.ok in
    front_after (g.W.Sink.end c.args.sink.now).held (g.W.Sink.end c.write_statuses.new.sink).held (g.W.Sink.end c.write_all-2.new.self).held (first ++ rows) (held_lines (counted c.args.counts.now))
    (Appends-trans (g.W.Sink.end c.args.sink.now).held (g.W.Sink.end c.write_all.new.self).held (g.W.Sink.end c.write_statuses.new.sink).held first rows whole c.in-Ok-write_statuses.ensures.ok)
    (subst (AppendsFront (g.W.Sink.end c.write_statuses.new.sink).held (g.W.Sink.end c.write_all-2.new.self).held) (c.as_bytes-2.ensures ∙ c.held_lines.ensures) c.in-Err-write_all.ensures.err)
