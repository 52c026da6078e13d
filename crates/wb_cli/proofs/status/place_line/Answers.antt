use Rattle.std.proofs.Common.{List, ℕ, ◌++◌, decimal}
use Rattle.std.specs.Prelude.{codes}
use Rattle.std.proofs.KnownBytes.{Appends-trans}
use Rattle.wb_cli.proofs.SinkLemmas.{front_more, front_after, front_if_err}
use Rattle.wb_cli.proofs.status.place_line.Goals as goal

pub returns-in-Err-clause-err : goal.returns-in-Err-clause-err
returns-in-Err-clause-err g c =
    let kind : List ℕ = (codes " at " ++ decimal c.args.key.kind) ++ (codes "/" ++ decimal c.args.key.tenant) in
    let report : List ℕ = codes "/" ++ decimal c.args.key.a in
    front_more (g.W.Sink.end c.args.sink.now).held (g.W.Sink.end c.write_two.new.sink).held (kind ++ report) (codes "/" ++ decimal c.args.key.b ++ codes "\n")
    (front_more (g.W.Sink.end c.args.sink.now).held (g.W.Sink.end c.write_two.new.sink).held kind report c.in-Err.ensures.err)

pub returns-in-Err-write_part-clause-err : goal.returns-in-Err-write_part-clause-err
returns-in-Err-write_part-clause-err g c =
    let kind : List ℕ = (codes " at " ++ decimal c.args.key.kind) ++ (codes "/" ++ decimal c.args.key.tenant) in
    let report : List ℕ = codes "/" ++ decimal c.args.key.a in
    front_more (g.W.Sink.end c.args.sink.now).held (g.W.Sink.end c.write_part.new.sink).held (kind ++ report) (codes "/" ++ decimal c.args.key.b ++ codes "\n")
    (front_after (g.W.Sink.end c.args.sink.now).held (g.W.Sink.end c.write_two.new.sink).held (g.W.Sink.end c.write_part.new.sink).held kind report c.in-Ok.ensures.ok c.in-Err-write_part.ensures.err)

pub returns-clause-err : goal.returns-clause-err
returns-clause-err g c =
    let kind : List ℕ = (codes " at " ++ decimal c.args.key.kind) ++ (codes "/" ++ decimal c.args.key.tenant) in
    let report : List ℕ = codes "/" ++ decimal c.args.key.a in
    front_if_err c.write_numbered.result (g.W.Sink.end c.args.sink.now).held (g.W.Sink.end c.write_part.new.sink).held (g.W.Sink.end c.write_numbered.new.sink).held (kind ++ report) (codes "/" ++ decimal c.args.key.b ++ codes "\n")
    (Appends-trans (g.W.Sink.end c.args.sink.now).held (g.W.Sink.end c.write_two.new.sink).held (g.W.Sink.end c.write_part.new.sink).held kind report c.in-Ok.ensures.ok c.in-Ok-write_part.ensures.ok) c.write_numbered.ensures.err
