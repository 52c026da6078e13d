use Rattle.std.proofs.Common.{◌≡◌, ◌≤◌, ◌-◌, vec_len}
use Rattle.std.specs.Io.KnownBytes.{Consumes}
use Rattle.wb_server.specs.Serves.{setup_limit}
use Rattle.wb_server.proofs.starting.read_text.Given as goal

abbrev pub invariant-loop-count : goal.invariant-loop-count
invariant-loop-count g l =
    Consumes (g.S.Source.end l.fn.setup).left (g.S.Source.end l.setup).left l.text.items
    × (vec_len l.text ≤ setup_limit)
    × ((g.S.Source.end l.setup).count ≡ (g.S.Source.end l.fn.setup).count)

abbrev pub decreases-loop-count : goal.decreases-loop-count
decreases-loop-count g l = setup_limit - vec_len l.text
