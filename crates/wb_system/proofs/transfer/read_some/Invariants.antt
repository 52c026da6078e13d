use Rattle.std.specs.Io.KnownBytes.{Keeps}
use Rattle.wb_system.proofs.transfer.read_some.Given as goal

-- nothing was taken so far
abbrev pub invariant-loop : goal.invariant-loop
invariant-loop g l = Keeps (g.R.Read.remaining l.initial.from) (g.R.Read.remaining l.from)
