use Rattle.std.proofs.Common.{◌≡◌, drop}
use Rattle.std.specs.Prelude.{◌==◌}
use Rattle.std.specs.List.{list_any}
use Rattle.wb_commands.proofs.acts.reader_of.Given as goal

abbrev pub invariant-loop-reader : goal.invariant-loop-reader
invariant-loop-reader l = list_any (λ x. x == l.u) (drop l.reader-index l.readers) ≡ list_any (λ x. x == l.u) l.readers
