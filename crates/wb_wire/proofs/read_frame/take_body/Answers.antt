use Rattle.std.proofs.Common.{[], ◌∷◌, ◌++◌, arith, length-append}
use Rattle.std.proofs.KnownBytes.{Consumes-trans}
use Rattle.wb_wire.proofs.TextLemmas.{other_end}
use Rattle.wb_wire.proofs.TakingLemmas.{wrong_end}
use Rattle.wb_wire.proofs.read_frame.take_body.Goals as goal

pub returns-else-end-eq10-clause-ok : goal.returns-else-end-eq10-clause-ok
returns-else-end-eq10-clause-ok g c =
    let bytes = c.in-Ok-Whole.bytes in
    let took = rw c.in-Ok-Whole.field-0-is at c.in-Ok-Whole.ensures.ok in
    let byte = rw c.in-Ok-Some.field-0-is at c.in-Ok-Some.ensures.ok in
    let all = Consumes-trans _ _ _ bytes (c.in-Ok-Some.end ∷ []) took.2 byte.1 in (
      bytes ++ c.in-Ok-Some.end ∷ [],
      omega (arith, took.0, took.1, byte.0, length-append bytes (c.in-Ok-Some.end ∷ [])),
      all,
      other_end c.args.size c.in-Ok-Some.end bytes [] took.0 c.if-end-eq10.false,
      wrong_end _ _ bytes c.args.size c.in-Ok-Some.end all took.0 c.if-end-eq10.false,
    )
