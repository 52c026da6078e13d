-- No field before says so.
use Rattle.std.proofs.Common.{◌≡◌, codes, drop, map}
use Rattle.std.specs.List.{list_any}
use Rattle.httparse.specs.Spans.{header_bytes}
use Rattle.wb_model.specs.Heads.{values, says_close}
use Rattle.wb_wire.proofs.closing.closes.Given as goal

abbrev pub invariant-loop-field : goal.invariant-loop-field
invariant-loop-field l = list_any says_close (values (codes "connection") (map (header_bytes l.bytes) (drop l.field-index l.fields))) ≡ list_any says_close (values (codes "connection") (map (header_bytes l.bytes) l.fields))
