use Rattle.std.proofs.Common.{◌≡◌, take, map}
use Rattle.httparse.specs.Spans.{header_bytes}
use Rattle.wb_model.specs.Heads.{values}
use Rattle.wb_wire.proofs.FieldLemmas.{found_values}
use Rattle.wb_wire.proofs.fields.values_of.Given as goal

abbrev pub invariant-loop-field : goal.invariant-loop-field
invariant-loop-field l = values l.name (map (header_bytes l.bytes) (take l.field-index l.fields)) ≡ found_values l.found
