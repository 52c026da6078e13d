use Rattle.std.proofs.Common.{arith, sym, ◌∙◌, map, take}
use Rattle.httparse.specs.Spans.{header_bytes}
use Rattle.wb_model.specs.Heads.{values}
use Rattle.wb_wire.proofs.FieldLemmas.{found_one, several}
use Rattle.wb_wire.proofs.fields.values_of.Goals as goal

pub returns-then-is_some : goal.returns-then-is_some
returns-then-is_some c =
    let bytes = header_bytes c.args.bytes.now in
    let one = found_one c.loop-field.found (values c.args.name.now (map bytes (take c.loop-field.field-index c.args.fields.now))) c.loop-field.invariant (sym c.is_some.ensures ∙ c.if-is_some.true) in
    several c.args.name.now one.0 bytes c.args.fields.now c.loop-field.field-index _ (omega arith) one.1 (sym c.has_name.ensures ∙ c.if-has_name.true)
