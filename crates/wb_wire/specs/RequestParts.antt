-- The reading of a request by its parts.
use Rattle.std.specs.Prelude.{◌≡◌, ◌≢◌, map, Result, Ok, Err}
use Rattle.httparse.specs.Spans.{header_bytes}
use Rattle.serde_json.specs.Data.{Data}
use Rattle.serde_json.specs.View.{view}
use Rattle.serde_json.specs.declared.value.Value.{Value}
use Rattle.wb_model.specs.declared.command.Command.{Command}
use Rattle.wb_model.specs.declared.wire.WireFault.{WireFault}
use Rattle.wb_model.specs.declared.wire.WireFault.TheVariants.{Memory}
use Rattle.wb_model.specs.Heads.{Fields, path_of}
use Rattle.wb_model.specs.Readings.{asks}
use Rattle.wb_wire.specs.declared.requests.Parts.{Parts}

abbrev pub fields_in : Parts → Fields
fields_in p = map (header_bytes p.bytes.now) p.fields.now

abbrev pub asks_of : Parts → Result Command WireFault
asks_of p = asks p.method.now (path_of p.target.now) (fields_in p) p.rest.now

-- what is wanted, or its fault, or want of memory
abbrev pub GivesOrWants : Result Command WireFault → Result Command WireFault → Type 0
GivesOrWants wanted (Ok command) = wanted ≡ Ok command
GivesOrWants wanted (Err fault) = fault ≢ Memory → wanted ≡ Err fault

abbrev pub GivesBody : Result Data WireFault → Result Value WireFault → Type 0
GivesBody wanted (Ok value) = wanted ≡ Ok (view value)
GivesBody wanted (Err fault) = fault ≢ Memory → wanted ≡ Err fault
