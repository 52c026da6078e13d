use Rattle.std.proofs.Common.{◌≡◌, drop}
use Rattle.std.specs.List.{list_all}
use Rattle.wb_model.specs.Fits.{is_lower_hex}
use Rattle.wb_setup.proofs.toml_values.all_lower_hex.Given as goal

abbrev pub invariant-loop-byte : goal.invariant-loop-byte
invariant-loop-byte l = list_all is_lower_hex (drop l.byte-index l.bytes) ≡ list_all is_lower_hex l.bytes
