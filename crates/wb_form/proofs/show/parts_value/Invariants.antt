use Rattle.std.proofs.Common.{◌≡◌, take, map}
use Rattle.serde_json.specs.View.{view}
use Rattle.wb_base.specs.FormFields.{parts_of}
use Rattle.wb_base.specs.FormJson.{part_data}
use Rattle.wb_form.proofs.show.parts_value.Given as goal

abbrev pub invariant-loop-at : goal.invariant-loop-at
invariant-loop-at l = map view l.values.items ≡ map part_data (take l.at (parts_of l.show))
