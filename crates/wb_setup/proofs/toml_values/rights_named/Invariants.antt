use Rattle.std.proofs.Common.{◌≡◌, drop}
use Rattle.toml.specs.View.{items_view}
use Rattle.wb_model.specs.Bodies.{no_rights}
use Rattle.wb_setup.specs.Given.{with_rights}
use Rattle.wb_setup.proofs.toml_values.rights_named.Given as goal

abbrev pub invariant-loop-value : goal.invariant-loop-value
invariant-loop-value l = with_rights l.may (items_view (drop l.value-index l.names)) ≡ with_rights no_rights (items_view l.names)
