-- The rights so far with those of the names that are left are all.
use Rattle.std.proofs.Common.{◌≡◌, drop}
use Rattle.serde_json.specs.View.{items_view}
use Rattle.wb_model.specs.Bodies.{with_rights, no_rights}
use Rattle.wb_json.proofs.read_members.rights_named.Given as goal

abbrev pub invariant-loop-value : goal.invariant-loop-value
invariant-loop-value l = with_rights l.may (items_view (drop l.value-index l.names)) ≡ with_rights no_rights (items_view l.names)
