-- What was read so far with what is left is all.
use Rattle.std.proofs.Common.{◌≡◌, drop}
use Rattle.serde_json.specs.View.{items_view}
use Rattle.wb_base.specs.FormShape.{all_of}
use Rattle.wb_form.proofs.Walks.{then_rest}
use Rattle.wb_json.proofs.read_lists.read_all.Given as goal

abbrev pub invariant-loop-value : goal.invariant-loop-value
invariant-loop-value g l =
    all_of g.T.Part.reading (items_view l.value-items) ≡ then_rest g.T.Part.reading l.found (items_view (drop l.value-index l.value-items))
