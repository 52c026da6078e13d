use Rattle.std.proofs.Common.{◌≤◌, List, length, map, sym, ap, ◌∙◌, arith}
use Rattle.std.proofs.lemmas.List.{map-append, take_all}
use Rattle.serde_json.specs.Data.{Data, array}
use Rattle.serde_json.specs.View.{items_of}
use Rattle.serde_json.proofs.Views.{view-Array}
use Rattle.wb_base.specs.FormFields.{parts_of}
use Rattle.wb_base.specs.FormJson.{part_data}
use Rattle.wb_base.specs.FormParts.{part_at}
use Rattle.wb_form.proofs.Walks.{grown}
use Rattle.wb_form.proofs.show.parts_value.Goals as goal

pub loop-at-preserved : goal.loop-at-preserved
loop-at-preserved c =
    rw (c.in_ok-push.ensures.items, map-append, c.in_ok-part_value.ensures, c.loop-at.invariant) (sym (grown part_data (parts_of c.args.show.now) c.loop-at.at (part_at c.part.result) c.part.ensures))

pub returns : goal.returns
returns c =
    let parts = parts_of c.args.show.now in
    let past : length parts ≤ c.loop-at.at = omega arith in
    view-Array c.loop-at.values ∙ ap (λ (ds : List Data). array (items_of ds)) (c.loop-at.invariant ∙ ap (map part_data) (take_all c.loop-at.at parts past))
