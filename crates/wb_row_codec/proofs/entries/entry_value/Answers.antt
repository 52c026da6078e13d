use Rattle.std.proofs.Common.{ap, sym, ◌∙◌}
use Rattle.serde_json.specs.Data.{string, object}
use Rattle.serde_json.specs.View.{members_view}
use Rattle.serde_json.proofs.Views.{view-Object}
use Rattle.wb_model.specs.DeedFields.{deed_members}
use Rattle.wb_model.specs.Json.{whole}
use Rattle.wb_model.specs.Rows.{entry_data}
use Rattle.wb_row_codec.proofs.Puts.{then_put, then_puts, alone}
use Rattle.wb_row_codec.proofs.entries.entry_value.Goals as goal

-- the members, from the last that was put
pub returns : goal.returns
unfolding entry_data
returns c =
    let w = deed_members c.args.entry.now.deed in
    view-Object c.put_whole-2.new.map ∙ ap object
    (then_put _ _ _ _ _ _ c.in_ok-put_whole-2.ensures (ap whole c.seconds.ensures.value)
    (then_put _ _ _ _ _ _ c.in_ok-put_whole.ensures (ap whole c.number_by.ensures)
    (then_put _ _ _ _ _ _ c.in_ok-put_text.ensures (ap string c.deed_name.ensures)
    (then_puts w _ _ _ c.in_ok-put_deed.ensures (ap members_view c.new-map.ensures.empty) ∙ sym (alone w)))))
