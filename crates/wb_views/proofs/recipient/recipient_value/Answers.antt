use Rattle.std.proofs.Common.{ap, ◌∙◌}
use Rattle.serde_json.specs.Data.{boolean, string, object}
use Rattle.serde_json.specs.View.{members_view}
use Rattle.serde_json.proofs.Views.{view-Object}
use Rattle.wb_model.specs.Json.{list_of, whole, date, or_null, answers_data}
use Rattle.wb_model.specs.Names.{status_name}
use Rattle.wb_model.specs.Openings.{registry_of}
use Rattle.wb_model.specs.ViewRows.{custodied}
use Rattle.wb_model.specs.Views.{request_data, recipient_view}
use Rattle.wb_model.specs.Trails as trails
use Rattle.wb_views.proofs.Members.{then_put}
use Rattle.wb_views.proofs.recipient.recipient_value.Goals as goal

-- each member, from the last that was put on, with what it shows
pub returns : goal.returns
unfolding recipient_view
returns c =
    let said = c.summary-summary.ensures in
    let here = c.as_slice-trail.ensures ∙ c.trail.ensures in
    view-Object c.put_date-4.new.map ∙ ap object
    (then_put _ _ _ _ _ _ c.in_ok-put_date-4.ensures (ap date said.ack_due)
    (then_put _ _ _ _ _ _ c.in_ok-put_date_or_null.ensures (ap (or_null date) said.acknowledged)
    (then_put _ _ _ _ _ _ c.in_ok-put_value-4.ensures (c.in_ok-answers.ensures ∙ ap answers_data (c.answers.ensures ∙ ap trails.answers here))
    (then_put _ _ _ _ _ _ c.in_ok-put_whole-4.ensures (ap whole said.context)
    (then_put _ _ _ _ _ _ c.in_ok-put_value-3.ensures c.in_ok-dialogue.ensures
    (then_put _ _ _ _ _ _ c.in_ok-put_date-3.ensures (ap date said.expires)
    (then_put _ _ _ _ _ _ c.in_ok-put_date-2.ensures (ap date said.feedback_due)
    (then_put _ _ _ _ _ _ c.in_ok-put_flag.ensures (ap boolean said.feedback_given)
    (then_put _ _ _ _ _ _ c.in_ok-put_whole-3.ensures (ap whole (c.form.ensures ∙ ap trails.form here))
    (then_put _ _ _ _ _ _ c.in_ok-put_text-3.ensures (ap string c.identity_word-identity.ensures)
    (then_put _ _ _ _ _ _ c.in_ok-put_text-2.ensures (ap string c.label.ensures)
    (then_put _ _ _ _ _ _ c.in_ok-put_whole-2.ensures (ap whole c.get.ensures.value)
    (then_put _ _ _ _ _ _ c.in_ok-put_value-2.ensures (c.in_ok-readers.ensures ∙ ap (list_of whole) (c.as_slice.ensures ∙ said.readers))
    (then_put _ _ _ _ _ _ c.in_ok-put_date.ensures (ap date said.received)
    (then_put _ _ _ _ _ _ c.in_ok-put_value.ensures (c.in_ok-requests.ensures ∙ ap (λ rs. list_of request_data (custodied (registry_of c.args.registry.now.lists c.args.tenant).users c.args.number rs)) c.requires)
    (then_put _ _ _ _ _ _ c.in_ok-put_text.ensures (ap string (c.status_name.ensures ∙ ap status_name said.status))
    (then_put _ _ _ _ _ _ c.in_ok-put_whole.ensures (ap whole (c.version.ensures ∙ ap trails.version here)) (ap members_view c.new-map.ensures.empty))))))))))))))))))
