use Rattle.std.proofs.Common.{ap, ◌∙◌, refl}
use Rattle.serde_json.specs.Data.{string, object}
use Rattle.serde_json.specs.View.{members_view}
use Rattle.serde_json.proofs.Views.{view-Object}
use Rattle.wb_model.specs.Json.{whole, date, or_null, answers_data}
use Rattle.wb_model.specs.Names.{status_name}
use Rattle.wb_model.specs.Views.{reporter_view}
use Rattle.wb_model.specs.Trails as trails
use Rattle.wb_views.proofs.Members.{then_put}
use Rattle.wb_views.proofs.reporter.reporter_value.Goals as goal

-- each member, from the last that was put on, with what it shows
pub returns : goal.returns
unfolding reporter_view
returns c =
    let said = c.summary-summary.ensures in
    let here = c.as_slice-trail.ensures ∙ c.trail.ensures in
    view-Object c.put_date_or_null.new.map ∙ ap object
    (then_put _ _ _ _ _ _ c.in_ok-put_date_or_null.ensures (ap (or_null date) said.acknowledged)
    (then_put _ _ _ _ _ _ c.in_ok-put_value-2.ensures (c.in_ok-answers.ensures ∙ ap answers_data (c.answers.ensures ∙ ap trails.answers here))
    (then_put _ _ _ _ _ _ c.in_ok-put_value.ensures c.in_ok-dialogue.ensures
    (then_put _ _ _ _ _ _ c.in_ok-put_date-3.ensures (ap date said.expires)
    (then_put _ _ _ _ _ _ c.in_ok-put_date-2.ensures (ap date said.feedback_due)
    (then_put _ _ _ _ _ _ c.in_ok-put_whole-3.ensures (ap whole (c.form.ensures ∙ ap trails.form here))
    (then_put _ _ _ _ _ _ c.in_ok-put_identity.ensures refl
    (then_put _ _ _ _ _ _ c.in_ok-put_whole-2.ensures (ap whole c.get.ensures.value)
    (then_put _ _ _ _ _ _ c.in_ok-put_date.ensures (ap date said.received)
    (then_put _ _ _ _ _ _ c.in_ok-put_text.ensures (ap string (c.status_name.ensures ∙ ap status_name said.status))
    (then_put _ _ _ _ _ _ c.in_ok-put_whole.ensures (ap whole (c.version.ensures ∙ ap trails.version here)) (ap members_view c.new-map.ensures.empty))))))))))))
