use Rattle.std.proofs.Common.{ap, ◌∙◌}
use Rattle.std.proofs.lemmas.Result.{IfOk-weaker}
use Rattle.wb_model.specs.Json.{list_of}
use Rattle.wb_model.specs.Views.{remark_data}
use Rattle.wb_views.specs.Seen.{remark_seen}
use Rattle.wb_views.proofs.ListMaps.{list_of-map}
use Rattle.wb_views.proofs.recipient.dialogue_value.Goals as goal

pub returns : goal.returns
returns c = IfOk-weaker c.list_value.result _ _ (λ v e. e ∙ ap (list_of (λ r. remark_data (remark_seen r))) c.as_slice.ensures.value ∙ list_of-map remark_data remark_seen _ ∙ ap (list_of remark_data) c.in_ok-remarks.ensures) c.list_value.ensures
