use Rattle.std.proofs.Common.{List, not, filter, map, ap, ◌∙◌}
use Rattle.std.proofs.lemmas.Result.{IfOk-weaker}
use Rattle.serde_json.specs.Data.{Data}
use Rattle.wb_model.specs.Json.{list_of}
use Rattle.wb_model.specs.Trails.{Remark}
use Rattle.wb_model.specs.Views.{own_remark_data}
use Rattle.wb_views.specs.Seen.{remark_seen}
use Rattle.wb_views.proofs.reporter.own_dialogue_value.Goals as goal

abbrev shown : List Remark → Data
shown rs = list_of own_remark_data (filter (λ (r : Remark). not r.internal) rs)

pub returns : goal.returns
returns c = IfOk-weaker c.own_remarks_value.result _ _ (λ v e. e ∙ ap (λ rs. shown (map remark_seen rs)) c.as_slice.ensures.value ∙ ap shown c.in_ok-remarks.ensures) c.own_remarks_value.ensures
