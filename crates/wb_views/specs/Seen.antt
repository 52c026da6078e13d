-- What a remark of a trail stands for, and how a request of a desk is shown.
use Rattle.std.specs.Prelude.{ℕ, List}
use Rattle.serde_json.specs.Data.{Data}
use Rattle.wb_model.specs.declared.access.AccessRequest.{AccessRequest}
use Rattle.wb_model.specs.Access.{state_now}
use Rattle.wb_model.specs.declared.registry.UserItem.{UserItem}
use Rattle.wb_model.specs.declared.view.Custodied.{Custodied}
use Rattle.wb_model.specs.Tables.{disablings}
use Rattle.wb_model.specs.Trails.{Remark}
use Rattle.wb_model.specs.Views.{request_data}
use Rattle.wb_views.specs.declared.remarks.Remark.{Remark as BorrowedRemark}

abbrev pub remark_seen : BorrowedRemark → Remark
remark_seen r = record { at = r.at; from = r.from.now; kind = r.kind.now; text = r.text.now; internal = r.internal; user = r.user }

-- the row of a request of a number on a report, with the state that it has by now
abbrev pub custodied_at : List UserItem → ℕ → ℕ → AccessRequest → Custodied
custodied_at users number id r = record { number = number; id = id; by = r.by; reason = r.reason; state = state_now (disablings r.by users) r; effective = r.effective }

-- its object in the body of a report, which does not show the report's own number
abbrev pub request_shown : List UserItem → ℕ → AccessRequest → Data
request_shown users id r = request_data (custodied_at users 0 id r)
