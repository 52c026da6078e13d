-- A notice tells a user of a report, by its number alone; and the row of a notice.
use Rattle.std.specs.Prelude.{◌≡◌, ℕ, ◌+◌, ◌*◌, ◌&&◌, nat_le, Bool, true, List, [], ◌∷◌, codes}
use Rattle.serde_json.specs.Data.{Data, string}
use Rattle.wb_base.specs.declared.rows.Row.{Row}
use Rattle.wb_model.specs.Fits.{is_between}
use Rattle.wb_model.specs.Json.{object_of, whole, date}
use Rattle.wb_model.specs.Rows.{row}
use Rattle.wb_row_codec.specs.Good.{is_tenant, is_dated}
use Rattle.wb_notice.specs.declared.notice.Notice.{Notice}
use Rattle.wb_notice.specs.declared.notice.NoticeKind.{NoticeKind}
use Rattle.wb_notice.specs.declared.notice.NoticeKind.TheVariants.{New, AckOver, FeedbackOver, Expiring, Asked}

abbrev pub kind_code : NoticeKind → ℕ
kind_code New = 1
kind_code AckOver = 2
kind_code FeedbackOver = 3
kind_code Expiring = 4
kind_code Asked = 5

abbrev pub kind_name : NoticeKind → List ℕ
kind_name New = codes "new"
kind_name AckOver = codes "ack_over"
kind_name FeedbackOver = codes "feedback_over"
kind_name Expiring = codes "expiring"
kind_name Asked = codes "asked"

-- all kinds, in the order of their codes
abbrev pub kinds : List NoticeKind
kinds = New ∷ AckOver ∷ FeedbackOver ∷ Expiring ∷ Asked ∷ []

-- the day on which it was written, its kind, the report's number and the user
unfoldable pub notice_data : Notice → Data
notice_data n = object_of (
    (codes "day", date n.day) ∷
    (codes "kind", string (kind_name n.kind)) ∷
    (codes "number", whole n.number) ∷
    (codes "user", whole n.user) ∷ [])

-- its row: of kind 6, under the tenant, the report's number, and the user with the kind
abbrev pub notice_row : Notice → Row
notice_row n = row 6 n.tenant n.number (8 * n.user + kind_code n.kind) (notice_data n)

-- each of its parts is in its range
abbrev pub is_ranged : Notice → Bool
is_ranged n = is_tenant n.tenant && nat_le 1 n.number && is_between 1 256 n.user && is_dated n.day

-- a row is that of a notice
pub record IsNotice (row : Row) : Type 0 where
  pub notice : Notice
  pub ranged : is_ranged notice ≡ true
  pub own : row ≡ notice_row notice
