-- What tells live reports apart, and the reports of notices.
use Rattle.std.specs.Prelude.{ℕ, ◌==◌, ◌&&◌, Bool, false, List, find, is_some, Option, Some, None}
use Rattle.wb_custody.specs.SealedAnswers.{pair_cmp}
use Rattle.wb_list.specs.Keyed.{has_key}
use Rattle.wb_notice.specs.declared.live.LiveReport.{LiveReport}
use Rattle.wb_notice.specs.declared.notice.Notice.{Notice}

abbrev pub live_place : LiveReport → ℕ × ℕ
live_place r = (r.tenant, r.number)

-- the report of a tenant and a number is one of these
abbrev pub has_report : List LiveReport → ℕ → ℕ → Bool
has_report live t n = is_some (find (has_key pair_cmp live_place (t, n)) live)

-- .. and so is that of a notice
abbrev pub is_among : List LiveReport → Notice → Bool
is_among live n = has_report live n.tenant n.number

-- a notice is on the same report as the last, where there is a last
abbrev pub is_on_last : Option Notice → Notice → Bool
is_on_last None n = false
is_on_last (Some last) n = (last.tenant == n.tenant) && (last.number == n.number)
