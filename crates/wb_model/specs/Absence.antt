-- The tables, the past and the script in which a report's submission only drew a number.
use Rattle.std.specs.Prelude.{◌≡◌, ℕ, zero, suc, ◌+◌, ◌==◌, ◌&&◌, ◌||◌, not, max, Bool, true, false, if◌then◌else◌, List, [], ◌∷◌, map, Option, Some, None}
use Rattle.wb_base.specs.AnswerList.{Answered}
use Rattle.wb_base.specs.declared.callers.Presented.{Presented}
use Rattle.wb_base.specs.declared.words.Words.{Words}
use Rattle.wb_model.specs.declared.command.Command.TheVariants as commands
use Rattle.wb_model.specs.declared.event.Event.{Event}
use Rattle.wb_model.specs.declared.event.What.{What}
use Rattle.wb_model.specs.declared.event.What.TheVariants.{Did, Gap, Idle, Lost}
use Rattle.wb_model.specs.Tables.{Plain, has_receipt, is_there, others, sessions_but}
use Rattle.wb_model.specs.Changes.{Change, Begins}
use Rattle.wb_model.specs.Host.{Tables}
use Rattle.wb_model.specs.Commands.{tenant_of, is_submission}
use Rattle.wb_model.specs.Past.{Past, Opening, Turn, now, registry, last, about, alone_at, live, case_of, live_reports, held}
use Rattle.wb_model.specs.Opened.{Apart, Opened}
use Rattle.wb_base.specs.Secrets.{digest, receipt_text}
use Rattle.wb_model.specs.Pasts.{AllOpened, seen, part, standing_hosts, time, what_in}
use Rattle.wb_model.specs.Readings.{Reading, Asks, Refuses}
use Rattle.wb_model.specs.Scripts.{Place, Reply, frame_of, past_after, play, script_replies}
use Rattle.wb_model.specs.ScriptsAlike.{is_made}

-- ---- tables without a report

-- without r's trail and its reporter's sessions
abbrev pub shrunk : ℕ → Plain → Plain
shrunk r p = record p { cases = others r p.cases; sessions = sessions_but r p.sessions }

-- and without its identity answers
abbrev pub without : ℕ → Tables → Tables
without r t = record { plain = shrunk r t.plain; sealed = λ n. if n == r then None else t.sealed n }

-- ---- the past in which a report's submission only drew a number

abbrev pub is_beginning : Change → Bool
is_beginning (Begins entry) = true
is_beginning _ = false

-- the event is the submission that drew the number r
abbrev pub begins_as : ℕ → Past Opened → Event → Bool
begins_as r past e = is_beginning (alone_at past e) && (last past + 1 == r)

abbrev pub is_on : ℕ → Option ℕ → Bool
is_on r None = false
is_on r (Some n) = n == r

-- in the place of the submission of r stands a draw, and in that of what is on r or has a session of its reporter nothing
abbrev pub gap_what : ℕ → Bool → What → What
gap_what r opens (Did asked by) = if opens then Gap (tenant_of asked.command) else if is_on r (about (Did asked by)) then Idle else Did asked by
gap_what r opens (Gap t) = Gap t
gap_what r opens Idle = Idle
gap_what r opens Lost = Lost

-- one tenant's past
abbrev pub gapped : ℕ → Past Opened → Past Opened
gapped r (Opening o) = Opening o
gapped r (Turn e past) = Turn (record e { what = gap_what r (begins_as r past e) e.what }) (gapped r past)

-- another tenant's event stays
abbrev pub gap_of : ℕ → ℕ → Bool → What → What
gap_of t r opens (Did asked by) = if tenant_of asked.command == t then gap_what r opens (Did asked by) else Did asked by
gap_of t r opens (Gap u) = Gap u
gap_of t r opens Idle = Idle
gap_of t r opens Lost = Lost

-- the past of all tenants, for report r of tenant t
abbrev pub all_gapped : ℕ → ℕ → Past AllOpened → Past AllOpened
all_gapped t r (Opening o) = Opening o
all_gapped t r (Turn e past) = Turn (record e { what = gap_of t r (begins_as r (part t past) (record e { what = seen t e.what })) e.what }) (all_gapped t r past)

-- the last number of a tenant before the first turn
abbrev pub first_last : Past Opened → ℕ
first_last (Opening o) = o.tables.plain.numbering.last
first_last (Turn e past) = first_last past

-- ---- receipts

-- the live reports of the tenant have different receipts
abbrev pub AreApart : ℕ → Past AllOpened → Type 0
AreApart t past = Apart has_receipt (live_reports (part t past) (now (part t past)))

-- the drawn receipt is that of report r of tenant t
abbrev pub draws_receipt : ℕ → ℕ → Past AllOpened → Words → Bool
draws_receipt t r past words = has_receipt (digest (registry (part t past)).settings.salt (receipt_text words)) (case_of (part t past) r)

-- ---- scripts

-- a place of a script, or a turn that only draws a number of a tenant
pub data Item : Type 0 where
  Stands : Place → Item
  Skips : ℕ → Words → ℕ → Item

abbrev pub with_gap : Past AllOpened → ℕ → Words → ℕ → Past AllOpened
with_gap past moment words t = Turn (record { moment = moment; words = words; what = Gap t }) past

abbrev pub past_of : Past AllOpened → Item → Past AllOpened
past_of past (Stands p) = (play past p).past
past_of past (Skips moment words t) = with_gap past moment words t

-- a turn that only draws a number has no reply
abbrev pub item_reply : Past AllOpened → Item → Option Reply
item_reply past (Stands p) = Some (play past p).reply
item_reply past (Skips moment words t) = None

abbrev pub replies : Past AllOpened → List Item → List (Option Reply)
replies past [] = []
replies past (x ∷ xs) = item_reply past x ∷ replies (past_of past x) xs

abbrev pub past_with : Past AllOpened → List Item → Past AllOpened
past_with past [] = past
past_with past (x ∷ xs) = past_with (past_of past x) xs

-- the script with a draw of tenant t in place i
abbrev pub without_place : ℕ → ℕ → List Place → List Item
without_place i t [] = []
without_place zero t (p ∷ ps) = Skips p.moment p.words t ∷ map Stands ps
without_place (suc i) t (p ∷ ps) = Stands p ∷ without_place i t ps

-- a submission to tenant t is accepted here and draws the number r
abbrev pub begins_here : ℕ → ℕ → Past AllOpened → Place → Reading → Bool
begins_here t r past p (Asks asked) = is_made p.loss && begins_as r (part t past) (record { moment = p.moment; words = p.words; what = seen t (what_in past (frame_of p asked)) })
begins_here t r past p (Refuses fault close) = false

-- place i is such a submission
abbrev pub BeginsAt : ℕ → ℕ → ℕ → Past AllOpened → List Place → Type 0
BeginsAt i t r past [] = ⊥
BeginsAt zero t r past (p ∷ ps) = begins_here t r past p p.reading ≡ true
BeginsAt (suc i) t r past (p ∷ ps) = BeginsAt i t r (play past p).past ps

-- report r of tenant t is live at a place
abbrev pub lives_here : ℕ → ℕ → Past AllOpened → Place → Bool
lives_here t r past p = live (part t past) r (max (time past) p.moment)

-- a submission to the tenant draws another receipt than the report's, while that is live
abbrev pub DrawsAnother : ℕ → ℕ → Past AllOpened → Place → Reading → Type 0
DrawsAnother t r past p (Asks asked) = is_submission asked.command ≡ true → tenant_of asked.command ≡ t → lives_here t r past p ≡ true → draws_receipt t r past p.words ≡ false
DrawsAnother t r past p (Refuses fault close) = Unit {0}

abbrev pub AllDrawAnother : ℕ → ℕ → Past AllOpened → List Place → Type 0
AllDrawAnother t r past [] = Unit {0}
AllDrawAnother t r past (p ∷ ps) = DrawsAnother t r past p p.reading × AllDrawAnother t r (play past p).past ps

-- no submission to the tenant after place i draws the receipt of the report that is submitted there, while that is live
abbrev pub DrawOthersAfter : ℕ → ℕ → ℕ → Past AllOpened → List Place → Type 0
DrawOthersAfter i t r past [] = Unit {0}
DrawOthersAfter zero t r past (p ∷ ps) = AllDrawAnother t r (play past p).past ps
DrawOthersAfter (suc i) t r past (p ∷ ps) = DrawOthersAfter i t r (play past p).past ps

-- the replies, but at the places where the report is live
abbrev pub later_replies : ℕ → ℕ → Past AllOpened → List Place → List (Option Reply) → List (Option Reply)
later_replies t r past [] xs = []
later_replies t r past (p ∷ ps) [] = []
later_replies t r past (p ∷ ps) (x ∷ xs) = (if lives_here t r past p then None else x) ∷ later_replies t r (play past p).past ps xs

-- the replies, but at place i and at the later places where the report is live
abbrev pub replies_without : ℕ → ℕ → ℕ → Past AllOpened → List Place → List (Option Reply) → List (Option Reply)
replies_without i t r past [] xs = []
replies_without i t r past (p ∷ ps) [] = []
replies_without zero t r past (p ∷ ps) (x ∷ xs) = None ∷ later_replies t r (play past p).past ps xs
replies_without (suc i) t r past (p ∷ ps) (x ∷ xs) = x ∷ replies_without i t r (play past p).past ps xs

-- ---- purged

-- a turn is made here at which the report is not live
abbrev pub purges_here : ℕ → ℕ → Past AllOpened → Place → Reading → Bool
purges_here t r past p (Asks asked) = is_made p.loss && not (lives_here t r past p)
purges_here t r past p (Refuses fault close) = false

-- the report is purged at one of these places
abbrev pub is_purged : ℕ → ℕ → Past AllOpened → List Place → Bool
is_purged t r past [] = false
is_purged t r past (p ∷ ps) = purges_here t r past p p.reading || is_purged t r (play past p).past ps

-- the replies from the place on at which the report is purged
abbrev pub replies_purged : ℕ → ℕ → Past AllOpened → List Place → List (Option Reply) → List (Option Reply)
replies_purged t r past [] xs = []
replies_purged t r past (p ∷ ps) [] = []
replies_purged t r past (p ∷ ps) (x ∷ xs) = if purges_here t r past p p.reading then x ∷ xs else replies_purged t r (play past p).past ps xs

-- the report that is submitted at place i is purged later
abbrev pub is_purged_after : ℕ → ℕ → ℕ → Past AllOpened → List Place → Bool
is_purged_after i t r past [] = false
is_purged_after zero t r past (p ∷ ps) = is_purged t r (play past p).past ps
is_purged_after (suc i) t r past (p ∷ ps) = is_purged_after i t r (play past p).past ps

-- the hosts hold report r of tenant t
abbrev pub holds : ℕ → ℕ → Past AllOpened → Bool
holds t r past = is_there r (held (part t past)).plain.cases

-- report r of tenant t is not live at the past's time
abbrev pub IsNotLive : ℕ → ℕ → Past AllOpened → Type 0
IsNotLive t r past = live (part t past) r (time past) ≡ false

-- the hosts hold it only while it is live
abbrev pub HoldsLive : ℕ → ℕ → Past AllOpened → Type 0
HoldsLive t r past = IsNotLive t r past → holds t r past ≡ false

-- no place of a script is lost
abbrev pub NoneIsLost : List Place → Type 0
NoneIsLost [] = Unit {0}
NoneIsLost (p ∷ ps) = (is_made p.loss ≡ true) × NoneIsLost ps

-- the replies from the place on at which it is purged
abbrev pub replies_after : ℕ → ℕ → ℕ → Past AllOpened → List Place → List (Option Reply) → List (Option Reply)
replies_after i t r past [] xs = []
replies_after i t r past (p ∷ ps) [] = []
replies_after zero t r past (p ∷ ps) (x ∷ xs) = replies_purged t r (play past p).past ps xs
replies_after (suc i) t r past (p ∷ ps) (x ∷ xs) = replies_after i t r (play past p).past ps xs

-- ---- the script in which the submission at place i only drew a number

-- the past after it
abbrev pub past_without : ℕ → ℕ → Past AllOpened → List Place → Past AllOpened
past_without i t past places = past_with past (without_place i t places)

-- the replies are its replies, but at the places where the report is live
abbrev pub AnswersWithout : ℕ → ℕ → ℕ → Past AllOpened → List Place → Type 0
AnswersWithout i t r past places = replies_without i t r past places (map Some (script_replies past places)) ≡ replies_without i t r past places (replies past (without_place i t places))

-- from the place on at which the report is purged, all replies are
abbrev pub AnswersAfterWithout : ℕ → ℕ → ℕ → Past AllOpened → List Place → Type 0
AnswersAfterWithout i t r past places = replies_after i t r past places (map Some (script_replies past places)) ≡ replies_after i t r past places (replies past (without_place i t places))

-- the hosts at the end are its hosts
abbrev pub EndsWithout : ℕ → ℕ → Past AllOpened → List Place → Type 0
EndsWithout i t past places = standing_hosts (past_without i t past places) ≡ standing_hosts (past_after past places)

-- a place asks for a submission to tenant t
abbrev pub SubmitsTo : ℕ → Place → Type 0
SubmitsTo t p = (session : Presented) × (close : Bool) × (c : ℕ) × (given : Answered) × (p.reading ≡ Asks (record { session = session; command = commands.Submit t c given; close = close }))
