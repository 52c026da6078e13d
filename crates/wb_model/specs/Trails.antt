-- What the trail of a report says: each fact is the last of its kind, or all of its kind.
use Rattle.std.specs.Prelude.{ℕ, ◌+◌, ◌==◌, is_some, option_and_then, slice_get, nat_lt, not, Bool, true, false, if◌then◌else◌, List, [], ◌∷◌, length, filter, fold, Option, Some, None, option_map, unwrap_or, ℤ, pos, codes}
use Rattle.std.specs.List.{list_any, filter_map}
use Rattle.wb_base.specs.AnswerList.{Answered}
use Rattle.wb_model.specs.declared.entry.Actor.{Actor}
use Rattle.wb_model.specs.declared.entry.Actor.TheVariants.{Reporter, User}
use Rattle.wb_model.specs.declared.entry.Status.{Status}
use Rattle.wb_model.specs.declared.entry.Status.TheVariants.{New, Opened, Closed}
use Rattle.wb_model.specs.declared.entry.Entry.{Entry}
use Rattle.wb_model.specs.declared.entry.Deed.{Deed}
use Rattle.wb_model.specs.declared.entry.Deed.TheVariants as deeds

-- ---- what a submission puts down

pub record Submission : Type 0 where
  pub context : ℕ
  pub form : ℕ
  pub version : ℕ
  pub answers : Answered
  pub mark : Bool
  pub readers : List ℕ
  pub receipt : List ℕ
  pub received : ℤ
  pub ack_due : ℤ
  pub feedback_due : ℤ
  pub expires : ℤ

abbrev pub submission_in : Deed → Option Submission
submission_in (deeds.Submitted ack_due answers context expires feedback_due form mark readers receipt received version) = Some (record {
  context = context;
  form = form;
  version = version;
  answers = answers;
  mark = mark;
  readers = readers;
  receipt = receipt.0;
  received = received;
  ack_due = ack_due;
  feedback_due = feedback_due;
  expires = expires;
})
submission_in _ = None

-- ---- the last of a kind

-- what the last entry that says something says, or this where none does
abbrev pub last_said : {X : Type 0} → (Deed → Option X) → X → List Entry → X
last_said says none trail = fold (λ before entry. unwrap_or (says entry.deed) before) none trail

-- a part of the submission
abbrev pub submitted : {X : Type 0} → (Submission → X) → X → List Entry → X
submitted part none trail = last_said (λ deed. option_map part (submission_in deed)) none trail

abbrev pub received : List Entry → ℤ
received trail = submitted (λ s. s.received) (pos 0) trail

abbrev pub ack_due : List Entry → ℤ
ack_due trail = submitted (λ s. s.ack_due) (pos 0) trail

abbrev pub form : List Entry → ℕ
form trail = submitted (λ s. s.form) 0 trail

abbrev pub version : List Entry → ℕ
version trail = submitted (λ s. s.version) 0 trail

-- the public answers
abbrev pub answers : List Entry → Answered
answers trail = submitted (λ s. s.answers) [] trail

-- the digest of its receipt
abbrev pub receipt : List Entry → List ℕ
receipt trail = submitted (λ s. s.receipt) [] trail

abbrev pub context_in : Deed → Option ℕ
context_in (deeds.Transferred context readers) = Some context
context_in deed = option_map (λ (s : Submission). s.context) (submission_in deed)

abbrev pub context : List Entry → ℕ
context trail = last_said context_in 0 trail

abbrev pub status_in : Deed → Option Status
status_in (deeds.SetStatus status) = Some status
status_in _ = None

abbrev pub status : List Entry → Status
status trail = last_said status_in New trail

abbrev pub same_status : Status → Status → Bool
same_status New New = true
same_status Opened Opened = true
same_status Closed Closed = true
same_status _ _ = false

abbrev pub is_closed : List Entry → Bool
is_closed trail = same_status (status trail) Closed

abbrev pub label_in : Deed → Option (List ℕ)
label_in (deeds.Label text) = Some text
label_in _ = None

abbrev pub label : List Entry → List ℕ
label trail = last_said label_in [] trail

abbrev pub acknowledged_in : Deed → Option (Option ℤ)
acknowledged_in (deeds.Acknowledged day feedback_due) = Some (Some day)
acknowledged_in _ = None

-- the day on which receipt was acknowledged
abbrev pub acknowledged : List Entry → Option ℤ
acknowledged trail = last_said acknowledged_in None trail

abbrev pub extension_in : Deed → Option (Option ℤ)
extension_in (deeds.Extended feedback_due reason) = Some (Some feedback_due)
extension_in _ = None

-- the feedback day of the extension
abbrev pub extension : List Entry → Option ℤ
extension trail = last_said extension_in None trail

abbrev pub is_extended : List Entry → Bool
is_extended trail = is_some (extension trail)

abbrev pub feedback_due_in : Deed → Option ℤ
feedback_due_in (deeds.Acknowledged day feedback_due) = Some feedback_due
feedback_due_in (deeds.Extended feedback_due reason) = Some feedback_due
feedback_due_in deed = option_map (λ (s : Submission). s.feedback_due) (submission_in deed)

abbrev pub feedback_due : List Entry → ℤ
feedback_due trail = last_said feedback_due_in (pos 0) trail

abbrev pub expires_in : Deed → Option ℤ
expires_in (deeds.Postponed expires) = Some expires
expires_in deed = option_map (λ (s : Submission). s.expires) (submission_in deed)

abbrev pub expires : List Entry → ℤ
expires trail = last_said expires_in (pos 0) trail

-- ---- all of a kind

abbrev pub is_postponement : Entry → Bool
is_postponement entry = by_deed entry.deed
  where
    by_deed : Deed → Bool
    by_deed (deeds.Postponed expires) = true
    by_deed _ = false

-- how often it was postponed
abbrev pub postponements : List Entry → ℕ
postponements trail = length (filter is_postponement trail)

-- the readers with one more, ascending
abbrev pub with_reader : ℕ → List ℕ → List ℕ
with_reader u [] = u ∷ []
with_reader u (x ∷ xs) = if nat_lt u x then u ∷ x ∷ xs else x ∷ with_reader u xs

abbrev pub readers_by : List ℕ → Deed → List ℕ
readers_by before (deeds.Submitted ack_due answers context expires feedback_due form mark readers receipt received version) = readers
readers_by before (deeds.Transferred context readers) = readers
readers_by before (deeds.Shared user) = with_reader user before
readers_by before (deeds.Unshared user) = filter (λ x. not (x == user)) before
readers_by before _ = before

-- the users who read the report, ascending
abbrev pub readers : List Entry → List ℕ
readers trail = fold (λ before entry. readers_by before entry.deed) [] trail

abbrev pub reads : ℕ → List Entry → Bool
reads user trail = list_any (λ x. x == user) (readers trail)

abbrev pub is_feedback : Deed → Bool
is_feedback (deeds.Feedback text) = true
is_feedback _ = false

abbrev pub feedback_given : List Entry → Bool
feedback_given trail = list_any (λ entry. is_feedback entry.deed) trail

abbrev pub is_marked : Deed → Bool
is_marked (deeds.Submitted ack_due answers context expires feedback_due form mark readers receipt received version) = mark
is_marked deeds.Identity = true
is_marked _ = false

-- an identity answer was given, with the report or later
abbrev pub has_identity : List Entry → Bool
has_identity trail = list_any (λ entry. is_marked entry.deed) trail

-- ---- the dialogue

-- a remark, by whom and of what kind; the user is none for the reporter
pub record Remark : Type 0 where
  pub at : ℕ
  pub from : List ℕ
  pub kind : List ℕ
  pub text : List ℕ
  pub internal : Bool
  pub user : Option ℕ

abbrev pub commenter : Actor → List ℕ
commenter Reporter = codes "reporter"
commenter (User u) = codes "recipient"

abbrev pub some_user : Actor → Option ℕ
some_user Reporter = None
some_user (User u) = Some u

-- the remark that an entry is: a comment, an acknowledgement, a feedback, an extension, or the notice of a grant that was not withheld
abbrev pub remark_of : Entry → Option Remark
remark_of entry = by_deed entry.deed
  where
    by_deed : Deed → Option Remark
    by_deed (deeds.Comment internal text) = Some (record { at = entry.at; from = commenter entry.by; kind = codes "comment"; text = text; internal = internal; user = some_user entry.by })
    by_deed (deeds.Acknowledged day feedback_due) = Some (record { at = entry.at; from = codes "recipient"; kind = codes "acknowledgement"; text = []; internal = false; user = some_user entry.by })
    by_deed (deeds.Feedback text) = Some (record { at = entry.at; from = codes "recipient"; kind = codes "feedback"; text = text; internal = false; user = some_user entry.by })
    by_deed (deeds.Extended feedback_due reason) = Some (record { at = entry.at; from = codes "recipient"; kind = codes "extension"; text = reason; internal = false; user = some_user entry.by })
    by_deed (deeds.Granted effective reason request None) = Some (record { at = entry.at; from = codes "custodian"; kind = codes "notice"; text = reason; internal = false; user = some_user entry.by })
    by_deed _ = None

-- the remarks of a trail, the oldest first
abbrev pub dialogue : List Entry → List Remark
dialogue trail = filter_map remark_of trail

-- the places of entries that are remarks, where the first entry is of this place
abbrev pub remark_places : ℕ → List Entry → List ℕ
remark_places k [] = []
remark_places k (e ∷ es) = if is_some (remark_of e) then k ∷ remark_places (k + 1) es else remark_places (k + 1) es

-- the places in a trail, counted from 0, that its dialogue shows
abbrev pub dialogue_places : List Entry → List ℕ
dialogue_places trail = remark_places 0 trail

-- the remarks at these places of a trail
abbrev pub remarks_at : List Entry → List ℕ → List Remark
remarks_at trail places = filter_map (λ k. option_and_then remark_of (slice_get trail k)) places
