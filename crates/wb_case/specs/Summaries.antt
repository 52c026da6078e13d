-- What is kept beside a trail.
use Rattle.std.specs.Prelude.{◌≡◌, ◌+◌, ◌++◌, ◌∷◌, ◌||◌, ℕ, List, [], length, slice_get, unwrap_or}
use Rattle.std.specs.Option.{option_and_then, option_map}
use Rattle.wb_model.specs.declared.entry.Entry.{Entry}
use Rattle.wb_model.specs.declared.entry.Deed.{Deed}
use Rattle.wb_model.specs.declared.entry.Deed.TheVariants as deeds
use Rattle.wb_model.specs.Trails as trails
use Rattle.wb_model.specs.Trails.{Submission, submission_in, status_in, context_in, acknowledged_in, extension_in, feedback_due_in, expires_in, is_feedback, is_marked, label_in, readers_by, remark_places}
use Rattle.wb_case.specs.declared.summary.Summary.{Summary}

-- the label that the entry at a place has, or none
abbrev pub label_at : ℕ → List Entry → List ℕ
label_at at trail = unwrap_or (option_and_then (λ entry. label_in entry.deed) (slice_get trail at)) []

-- a summary is what the trail says
pub record IsSummary (s : Summary) (trail : List Entry) : Type 0 where
  pub status : s.status ≡ trails.status trail
  pub label : label_at s.labelled trail ≡ trails.label trail
  pub context : s.context ≡ trails.context trail
  pub readers : s.readers.items ≡ trails.readers trail
  pub received : s.received ≡ trails.received trail
  pub ack_due : s.ack_due ≡ trails.ack_due trail
  pub acknowledged : s.acknowledged ≡ trails.acknowledged trail
  pub extension : s.extension ≡ trails.extension trail
  pub feedback_due : s.feedback_due ≡ trails.feedback_due trail
  pub feedback_given : s.feedback_given ≡ trails.feedback_given trail
  pub expires : s.expires ≡ trails.expires trail
  pub postponements : s.postponements ≡ trails.postponements trail
  pub has_identity : s.has_identity ≡ trails.has_identity trail
  pub dialogue : s.dialogue.items ≡ trails.dialogue_places trail

-- ---- with one more entry

-- the place of the label
abbrev pub labelled_after : ℕ → ℕ → Deed → ℕ
labelled_after before at (deeds.Label text) = at
labelled_after before at _ = before

-- how many postponements a deed is
abbrev pub postponing : Deed → ℕ
postponing (deeds.Postponed expires) = 1
postponing _ = 0

-- for how many more readers a deed needs room
abbrev pub needed_by : Deed → ℕ
needed_by (deeds.Submitted ack_due answers context expires feedback_due form mark readers receipt received version) = length readers
needed_by (deeds.Transferred context readers) = length readers
needed_by (deeds.Shared user) = 1
needed_by _ = 0

-- a summary says what another said, but for what an entry at a place says
pub record IsAfter (old new : Summary) (at : ℕ) (e : Entry) : Type 0 where
  pub status : new.status ≡ unwrap_or (status_in e.deed) old.status
  pub labelled : new.labelled ≡ labelled_after old.labelled at e.deed
  pub context : new.context ≡ unwrap_or (context_in e.deed) old.context
  pub readers : new.readers.items ≡ readers_by old.readers.items e.deed
  pub received : new.received ≡ unwrap_or (option_map (λ (x : Submission). x.received) (submission_in e.deed)) old.received
  pub ack_due : new.ack_due ≡ unwrap_or (option_map (λ (x : Submission). x.ack_due) (submission_in e.deed)) old.ack_due
  pub acknowledged : new.acknowledged ≡ unwrap_or (acknowledged_in e.deed) old.acknowledged
  pub extension : new.extension ≡ unwrap_or (extension_in e.deed) old.extension
  pub feedback_due : new.feedback_due ≡ unwrap_or (feedback_due_in e.deed) old.feedback_due
  pub feedback_given : new.feedback_given ≡ (old.feedback_given || is_feedback e.deed)
  pub expires : new.expires ≡ unwrap_or (expires_in e.deed) old.expires
  pub postponements : new.postponements ≡ old.postponements + postponing e.deed
  pub has_identity : new.has_identity ≡ (old.has_identity || is_marked e.deed)
  pub dialogue : new.dialogue.items ≡ old.dialogue.items ++ remark_places at (e ∷ [])
