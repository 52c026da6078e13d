-- A legal trail begins with its submission, and no later entry is one: what it says of the submission is what its first entry says.
use Rattle.std.proofs.Common.{◌≡◌, ℕ, true, false, not, List, [], ◌∷◌, ◌++◌, Option, Some, None, refl, ◌∙◌, option_map}
use Rattle.std.proofs.lemmas.Bool.{and_parts, false≢true}
use Rattle.std.specs.Option.{option_map_or}
use Rattle.std.specs.Prelude.{◌==◌, ◌&&◌, find, is_none, is_some, length, nat_le, unwrap_or}
use Rattle.wb_base.specs.AnswerList.{Answered}
use Rattle.wb_model.specs.declared.entry.Deed.{Deed}
use Rattle.wb_model.specs.declared.entry.Deed.TheVariants as deeds
use Rattle.wb_model.specs.declared.entry.Entry.{Entry}
use Rattle.wb_model.specs.declared.registry.FormItem.{FormItem}
use Rattle.wb_model.specs.Access.{user_by}
use Rattle.wb_model.specs.KeptRules.{has_public_answers, are_valid_after}
use Rattle.wb_model.specs.Legal.{Reckoning, done, is_first, is_free, is_legal, is_next, legal_from, right_actor, right_values}
use Rattle.wb_model.specs.Requests.{late_fault, mark, submission_fault}
use Rattle.wb_model.specs.AskingForms.{form_of_trail}
use Rattle.wb_model.specs.Trails.{Submission, answers, form, receipt, submission_in, submitted, version}

-- none of them is a submission
abbrev pub AreSilent : List Entry → Type 0
AreSilent [] = Unit {0}
AreSilent (e ∷ es) = (submission_in e.deed ≡ None) × AreSilent es

no_submission : (trail : List Entry) (user : ℕ) (deed : Deed) → is_free trail user (done trail deed) ≡ true → submission_in deed ≡ None
no_submission trail user (deeds.Submitted ack_due given context expires feedback_due form mark readers receipt received version) free = absurd (false≢true free)
no_submission trail user _ free = refl

silent_from : (days : Reckoning) (time : ℕ) (before es : List Entry) → legal_from days time before es ≡ true → AreSilent es
silent_from days time before [] legal = tt
silent_from days time before (e ∷ es) legal =
    let parts = and_parts (is_next days time before e) (legal_from days e.at (before ++ e ∷ []) es) legal in
    let next = and_parts (nat_le time e.at && right_actor e.deed e.by && right_values days before e.at e.deed) (is_free before (user_by e.by) (done before e.deed)) parts.0 in
    (no_submission before (user_by e.by) e.deed next.1, silent_from days e.at (before ++ e ∷ []) es parts.1)

pub begins_so : (days : Reckoning) (e : Entry) (es : List Entry) → is_legal days (e ∷ es) ≡ true → (is_some (submission_in e.deed) ≡ true) × AreSilent es
begins_so days e es legal =
    let parts = and_parts (is_first days e) (legal_from days e.at (e ∷ []) es) legal in
    let first = and_parts (is_some (submission_in e.deed) && right_actor e.deed e.by) (right_values days [] e.at e.deed) parts.0 in
    ((and_parts (is_some (submission_in e.deed)) (right_actor e.deed e.by) first.0).0, silent_from days e.at (e ∷ []) es parts.1)

-- ---- what it says

still : {X : Type 0} (part : Submission → X) (none : X) (es : List Entry) → AreSilent es → submitted part none es ≡ none
still part none [] silent = refl
still part none (e ∷ es) silent = (λ i. submitted part (unwrap_or (option_map part (silent.0 i)) none) es) ∙ still part none es silent.1

module _ (e : Entry) (es : List Entry) (silent : AreSilent es) where
  of_first : {X : Type 0} (part : Submission → X) (none : X) → submitted part none (e ∷ es) ≡ submitted part none (e ∷ [])
  of_first part none = still part (unwrap_or (option_map part (submission_in e.deed)) none) es silent

  form_of_first : form (e ∷ es) ≡ form (e ∷ [])
  form_of_first = of_first (λ (s : Submission). s.form) 0

  version_of_first : version (e ∷ es) ≡ version (e ∷ [])
  version_of_first = of_first (λ (s : Submission). s.version) 0

  answers_of_first : answers (e ∷ es) ≡ answers (e ∷ [])
  answers_of_first = of_first (λ (s : Submission). s.answers) []

  pub receipt-first : receipt (e ∷ es) ≡ receipt (e ∷ [])
  receipt-first = of_first (λ (s : Submission). s.receipt) []

  module _ (forms : List FormItem) where
    found : form_of_trail (e ∷ es) forms ≡ form_of_trail (e ∷ []) forms
    found = λ i. find (λ (x : FormItem). (x.id == form_of_first i) && (x.version == version_of_first i)) forms

    pub public-first : has_public_answers forms (e ∷ es) ≡ has_public_answers forms (e ∷ [])
    public-first = λ i. option_map_or (λ (x : FormItem). is_none (submission_fault x.form (answers_of_first i)) && not (mark x.form (answers_of_first i))) (found i) false

    pub late-first : (given : Option Answered) → are_valid_after forms (e ∷ es) given ≡ are_valid_after forms (e ∷ []) given
    late-first None = refl
    late-first (Some given) = λ i. not (length given == 0) && option_map_or (λ (x : FormItem). is_none (late_fault x.form (answers_of_first i) given)) (found i) false
