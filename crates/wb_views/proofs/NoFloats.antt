-- No number in the bodies of replies is kept as a floating one.
use Rattle.std.proofs.Common.{◌≡◌, ℕ, ◌+◌, List, [], ◌∷◌, false, not, filter, Option, refl}
use Rattle.std.proofs.lemmas.Bool.{or_from}
use Rattle.serde_json.specs.Written.{has_float}
use Rattle.wb_json.proofs.NoFloats.{in-list, in-or_null, in-answers}
use Rattle.wb_model.specs.declared.access.AccessRequest.{AccessRequest}
use Rattle.wb_model.specs.declared.registry.UserItem.{UserItem}
use Rattle.wb_model.specs.Access.{requests}
use Rattle.wb_model.specs.Json.{list_of, whole, date, answers_data}
use Rattle.wb_model.specs.Tables.{Case}
use Rattle.wb_model.specs.Refusals.{Detail, Bare, Field, Null, Whole, Date, Word, refusal}
use Rattle.wb_model.specs.Trails as trails
use Rattle.wb_model.specs.ViewRows.{custodied_from}
use Rattle.wb_base.specs.declared.callers.Role.{Role}
use Rattle.wb_base.specs.AnswerList.{Answered}
use Rattle.wb_model.specs.Views.{remark_data, request_data, own_remark_data, recipient_view, reporter_view, identity_view}
use Rattle.wb_model.specs.ShortViews.{submission_view, session_view, version_view, request_view}

in-remark : (r : trails.Remark) → has_float (remark_data r) ≡ false
in-remark r = or_from _ _ (in-or_null whole (λ n. refl) r.user) refl

in-requests : (users : List UserItem) (number id : ℕ) (rs : List AccessRequest) → has_float (list_of request_data (custodied_from users number id rs)) ≡ false
in-requests users number id [] = refl
in-requests users number id (r ∷ rs) = or_from _ _ (or_from _ _ (in-or_null whole (λ n. refl) r.effective) refl) (in-requests users number (id + 1) rs)

pub in-submission : (n : ℕ) (receipt : List ℕ) → has_float (submission_view n receipt) ≡ false
unfolding submission_view
in-submission n receipt = refl

pub in-recipient : (users : List UserItem) (user now : ℕ) (case : Case) → has_float (recipient_view users user now case) ≡ false
unfolding recipient_view
in-recipient users user now case =
    let acknowledged = in-or_null date (λ day. refl) (trails.acknowledged case.trail) in
    let answers = in-answers (trails.answers case.trail) in
    let dialogue = in-list remark_data in-remark (trails.dialogue case.trail) in
    let readers = in-list whole (λ n. refl) (trails.readers case.trail) in
    let requests = in-requests users case.number 1 (requests case.trail) in
    or_from _ _ acknowledged (or_from _ _ answers (or_from _ _ dialogue (or_from _ _ readers (or_from _ _ requests refl))))

pub in-reporter : (case : Case) (identity : Option Answered) → has_float (reporter_view case identity) ≡ false
unfolding reporter_view
in-reporter case identity =
    let acknowledged = in-or_null date (λ day. refl) (trails.acknowledged case.trail) in
    let answers = in-answers (trails.answers case.trail) in
    let dialogue = in-list own_remark_data (λ r. refl) (filter (λ (r : trails.Remark). not r.internal) (trails.dialogue case.trail)) in
    let sealed = in-or_null answers_data in-answers identity in
    or_from _ _ acknowledged (or_from _ _ answers (or_from _ _ dialogue (or_from _ _ sealed refl)))

pub in-identity : (number : ℕ) (answers : Answered) → has_float (identity_view number answers) ≡ false
unfolding identity_view
in-identity number answers = or_from _ _ (in-answers answers) refl

pub in-session : (role : Role) (turn : ℕ) (secret : List ℕ) → has_float (session_view role turn secret) ≡ false
unfolding session_view
in-session role turn secret = refl

pub in-version : (version : ℕ) → has_float (version_view version) ≡ false
unfolding version_view
in-version version = refl

pub in-request : (k : ℕ) → has_float (request_view k) ≡ false
unfolding request_view
in-request k = refl

pub in-refusal : (code : List ℕ) (detail : Detail) → has_float (refusal code detail) ≡ false
unfolding refusal
in-refusal code Bare = refl
in-refusal code (Field id) = refl
in-refusal code Null = refl
in-refusal code (Whole number) = refl
in-refusal code (Date day) = refl
in-refusal code (Word word) = refl
