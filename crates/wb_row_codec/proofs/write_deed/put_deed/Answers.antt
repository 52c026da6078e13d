use Rattle.std.proofs.Common.{List, ℕ, inl, inr, refl, ap, ◌∙◌}
use Rattle.std.specs.Prelude.{codes}
use Rattle.serde_json.specs.Data.{put, string}
use Rattle.serde_json.specs.View.{members_view}
use Rattle.wb_model.specs.Json.{whole}
use Rattle.wb_row_codec.proofs.Puts.{then_put}
use Rattle.wb_row_codec.proofs.write_deed.put_deed.Goals as goal

pub returns-in_ok-put_date-in-Submitted-4 : goal.returns-in_ok-put_date-in-Submitted-4
returns-in_ok-put_date-in-Submitted-4 c =
    rw c.in-Submitted.is
    (then_put _ _ _ _ _ _ c.in_ok-put_date-in-Submitted-4.ensures refl
    (then_put _ _ _ _ _ _ c.in_ok-put_answers-in-Submitted.ensures refl
    (then_put _ _ _ _ _ _ c.in_ok-put_whole-in-Submitted-3.ensures refl
    (then_put _ _ _ _ _ _ c.in_ok-put_date-in-Submitted-3.ensures refl
    (then_put _ _ _ _ _ _ c.in_ok-put_date-in-Submitted-2.ensures refl
    (then_put _ _ _ _ _ _ c.in_ok-put_whole-in-Submitted-2.ensures refl
    (then_put _ _ _ _ _ _ c.in_ok-put_flag-in-Submitted.ensures refl
    (then_put _ _ _ _ _ _ c.in_ok-put_users-in-Submitted.ensures refl
    (then_put _ _ _ _ _ _ c.in_ok-put_digest-in-Submitted.ensures refl
    (then_put _ _ _ _ _ _ c.in_ok-put_date-in-Submitted.ensures refl
    c.in_ok-put_whole-in-Submitted.ensures))))))))))

pub returns-in_ok-put_flag-in-Comment : goal.returns-in_ok-put_flag-in-Comment
returns-in_ok-put_flag-in-Comment c =
    rw c.in-Comment.is (then_put _ _ _ _ _ _ c.in_ok-put_flag-in-Comment.ensures refl (c.in_ok-put_text-in-Comment.ensures ∙ ap (λ (t : List ℕ). put (codes "text") (string t) (members_view c.args.map.now.entries)) c.as_str.ensures))

pub returns-in_ok-put_text-in-SetStatus : goal.returns-in_ok-put_text-in-SetStatus
returns-in_ok-put_text-in-SetStatus c =
    rw c.in-SetStatus.is (c.in_ok-put_text-in-SetStatus.ensures ∙ ap (λ (t : List ℕ). put (codes "status") (string t) (members_view c.args.map.now.entries)) c.status_name.ensures)

pub returns-in_ok-put_date-in-Acknowledged-2 : goal.returns-in_ok-put_date-in-Acknowledged-2
returns-in_ok-put_date-in-Acknowledged-2 c = rw c.in-Acknowledged.is (then_put _ _ _ _ _ _ c.in_ok-put_date-in-Acknowledged-2.ensures refl c.in_ok-put_date-in-Acknowledged.ensures)

pub returns-in_ok-put_whole-in-Transferred : goal.returns-in_ok-put_whole-in-Transferred
returns-in_ok-put_whole-in-Transferred c = rw c.in-Transferred.is (then_put _ _ _ _ _ _ c.in_ok-put_whole-in-Transferred.ensures refl c.in_ok-put_users-in-Transferred.ensures)

pub returns-in_ok-put_date-in-Postponed : goal.returns-in_ok-put_date-in-Postponed
returns-in_ok-put_date-in-Postponed c = rw c.in-Postponed.is c.in_ok-put_date-in-Postponed.ensures

pub returns-in_ok-put_date-in-Extended : goal.returns-in_ok-put_date-in-Extended
returns-in_ok-put_date-in-Extended c =
    rw c.in-Extended.is (then_put _ _ _ _ _ _ c.in_ok-put_date-in-Extended.ensures refl (c.in_ok-put_text-in-Extended.ensures ∙ ap (λ (t : List ℕ). put (codes "reason") (string t) (members_view c.args.map.now.entries)) c.as_str-in-Extended.ensures))

pub returns-in_ok-put_text-in-Asked : goal.returns-in_ok-put_text-in-Asked
returns-in_ok-put_text-in-Asked c =
    rw c.in-Asked.is (then_put _ _ _ _ _ _ c.in_ok-put_text-in-Asked.ensures (ap string c.as_str-in-Asked.ensures) c.in_ok-put_whole-in-Asked.ensures)

pub returns-in_ok-put_whole-in-Granted-2 : goal.returns-in_ok-put_whole-in-Granted-2
returns-in_ok-put_whole-in-Granted-2 c =
    rw c.in-Granted.is
    (then_put _ _ _ _ _ _ c.in_ok-put_whole-in-Granted-2.ensures refl
    (then_put _ _ _ _ _ _ c.in_ok-put_text-in-Granted.ensures (ap string c.as_str-in-Granted.ensures)
    (then_put _ _ _ _ _ _ c.in_ok-put_whole-in-Granted.ensures refl
    c.in_ok-put_text_or_null-in-Granted.ensures)))

pub returns-in_ok-put_text-in-Denied : goal.returns-in_ok-put_text-in-Denied
returns-in_ok-put_text-in-Denied c =
    let put_both = then_put _ _ _ _ _ _ c.in_ok-put_text-in-Denied.ensures (ap string c.as_str-in-Denied.ensures) c.in_ok-put_whole-in-Denied.ensures in
    elim c.in-Denied.is [ inl is ↦ rw is put_both | inr is ↦ rw is put_both ]

pub returns-in_ok-put_whole-in-Shared : goal.returns-in_ok-put_whole-in-Shared
returns-in_ok-put_whole-in-Shared c =
    let put_one = c.in_ok-put_whole-in-Shared.ensures ∙ ap (λ (n : ℕ). put (codes "user") (whole n) (members_view c.args.map.now.entries)) c.id.ensures.value in
    elim c.in-Shared.is [ inl is ↦ rw is put_one | inr is ↦ rw is put_one ]

pub returns-in_ok-put_text-in-Label : goal.returns-in_ok-put_text-in-Label
returns-in_ok-put_text-in-Label c =
    let put_one = c.in_ok-put_text-in-Label.ensures ∙ ap (λ (t : List ℕ). put (codes "text") (string t) (members_view c.args.map.now.entries)) c.as_str-in-Label.ensures in
    elim c.in-Label.is [ inl is ↦ rw is put_one | inr is ↦ rw is put_one ]
