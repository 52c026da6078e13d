-- A summary that says what an entry says is that of the trail with one more entry.
use Rattle.std.proofs.Common.{◌≡◌, ℕ, zero, suc, ◌+◌, ◌++◌, ◌||◌, Bool, true, false, List, [], ◌∷◌, ◌≤◌, length, cond, Option, None, unwrap_or, refl, sym, ap, ◌∙◌, filter, arith}
use Rattle.std.specs.List.{list_any}
use Rattle.std.proofs.lemmas.List.Sums.{fold-append}
use Rattle.std.proofs.lemmas.List.Folds.{list_any-append}
use Rattle.wb_model.specs.declared.entry.Entry.{Entry}
use Rattle.wb_model.specs.declared.entry.Deed.{Deed}
use Rattle.wb_model.specs.declared.entry.Deed.TheVariants as deeds
use Rattle.std.specs.Prelude.{pos, option_map}
use Rattle.wb_model.specs.declared.entry.Status.TheVariants.{New}
use Rattle.wb_model.specs.Trails as trails
use Rattle.wb_model.specs.Trails.{Submission, submission_in, status_in, context_in, acknowledged_in, extension_in, feedback_due_in, expires_in, label_in, last_said, feedback_given, is_feedback, has_identity, is_marked, readers_by, is_postponement, postponements, remark_places, dialogue_places}
use Rattle.wb_case.specs.declared.summary.Summary.{Summary}
use Rattle.wb_case.specs.Summaries.{IsSummary, IsAfter, label_at, labelled_after, postponing}

said : {X : Type 0} (says : Deed → Option X) (none : X) (trail : List Entry) (e : Entry) (x y : X) → x ≡ last_said says none trail → y ≡ unwrap_or (says e.deed) x → y ≡ last_said says none (trail ++ e ∷ [])
said says none trail e x y is new = new ∙ ap (λ z. unwrap_or (says e.deed) z) is ∙ sym (fold-append (λ before (entry : Entry). unwrap_or (says entry.deed) before) none trail (e ∷ []))

label_stays : (k : ℕ) (trail : List Entry) (e : Entry) → label_in e.deed ≡ None → label_at k (trail ++ e ∷ []) ≡ label_at k trail
label_stays zero [] e is = ap (λ o. unwrap_or o []) is
label_stays (suc k) [] e is = refl
label_stays zero (x ∷ trail) e is = refl
label_stays (suc k) (x ∷ trail) e is = label_stays k trail e is

label_new : (trail : List Entry) (e : Entry) → label_at (length trail) (trail ++ e ∷ []) ≡ unwrap_or (label_in e.deed) []
label_new [] e = refl
label_new (x ∷ trail) e = label_new trail e

labelled : (k : ℕ) (trail : List Entry) (at : ℕ) (by : _) (d : Deed) → label_at k trail ≡ trails.label trail → label_at (labelled_after k (length trail) d) (trail ++ record { at = at; by = by; deed = d } ∷ []) ≡ unwrap_or (label_in d) (trails.label trail)
labelled k trail at by (deeds.Label text) is = label_new trail (record { at = at; by = by; deed = deeds.Label text })
labelled k trail at by deeds.Identity is = label_stays k trail (record { at = at; by = by; deed = deeds.Identity }) refl ∙ is
labelled k trail at by d is = label_stays k trail (record { at = at; by = by; deed = d }) refl ∙ is

or-last : (b : Bool) → (b || false) ≡ b
or-last true = refl
or-last false = refl

any-more : (is_so : Deed → Bool) (trail : List Entry) (e : Entry) → (list_any (λ (x : Entry). is_so x.deed) trail || is_so e.deed) ≡ list_any (λ (x : Entry). is_so x.deed) (trail ++ e ∷ [])
any-more is_so trail e = sym (list_any-append (λ (x : Entry). is_so x.deed) trail (e ∷ []) ∙ ap (λ b. list_any (λ (x : Entry). is_so x.deed) trail || b) (or-last (is_so e.deed)))

postponed-once : (at : ℕ) (by : _) (d : Deed) → postponing d ≡ length (filter is_postponement (record { at = at; by = by; deed = d } ∷ []))
postponed-once at by (deeds.Postponed expires) = refl
postponed-once at by deeds.Identity = refl
postponed-once at by d = refl

more-here : (n m : ℕ) → suc n + m ≡ suc (n + m)
more-here n m = omega arith

postponed-more : (trail : List Entry) (e : Entry) → postponements trail + postponing e.deed ≡ postponements (trail ++ e ∷ [])
postponed-more [] e = zero-more (postponing e.deed) ∙ postponed-once e.at e.by e.deed
  where
    zero-more : (n : ℕ) → 0 + n ≡ n
    zero-more n = omega arith
postponed-more (x ∷ trail) e = by_head (is_postponement x) (postponed-more trail e)
  where
    by_head : (b : Bool) → postponements trail + postponing e.deed ≡ postponements (trail ++ e ∷ []) → length (cond b (x ∷ filter is_postponement trail) (filter is_postponement trail)) + postponing e.deed ≡ length (cond b (x ∷ filter is_postponement (trail ++ e ∷ [])) (filter is_postponement (trail ++ e ∷ [])))
    by_head true is = more-here (length (filter is_postponement trail)) (postponing e.deed) ∙ ap suc is
    by_head false is = is

pub summary-after : (old new : Summary) (trail : List Entry) (e : Entry) → IsAfter old new (length trail) e → IsSummary old trail → dialogue_places (trail ++ e ∷ []) ≡ dialogue_places trail ++ remark_places (length trail) (e ∷ []) → IsSummary new (trail ++ e ∷ [])
summary-after old new trail e n h more = record {
  status = said status_in New trail e old.status new.status h.status n.status;
  label = ap (λ k. label_at k (trail ++ e ∷ [])) n.labelled ∙ labelled old.labelled trail e.at e.by e.deed h.label ∙ said label_in [] trail e (trails.label trail) (unwrap_or (label_in e.deed) (trails.label trail)) refl refl;
  context = said context_in 0 trail e old.context new.context h.context n.context;
  readers = n.readers ∙ ap (λ us. readers_by us e.deed) h.readers ∙ sym (fold-append (λ before (entry : Entry). readers_by before entry.deed) [] trail (e ∷ []));
  received = said (λ deed. option_map (λ (x : Submission). x.received) (submission_in deed)) (pos 0) trail e old.received new.received h.received n.received;
  ack_due = said (λ deed. option_map (λ (x : Submission). x.ack_due) (submission_in deed)) (pos 0) trail e old.ack_due new.ack_due h.ack_due n.ack_due;
  acknowledged = said acknowledged_in None trail e old.acknowledged new.acknowledged h.acknowledged n.acknowledged;
  extension = said extension_in None trail e old.extension new.extension h.extension n.extension;
  feedback_due = said feedback_due_in (pos 0) trail e old.feedback_due new.feedback_due h.feedback_due n.feedback_due;
  feedback_given = n.feedback_given ∙ ap (λ b. b || is_feedback e.deed) h.feedback_given ∙ any-more is_feedback trail e;
  expires = said expires_in (pos 0) trail e old.expires new.expires h.expires n.expires;
  postponements = n.postponements ∙ ap (λ k. k + postponing e.deed) h.postponements ∙ postponed-more trail e;
  has_identity = n.has_identity ∙ ap (λ b. b || is_marked e.deed) h.has_identity ∙ any-more is_marked trail e;
  dialogue = n.dialogue ∙ ap (λ ks. ks ++ remark_places (length trail) (e ∷ [])) h.dialogue ∙ sym more;
}

pub postponed-few : (trail : List Entry) → postponements trail ≤ length trail
postponed-few [] = omega arith
postponed-few (x ∷ trail) = by_head (is_postponement x) (postponed-few trail)
  where
    by_head : (b : Bool) → postponements trail ≤ length trail → length (cond b (x ∷ filter is_postponement trail) (filter is_postponement trail)) ≤ suc (length trail)
    by_head true few = omega (arith, few)
    by_head false few = omega (arith, few)
