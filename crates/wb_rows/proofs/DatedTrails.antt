-- The days of a legal trail of moments in their range have dates that are read, and its grants' moments are in theirs.
use Rattle.std.proofs.Common.{◌≡◌, ℕ, ◌-◌, ◌*◌, ◌≤◌, Bool, true, false, not, List, [], ◌∷◌, ◌++◌, Option, Some, None, refl, ap, ◌∙◌, arith, ℤ, pos, neg_ℤ, ◌≤ℤ◌, ◌+ℤ◌}
use Rattle.std.specs.Prelude.{IfSome, length, fold, unwrap_or, is_some, nat_le, ◌&&◌, ◌||◌, ◌==◌, ◌%◌, int_le, int_lt}
use Rattle.std.specs.Ordering.{int_eq}
use Rattle.std.specs.List.{list_all}
use Rattle.std.specs.Option.{option_map}
use Rattle.std.proofs.lemmas.Bool.{and_parts, and_from}
use Rattle.std.proofs.lemmas.Int.{ints}
use Rattle.std.proofs.lemmas.Bool.Decides.{nat_tests}
use Rattle.jiff_core.proofs.SignedLemmas.{signed_arith}
use Rattle.wb_base.specs.Days.{IsOffset, day_of}
use Rattle.wb_base.specs.Terms as terms
use Rattle.wb_terms.proofs.DatedTerms.{dated_day, dated_ack, dated_feedback}
use Rattle.wb_model.specs.declared.entry.Deed.{Deed}
use Rattle.wb_model.specs.declared.entry.Deed.TheVariants as deeds
use Rattle.wb_model.specs.declared.entry.Entry.{Entry}
use Rattle.wb_model.specs.Trails.{Submission, submission_in, expires, expires_in, received, acknowledged, acknowledged_in, is_extended}
use Rattle.wb_model.specs.Legal.{Reckoning, is_within, is_effective, are_readers, right_actor, right_values, is_first, is_next, legal_from, is_legal, last_at, is_free, done}
use Rattle.wb_model.specs.Access.{user_by}
use Rattle.wb_row_codec.specs.Good.{is_dated}
use Rattle.wb_row_codec.specs.Shapes.{is_within as is_between_days}

-- the day of a moment of a host, from which terms are counted
abbrev pub is_of_moment : ℤ → Bool
is_of_moment day = is_between_days (neg_ℤ (pos 1)) (pos 1_157_408) day

-- the days of a deed, and the moment of a grant
abbrev pub is_dated_deed : Deed → Bool
is_dated_deed (deeds.Submitted ack_due answers context expires feedback_due form mark readers receipt received version) = is_dated ack_due && is_dated expires && is_dated feedback_due && is_of_moment received
is_dated_deed (deeds.Acknowledged day feedback_due) = is_of_moment day && is_dated feedback_due
is_dated_deed (deeds.Postponed expires) = is_dated expires
is_dated_deed (deeds.Extended feedback_due reason) = is_dated feedback_due
is_dated_deed (deeds.Granted effective reason request withheld) = nat_le effective 100_002_591_999
is_dated_deed _ = true

-- an entry's days are, and its moment is in its range
abbrev pub is_timed : Entry → Bool
is_timed e = nat_le e.at 99_999_999_999 && is_dated_deed e.deed

int_same : (a b : ℤ) → int_eq a b ≡ true → a ≡ b
int_same a b e = grind (arith, ints, e)

dated : (day : ℤ) → neg_ℤ (pos 1) ≤ℤ day → day ≤ℤ pos 1_179_732 → is_dated day ≡ true
dated day low high = and_from (int_le (neg_ℤ (pos 1)) day) (int_le day (pos 1_179_732)) (grind (arith, ints, low)) (grind (arith, ints, high))

of_moment : (day : ℤ) → neg_ℤ (pos 1) ≤ℤ day → day ≤ℤ pos 1_157_408 → is_of_moment day ≡ true
of_moment day low high = and_from (int_le (neg_ℤ (pos 1)) day) (int_le day (pos 1_157_408)) (grind (arith, ints, low)) (grind (arith, ints, high))

moment_within : (day : ℤ) → is_of_moment day ≡ true → (neg_ℤ (pos 1) ≤ℤ day) × (day ≤ℤ pos 1_157_408)
moment_within day e =
    let parts = and_parts (int_le (neg_ℤ (pos 1)) day) (int_le day (pos 1_157_408)) e in
    ((let k = parts.0 in grind (arith, ints, k)), (let k = parts.1 in grind (arith, ints, k)))

pub moment_dated : (day : ℤ) → is_of_moment day ≡ true → is_dated day ≡ true
moment_dated day e = let k = moment_within day e in dated day k.0 (omega (arith, signed_arith, k.1))

not_below : (a b : ℤ) → not (int_lt a b) ≡ true → b ≤ℤ a
not_below a b e = grind (arith, ints, e)

within : (day : ℤ) → is_dated day ≡ true → (neg_ℤ (pos 1) ≤ℤ day) × (day ≤ℤ pos 1_179_732)
within day e =
    let parts = and_parts (int_le (neg_ℤ (pos 1)) day) (int_le day (pos 1_179_732)) e in
    ((let k = parts.0 in grind (arith, ints, k)), (let k = parts.1 in grind (arith, ints, k)))

five : (a b c d e : Bool) → (a && b && c && d && e) ≡ true → (a ≡ true) × (b ≡ true) × (c ≡ true) × (d ≡ true)
five a b c d e is =
    let p = and_parts (a && b && c && d) e is in
    let q = and_parts (a && b && c) d p.0 in
    let r = and_parts (a && b) c q.0 in
    let s = and_parts a b r.0 in (s.0, s.1, r.1, q.1)

-- what a trail says of its expiry is dated
expiry_dated : (trail : List Entry) (before : ℤ) → is_dated before ≡ true → list_all is_timed trail ≡ true → is_dated (fold (λ day (entry : Entry). unwrap_or (expires_in entry.deed) day) before trail) ≡ true
expiry_dated [] before is all = is
expiry_dated (e ∷ es) before is all =
    let parts = and_parts (is_timed e) (list_all is_timed es) all in
    expiry_dated es (unwrap_or (expires_in e.deed) before) (by e.deed (and_parts (nat_le e.at 99_999_999_999) (is_dated_deed e.deed) parts.0).1) parts.1
  where
    by : (d : Deed) → is_dated_deed d ≡ true → is_dated (unwrap_or (expires_in d) before) ≡ true
    by (deeds.Submitted ack_due answers context expires feedback_due form mark readers receipt received version) k =
        let a = and_parts (is_dated ack_due && is_dated expires && is_dated feedback_due) (is_of_moment received) k in
        let b = and_parts (is_dated ack_due && is_dated expires) (is_dated feedback_due) a.0 in (and_parts (is_dated ack_due) (is_dated expires) b.0).1
    by (deeds.Postponed expires) k = k
    by _ k = is

-- so are the days from which its terms are counted
received_dated : (trail : List Entry) (before : ℤ) → is_of_moment before ≡ true → list_all is_timed trail ≡ true → is_of_moment (fold (λ day (entry : Entry). unwrap_or (option_map (λ (s : Submission). s.received) (submission_in entry.deed)) day) before trail) ≡ true
received_dated [] before is all = is
received_dated (e ∷ es) before is all =
    let parts = and_parts (is_timed e) (list_all is_timed es) all in
    received_dated es (unwrap_or (option_map (λ (s : Submission). s.received) (submission_in e.deed)) before) (by e.deed (and_parts (nat_le e.at 99_999_999_999) (is_dated_deed e.deed) parts.0).1) parts.1
  where
    by : (d : Deed) → is_dated_deed d ≡ true → is_of_moment (unwrap_or (option_map (λ (s : Submission). s.received) (submission_in d)) before) ≡ true
    by (deeds.Submitted ack_due answers context expires feedback_due form mark readers receipt received version) k = (and_parts (is_dated ack_due && is_dated expires && is_dated feedback_due) (is_of_moment received) k).1
    by _ k = is

acknowledged_dated : (trail : List Entry) (before : Option ℤ) → IfSome before (λ day. is_of_moment day ≡ true) → list_all is_timed trail ≡ true → IfSome (fold (λ day (entry : Entry). unwrap_or (acknowledged_in entry.deed) day) before trail) (λ day. is_of_moment day ≡ true)
acknowledged_dated [] before is all = is
acknowledged_dated (e ∷ es) before is all =
    let parts = and_parts (is_timed e) (list_all is_timed es) all in
    acknowledged_dated es (unwrap_or (acknowledged_in e.deed) before) (by e.deed (and_parts (nat_le e.at 99_999_999_999) (is_dated_deed e.deed) parts.0).1) parts.1
  where
    by : (d : Deed) → is_dated_deed d ≡ true → IfSome (unwrap_or (acknowledged_in d) before) (λ day. is_of_moment day ≡ true)
    by (deeds.Acknowledged day feedback_due) k = (and_parts (is_of_moment day) (is_dated feedback_due) k).0
    by _ k = is

-- feedback is counted from the acknowledgement, or from seven days after receipt
from_within : (acknowledged : Option ℤ) (received : ℤ) → IfSome acknowledged (λ day. is_of_moment day ≡ true) → is_of_moment received ≡ true → (neg_ℤ (pos 1) ≤ℤ unwrap_or acknowledged (received +ℤ pos 7)) × (unwrap_or acknowledged (received +ℤ pos 7) ≤ℤ pos 1_157_415)
from_within None received a r = let k = moment_within received r in (omega (arith, signed_arith, k.0), omega (arith, signed_arith, k.1))
from_within (Some day) received a r = let k = moment_within day a in (k.0, omega (arith, signed_arith, k.1))

module _ (days : Reckoning) (in_range : IsOffset days.offset) (few : length days.calendar.holidays ≤ 64) where
  values_dated : (trail : List Entry) (time : ℕ) (d : Deed) → time ≤ 99_999_999_999 → list_all is_timed trail ≡ true → right_values days trail time d ≡ true → is_dated_deed d ≡ true
  values_dated trail time (deeds.Submitted ack_due answers context expires feedback_due form mark readers receipt received version) small all right =
      let p = five (int_eq received (day_of time days.offset)) (int_eq ack_due (terms.ack_due (day_of time days.offset) days.calendar)) (int_eq feedback_due (terms.feedback_due (day_of time days.offset) None false days.calendar)) (is_within (day_of time days.offset) 1 3_650 expires) (are_readers readers) right in
      let today = dated_day time days.offset small in_range in
      let r : received ≡ day_of time days.offset = int_same received (day_of time days.offset) p.0 in
      let a = int_same ack_due (terms.ack_due (day_of time days.offset) days.calendar) p.1 in
      let f = int_same feedback_due (terms.feedback_due (day_of time days.offset) None false days.calendar) p.2 in
      let ack = dated_ack (day_of time days.offset) days.calendar few today.0 today.1 in
      let feedback = dated_feedback (day_of time days.offset) None false days.calendar few (omega (arith, signed_arith, today.0)) (omega (arith, signed_arith, today.1)) in
      let span = and_parts (not (int_lt expires (terms.expiry (day_of time days.offset) 1))) (not (int_lt (terms.expiry (day_of time days.offset) 3_650) expires)) p.3 in
      let least : (day_of time days.offset +ℤ pos 1) ≤ℤ expires = not_below expires (day_of time days.offset +ℤ pos 1) span.0 in
      let most : expires ≤ℤ (day_of time days.offset +ℤ pos 3_650) = not_below (day_of time days.offset +ℤ pos 3_650) expires span.1 in
      and_from _ _ (and_from _ _ (and_from _ _
      (ap is_dated a ∙ dated (terms.ack_due (day_of time days.offset) days.calendar) ack.0 ack.1)
      (dated expires (omega (arith, signed_arith, today.0, least)) (omega (arith, signed_arith, today.1, most))))
      (ap is_dated f ∙ dated (terms.feedback_due (day_of time days.offset) None false days.calendar) feedback.0 feedback.1))
      (ap is_of_moment r ∙ of_moment (day_of time days.offset) today.0 today.1)
  values_dated trail time (deeds.Acknowledged day feedback_due) small all right =
      let p = and_parts (int_eq day (day_of time days.offset)) (int_eq feedback_due (terms.feedback_due (received trail) (Some day) (is_extended trail) days.calendar)) right in
      let today = dated_day time days.offset small in_range in
      let d : day ≡ day_of time days.offset = int_same day (day_of time days.offset) p.0 in
      let own : is_of_moment day ≡ true = ap is_of_moment d ∙ of_moment (day_of time days.offset) today.0 today.1 in
      let from = from_within (Some day) (received trail) own (received_dated trail (pos 0) refl all) in
      let f = int_same feedback_due (terms.feedback_due (received trail) (Some day) (is_extended trail) days.calendar) p.1 in
      let feedback = dated_feedback (received trail) (Some day) (is_extended trail) days.calendar few from.0 from.1 in
      and_from _ _ own (ap is_dated f ∙ dated (terms.feedback_due (received trail) (Some day) (is_extended trail) days.calendar) feedback.0 feedback.1)
  values_dated trail time (deeds.Extended feedback_due reason) small all right =
      let from = from_within (acknowledged trail) (received trail) (acknowledged_dated trail None tt all) (received_dated trail (pos 0) refl all) in
      let f = int_same feedback_due (terms.feedback_due (received trail) (acknowledged trail) true days.calendar) right in
      let feedback = dated_feedback (received trail) (acknowledged trail) true days.calendar few from.0 from.1 in
      ap is_dated f ∙ dated (terms.feedback_due (received trail) (acknowledged trail) true days.calendar) feedback.0 feedback.1
  values_dated trail time (deeds.Postponed new) small all right =
      let p = and_parts (not (int_lt new (expires trail))) (int_eq new (expires trail) || not (int_lt (terms.expiry (day_of time days.offset) 3_650) new)) right in
      let before = expiry_dated trail (pos 0) (and_from (int_le (neg_ℤ (pos 1)) (pos 0)) (int_le (pos 0) (pos 1_179_732)) (grind (arith, ints)) (grind (arith, ints))) all in
      by (int_eq new (expires trail)) refl p.1 (within (expires trail) before) (not_below new (expires trail) p.0) (dated_day time days.offset small in_range) before
    where
      by : (b : Bool) → int_eq new (expires trail) ≡ b → (b || not (int_lt (terms.expiry (day_of time days.offset) 3_650) new)) ≡ true → (neg_ℤ (pos 1) ≤ℤ expires trail) × (expires trail ≤ℤ pos 1_179_732) → expires trail ≤ℤ new → (neg_ℤ (pos 1) ≤ℤ day_of time days.offset) × (day_of time days.offset ≤ℤ pos 1_157_408) → is_dated (expires trail) ≡ true → is_dated new ≡ true
      by true is e old low today before = ap is_dated (int_same new (expires trail) is) ∙ before
      by false is e old low today before =
          let most : new ≤ℤ (day_of time days.offset +ℤ pos 3_650) = not_below (day_of time days.offset +ℤ pos 3_650) new e in
          dated new (omega (arith, signed_arith, old.0, low)) (omega (arith, signed_arith, today.1, most))
  values_dated trail time (deeds.Granted effective reason request withheld) small all right = by withheld right
    where
      by : (w : Option (List ℕ)) → is_effective time effective w ≡ true → nat_le effective 100_002_591_999 ≡ true
      by (Some text) e = let k : effective ≡ time = grind (arith, nat_tests, e) in (let le : effective ≤ 100_002_591_999 = omega (arith, small, k) in grind (arith, nat_tests, le))
      by None e =
          let p = and_parts (nat_le time effective && nat_le (effective - time) (86_400 * 30)) ((effective - time) % 86_400 == 0) e in
          let q = and_parts (nat_le time effective) (nat_le (effective - time) (86_400 * 30)) p.0 in
          let from : time ≤ effective = (let k = q.0 in grind (arith, nat_tests, k)) in
          let span : effective - time ≤ 86_400 * 30 = (let k = q.1 in grind (arith, nat_tests, k)) in
          let le : effective ≤ 100_002_591_999 = omega (arith, small, from, span) in grind (arith, nat_tests, le)
  values_dated trail time _ small all right = refl

  -- a legal rest's moments do not fall
  not_after : (time : ℕ) (before es : List Entry) → legal_from days time before es ≡ true → time ≤ last_at time es
  not_after time before [] legal = omega arith
  not_after time before (e ∷ es) legal =
      let parts = and_parts (is_next days time before e) (legal_from days e.at (before ++ e ∷ []) es) legal in
      let more : e.at ≤ last_at e.at es = not_after e.at (before ++ e ∷ []) es parts.1 in
      let first : nat_le time e.at ≡ true = (and_parts (nat_le time e.at) (right_actor e.deed e.by) (and_parts (nat_le time e.at && right_actor e.deed e.by) (right_values days before e.at e.deed) (and_parts (nat_le time e.at && right_actor e.deed e.by && right_values days before e.at e.deed) (is_free before (user_by e.by) (done before e.deed)) parts.0).0).0).0 in
      grind (arith, nat_tests, first, more)

  pushed : (before : List Entry) (e : Entry) → list_all is_timed before ≡ true → is_timed e ≡ true → list_all is_timed (before ++ e ∷ []) ≡ true
  pushed [] e all is = and_from _ _ is refl
  pushed (x ∷ xs) e all is = let parts = and_parts (is_timed x) (list_all is_timed xs) all in and_from _ _ parts.0 (pushed xs e parts.1 is)

  rest_dated : (time : ℕ) (before es : List Entry) → last_at time es ≤ 99_999_999_999 → list_all is_timed before ≡ true → legal_from days time before es ≡ true → list_all is_timed es ≡ true
  rest_dated time before [] small all legal = refl
  rest_dated time before (e ∷ es) small all legal =
      let parts = and_parts (is_next days time before e) (legal_from days e.at (before ++ e ∷ []) es) legal in
      let values = (and_parts (nat_le time e.at && right_actor e.deed e.by) (right_values days before e.at e.deed) (and_parts (nat_le time e.at && right_actor e.deed e.by && right_values days before e.at e.deed) (is_free before (user_by e.by) (done before e.deed)) parts.0).0).1 in
      let more : e.at ≤ last_at e.at es = not_after e.at (before ++ e ∷ []) es parts.1 in
      let le : e.at ≤ 99_999_999_999 = omega (arith, small, more) in
      let here : is_timed e ≡ true = and_from (nat_le e.at 99_999_999_999) (is_dated_deed e.deed) (grind (arith, nat_tests, le)) (values_dated before e.at e.deed le all values) in
      and_from _ _ here (rest_dated e.at (before ++ e ∷ []) es small (pushed before e all here) parts.1)

  pub trail_dated : (trail : List Entry) → last_at 0 trail ≤ 99_999_999_999 → is_legal days trail ≡ true → list_all is_timed trail ≡ true
  trail_dated [] small legal = refl
  trail_dated (e ∷ es) small legal =
      let parts = and_parts (is_first days e) (legal_from days e.at (e ∷ []) es) legal in
      let values = (and_parts (is_some (submission_in e.deed) && right_actor e.deed e.by) (right_values days [] e.at e.deed) parts.0).1 in
      let more : e.at ≤ last_at e.at es = not_after e.at (e ∷ []) es parts.1 in
      let le : e.at ≤ 99_999_999_999 = omega (arith, small, more) in
      let here : is_timed e ≡ true = and_from (nat_le e.at 99_999_999_999) (is_dated_deed e.deed) (grind (arith, nat_tests, le)) (values_dated [] e.at e.deed le refl values) in
      and_from _ _ here (rest_dated e.at (e ∷ []) es small (and_from _ _ here refl) parts.1)
