-- The days of a legal trail from which terms are counted.
use Rattle.std.proofs.Common.{◌≡◌, ℕ, ◌≤◌, ◌≤ℤ◌, Bool, true, false, List, [], ◌∷◌, ◌++◌, Option, None, refl, sym, ap, ◌∙◌, subst, arith, ℤ, IfSome}
use Rattle.std.specs.Prelude.{fold, nat_le, ◌&&◌, option_map, unwrap_or}
use Rattle.std.specs.Ordering.{int_eq}
use Rattle.std.proofs.lemmas.Bool.Decides.{nat_tests}
use Rattle.std.proofs.lemmas.Int.{ints}
use Rattle.jiff_core.proofs.SignedLemmas.{signed_arith}
use Rattle.wb_base.specs.Days.{IsEarlyDay, IsOffset, day_of}
use Rattle.wb_model.specs.declared.entry.Actor.{Actor}
use Rattle.wb_model.specs.declared.entry.Entry.{Entry}
use Rattle.wb_model.specs.declared.entry.Deed.{Deed}
use Rattle.wb_model.specs.declared.entry.Deed.TheVariants as deeds
use Rattle.wb_model.specs.Access.{user_by}
use Rattle.wb_model.specs.Trails.{Submission, submission_in, acknowledged_in, received, acknowledged}
use Rattle.wb_model.specs.Legal.{Reckoning, right_actor, right_values, is_free, done, is_first, is_next, legal_from, is_legal, last_at}

first_of : (a b c d : Bool) → (a && b && c && d) ≡ true → a ≡ true
first_of a b c d e = grind (arith, e)

third_of : (a b c d : Bool) → (a && b && c && d) ≡ true → c ≡ true
third_of a b c d e = grind (arith, e)

fourth_of : (a b c d : Bool) → (a && b && c && d) ≡ true → d ≡ true
fourth_of a b c d e = grind (arith, e)

last_of : (a b c : Bool) → (a && b && c) ≡ true → c ≡ true
last_of a b c e = grind (arith, e)

left_of : (a b : Bool) → (a && b) ≡ true → a ≡ true
left_of a b e = grind (arith, e)

right_of : (a b : Bool) → (a && b) ≡ true → b ≡ true
right_of a b e = grind (arith, e)

-- a day that is the day of a moment
early : (m : ℕ) (offset d : ℤ) → m ≤ 99_999_999_999 → IsOffset offset → int_eq d (day_of m offset) ≡ true → IsEarlyDay d
early m offset d le h e =
    let low : d ≤ℤ day_of m offset = grind (arith, ints, e) in
    let high : day_of m offset ≤ℤ d = grind (arith, ints, e) in
    (omega (arith, signed_arith, low, high), omega (arith, signed_arith, low, high))

-- moments do not fall
not_before : (days : Reckoning) (time : ℕ) (before es : List Entry) → legal_from days time before es ≡ true → time ≤ last_at time es
not_before days time before [] legal = omega arith
not_before days time before (e ∷ es) legal =
    let here : is_next days time before e ≡ true = left_of _ _ legal in
    let rest : legal_from days e.at (before ++ e ∷ []) es ≡ true = right_of _ _ legal in
    let le : nat_le time e.at ≡ true = first_of _ _ _ _ here in
    let later : e.at ≤ last_at e.at es = not_before days e.at (before ++ e ∷ []) es rest in
    let now : time ≤ e.at = grind (arith, nat_tests, le) in
    omega (arith, now, later)

-- no later entry is a submission
no_submission : (days : Reckoning) (time : ℕ) (before : List Entry) (at : ℕ) (by : Actor) (d : Deed) → is_next days time before (record { at = at; by = by; deed = d }) ≡ true → submission_in d ≡ None
no_submission days time before at by (deeds.Submitted ack_due answers context expires feedback_due form mark readers receipt received_ version) h =
    absurd (let bad : false ≡ true = fourth_of (nat_le time at) (right_actor (deeds.Submitted ack_due answers context expires feedback_due form mark readers receipt received_ version) by) (right_values days before at (deeds.Submitted ack_due answers context expires feedback_due form mark readers receipt received_ version)) false h in grind (arith, bad))
no_submission days time before at by deeds.Identity h = refl
no_submission days time before at by d h = refl

received_stays : (days : Reckoning) (time : ℕ) (before es : List Entry) (x : ℤ) → legal_from days time before es ≡ true → fold (λ y (e : Entry). unwrap_or (option_map (λ (s : Submission). s.received) (submission_in e.deed)) y) x es ≡ x
received_stays days time before [] x legal = refl
received_stays days time before (e ∷ es) x legal =
    let here : submission_in e.deed ≡ None = no_submission days time before e.at e.by e.deed (left_of _ _ legal) in
    ap (λ o. fold (λ y (z : Entry). unwrap_or (option_map (λ (s : Submission). s.received) (submission_in z.deed)) y) (unwrap_or (option_map (λ (s : Submission). s.received) o) x) es) here
    ∙ received_stays days e.at (before ++ e ∷ []) es x (right_of _ _ legal)

-- the day of an acknowledgement is that of its moment
acknowledged_at : (days : Reckoning) (time : ℕ) (before : List Entry) (at : ℕ) (by : Actor) (d : Deed) (x : Option ℤ) → IsOffset days.offset → at ≤ 99_999_999_999 → is_next days time before (record { at = at; by = by; deed = d }) ≡ true → IfSome x IsEarlyDay → IfSome (unwrap_or (acknowledged_in d) x) IsEarlyDay
acknowledged_at days time before at by (deeds.Acknowledged day feedback_due) x h le legal is =
    early at days.offset day le h (left_of _ _ (third_of (nat_le time at) (right_actor (deeds.Acknowledged day feedback_due) by) (right_values days before at (deeds.Acknowledged day feedback_due)) (is_free before (user_by by) (done before (deeds.Acknowledged day feedback_due))) legal))
acknowledged_at days time before at by deeds.Identity x h le legal is = is
acknowledged_at days time before at by d x h le legal is = is

acknowledged_stays : (days : Reckoning) (time : ℕ) (before es : List Entry) (x : Option ℤ) → IsOffset days.offset → last_at time es ≤ 99_999_999_999 → legal_from days time before es ≡ true → IfSome x IsEarlyDay → IfSome (fold (λ y (e : Entry). unwrap_or (acknowledged_in e.deed) y) x es) IsEarlyDay
acknowledged_stays days time before [] x h le legal is = is
acknowledged_stays days time before (e ∷ es) x h le legal is =
    let rest : legal_from days e.at (before ++ e ∷ []) es ≡ true = right_of _ _ legal in
    let later : e.at ≤ last_at e.at es = not_before days e.at (before ++ e ∷ []) es rest in
    acknowledged_stays days e.at (before ++ e ∷ []) es _ h le rest (acknowledged_at days time before e.at e.by e.deed x h (omega (arith, later, le)) (left_of _ _ legal) is)

-- ---- the whole

received_first : (days : Reckoning) (at : ℕ) (by : Actor) (d : Deed) → IsOffset days.offset → at ≤ 99_999_999_999 → is_first days (record { at = at; by = by; deed = d }) ≡ true → (x : ℤ) → IsEarlyDay (unwrap_or (option_map (λ (s : Submission). s.received) (submission_in d)) x)
received_first days at by (deeds.Submitted ack_due answers context expires feedback_due form mark readers receipt received_ version) h le is x =
    let values = last_of true (right_actor (deeds.Submitted ack_due answers context expires feedback_due form mark readers receipt received_ version) by) (right_values days [] at (deeds.Submitted ack_due answers context expires feedback_due form mark readers receipt received_ version)) is in
    early at days.offset received_ le h (grind (arith, values))
received_first days at by deeds.Identity h le is x = absurd (grind (arith, is))
received_first days at by d h le is x = absurd (grind (arith, is))

pub received_early : (days : Reckoning) (trail : List Entry) → IsOffset days.offset → last_at 0 trail ≤ 99_999_999_999 → is_legal days trail ≡ true → IsEarlyDay (received trail)
received_early days [] h le legal = absurd (grind (arith, legal))
received_early days (e ∷ es) h le legal =
    let rest : legal_from days e.at (e ∷ []) es ≡ true = right_of _ _ legal in
    let later : e.at ≤ last_at e.at es = not_before days e.at (e ∷ []) es rest in
    subst IsEarlyDay (sym (received_stays days e.at (e ∷ []) es _ rest)) (received_first days e.at e.by e.deed h (omega (arith, later, le)) (left_of _ _ legal) _)

none_first : (days : Reckoning) (at : ℕ) (by : Actor) (d : Deed) → is_first days (record { at = at; by = by; deed = d }) ≡ true → IfSome (unwrap_or (acknowledged_in d) None) IsEarlyDay
none_first days at by (deeds.Acknowledged day feedback_due) is = absurd (grind (arith, is))
none_first days at by deeds.Identity is = tt
none_first days at by d is = tt

pub acknowledged_early : (days : Reckoning) (trail : List Entry) → IsOffset days.offset → last_at 0 trail ≤ 99_999_999_999 → is_legal days trail ≡ true → IfSome (acknowledged trail) IsEarlyDay
acknowledged_early days [] h le legal = absurd (grind (arith, legal))
acknowledged_early days (e ∷ es) h le legal =
    acknowledged_stays days e.at (e ∷ []) es _ h le (right_of _ _ legal) (none_first days e.at e.by e.deed (left_of _ _ legal))
