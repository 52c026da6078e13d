-- What is not refused is legal: an act, a move, and a submission.
use Rattle.std.proofs.Common.{◌≡◌, ℕ, ◌+◌, ◌≤◌, Bool, true, false, cond, not, eqb, List, [], ◌∷◌, ◌++◌, append-nil, append_assoc, Option, Some, None, refl, sym, ap, ◌∙◌, subst, arith, ℤ, int_eq, int_lt, pos, ◌+ℤ◌, option_map}
use Rattle.std.specs.Prelude.{◌≤ℤ◌}
use Rattle.std.specs.Prelude.{is_some, nat_le, ◌&&◌, ◌||◌, ◌*◌, ◌-◌, ◌%◌, length}
use Rattle.std.specs.Int.{int_max}
use Rattle.std.specs.Option.{option_or, option_map_or}
use Rattle.std.proofs.lemmas.Int.{int_max_is, ints}
use Rattle.std.proofs.lemmas.Bool.Decides.{nat_tests}
use Rattle.jiff_core.proofs.SignedLemmas.{signed_arith}
use Rattle.wb_base.specs.Days.{day_of}
use Rattle.wb_base.specs.Terms as terms
use Rattle.wb_model.specs.declared.access.AccessRequest.{AccessRequest}
use Rattle.wb_model.specs.declared.access.State.{State}
use Rattle.wb_model.specs.declared.access.State.TheVariants.{Waiting, Granted, Denied, Revoked, Ended}
use Rattle.wb_model.specs.declared.act.Act.{Act}
use Rattle.wb_model.specs.declared.act.Act.TheVariants as acts
use Rattle.wb_model.specs.declared.act.Move.{Move}
use Rattle.wb_model.specs.declared.act.Move.TheVariants as moves
use Rattle.wb_model.specs.declared.act.CaseFault.{CaseFault}
use Rattle.wb_model.specs.declared.act.CustodyFault.{CustodyFault}
use Rattle.wb_model.specs.declared.act.CustodyFault.TheVariants as custody
use Rattle.wb_model.specs.declared.body.Told.{Told}
use Rattle.wb_model.specs.declared.entry.Actor.{Actor}
use Rattle.wb_model.specs.declared.entry.Entry.{Entry}
use Rattle.wb_model.specs.declared.registry.ContextItem.{ContextItem}
use Rattle.wb_model.specs.declared.registry.FormItem.{FormItem}
use Rattle.wb_model.specs.Access.{requests, request_at, state_now, ended_state, is_waiting, is_granted, user_by}
use Rattle.wb_model.specs.Trails.{received, acknowledged, is_extended, expires, has_identity}
use Rattle.wb_model.specs.Tables.{Registry}
use Rattle.wb_model.specs.Faults.{case_told, custody_told}
use Rattle.wb_model.specs.Acts.{closed, same_context, context_closed, not_external, extended, full, case_fault, act_deed}
use Rattle.wb_model.specs.Moves.{unless_state, decided, custody_fault, effective, move_deed}
use Rattle.wb_model.specs.Changes.{TurnContext}
use Rattle.wb_model.specs.Requests.{Outcome}
use Rattle.wb_model.specs.Submissions.{submission_entry}
use Rattle.wb_model.specs.Doings.{Doing, Acts, Moves, doing_fault, doing_deed}
use Rattle.wb_model.specs.Legal.{Reckoning, reckoning, is_reporter, is_within, are_readers, is_effective, is_first, is_next, legal_from, is_legal, last_at, AsksRightly}
use Rattle.wb_model.proofs.Drawn.{same_day}
use Rattle.wb_base.proofs.Options.{first_none}

-- ---- parts

told_none : {F : Type 0} (f : F → Told) (o : Option F) → option_map f o ≡ None → o ≡ None
told_none f None e = refl
told_none f (Some x) e = absurd (grind (arith, e))

no_fault : {F : Type 0} (f : F → Told) (o : Option F) → o ≡ None → not (is_some (option_map f o)) ≡ true
no_fault f o e = ap (λ x. not (is_some (option_map f x))) e

four : (a b c d : Bool) → a ≡ true → b ≡ true → c ≡ true → d ≡ true → (a && b && c && d) ≡ true
four a b c d e f g h = grind (arith, e, f, g, h)

user_right : (b : Bool) → b ≡ false → not b ≡ true
user_right b e = ap not e

-- what is after a day that the second is not after is the first
beyond : (a b c : ℤ) → b ≤ℤ c → int_eq (int_max a b) a ≡ false → int_lt c (int_max a b) ≡ true → ⊥
beyond a b c le f g = let m = int_max_is a b in grind (arith, ints, le, f, g, m)

-- the later of an old day and so many days from today
postponed_right : (old today : ℤ) (retention : ℕ) → retention ≤ 3_650 → (not (int_lt (int_max old (today +ℤ pos retention)) old) && (int_eq (int_max old (today +ℤ pos retention)) old || not (int_lt (today +ℤ pos 3_650) (int_max old (today +ℤ pos retention))))) ≡ true
postponed_right old today retention le = of (int_lt new old) (int_eq new old) (int_lt (today +ℤ pos 3_650) new) refl refl refl
  where
    new : ℤ
    new = int_max old (today +ℤ pos retention)

    of : (a b c : Bool) → int_lt (int_max old (today +ℤ pos retention)) old ≡ a → int_eq (int_max old (today +ℤ pos retention)) old ≡ b → int_lt (today +ℤ pos 3_650) (int_max old (today +ℤ pos retention)) ≡ c → (not a && (b || not c)) ≡ true
    of false true c e f g = refl
    of false false false e f g = refl
    of true b c e f g = absurd (let m = int_max_is old (today +ℤ pos retention) in omega (arith, ints, signed_arith, le, e, m))
    of false false true e f g = absurd (beyond old (today +ℤ pos retention) (today +ℤ pos 3_650) (omega (arith, signed_arith, le)) f g)

was_open : (a b d : Option CaseFault) (is_open : Bool) → option_or a (option_or b (option_or (context_closed is_open) d)) ≡ None → is_open ≡ true
was_open (Some x) b d is_open e = absurd (grind (arith, e))
was_open None (Some x) d is_open e = absurd (grind (arith, e))
was_open None None d false e = absurd (grind (arith, e))
was_open None None d true e = refl

-- ---- acts

was_external : (o p : Option CaseFault) (external : Bool) → option_or o (option_or (not_external external) p) ≡ None → external ≡ true
was_external o p true free = refl
was_external None p false free = absurd (grind (arith, free))
was_external (Some x) p false free = absurd (grind (arith, free))

act_legal : (days : Reckoning) (last time : ℕ) (trail : List Entry) (by : Actor) (act : Act) → last ≤ time → AsksRightly days time by (Acts act) → case_fault trail act ≡ None → is_next days last trail (record { at = time; by = by; deed = act_deed days.calendar trail act }) ≡ true
act_legal days last time trail by (acts.Comment internal text) le asks free = four _ _ _ _ (grind (arith, nat_tests, le)) refl refl (no_fault case_told _ free)
act_legal days last time trail by (acts.Acknowledge today) le asks free =
    four _ _ _ _ (grind (arith, nat_tests, le)) (user_right (is_reporter by) asks.0)
    (ap (λ b. b && int_eq (terms.feedback_due (received trail) (Some today) (is_extended trail) days.calendar) (terms.feedback_due (received trail) (Some today) (is_extended trail) days.calendar)) (same_day today (day_of time days.offset) asks.1) ∙ same_day (terms.feedback_due (received trail) (Some today) (is_extended trail) days.calendar) (terms.feedback_due (received trail) (Some today) (is_extended trail) days.calendar) refl)
    (no_fault case_told _ free)
act_legal days last time trail by (acts.Transfer context is_open readers) le asks free =
    let open_is : is_open ≡ true = was_open (closed trail) (same_context context trail) (full trail) is_open free in
    four _ _ _ _ (grind (arith, nat_tests, le)) (user_right (is_reporter by) asks.0) asks.1
    (no_fault case_told _ (ap (λ b. case_fault trail (acts.Transfer context b readers)) (sym open_is) ∙ free))
act_legal days last time trail by (acts.Postpone today retention) le asks free =
    four _ _ _ _ (grind (arith, nat_tests, le)) (user_right (is_reporter by) asks.0)
    (subst (λ day. (not (int_lt (int_max (expires trail) (today +ℤ pos retention)) (expires trail)) && (int_eq (int_max (expires trail) (today +ℤ pos retention)) (expires trail) || not (int_lt (day +ℤ pos 3_650) (int_max (expires trail) (today +ℤ pos retention))))) ≡ true) asks.1 (postponed_right (expires trail) today retention asks.2))
    (no_fault case_told _ free)
act_legal days last time trail by (acts.Extend reason external) le asks free =
    let external_is : external ≡ true = was_external (closed trail) (option_or (extended trail) (full trail)) external free in
    let due : ℤ = terms.feedback_due (received trail) (acknowledged trail) true days.calendar in
    four _ _ _ _ (grind (arith, nat_tests, le)) (user_right (is_reporter by) asks) (same_day due due refl)
    (no_fault case_told _ (ap (λ b. case_fault trail (acts.Extend reason b)) (sym external_is) ∙ free))
act_legal days last time trail by acts.Identity le asks free = four _ _ _ _ (grind (arith, nat_tests, le)) asks refl (no_fault case_told _ free)
act_legal days last time trail by _ le asks free = four _ _ _ _ (grind (arith, nat_tests, le)) (user_right (is_reporter by) asks) refl (no_fault case_told _ free)

-- ---- moves

waiting_own : (r : AccessRequest) (stamp : ℕ) → is_waiting (state_now stamp r) ≡ true → is_waiting (state_now r.stamp r) ≡ true
waiting_own r stamp e = ap (λ b. is_waiting (cond b r.state (ended_state r.state))) (let k : eqb r.stamp r.stamp ≡ true = grind (arith, nat_tests) in k) ∙ by (eqb r.stamp stamp) r.state e
  where
    by : (b : Bool) (s : State) → is_waiting (cond b s (ended_state s)) ≡ true → is_waiting s ≡ true
    by true s f = f
    by false Waiting f = absurd (grind (arith, f))
    by false Granted f = absurd (grind (arith, f))
    by false Denied f = absurd (grind (arith, f))
    by false Revoked f = absurd (grind (arith, f))
    by false Ended f = absurd (grind (arith, f))

granted_own : (r : AccessRequest) (stamp : ℕ) → is_granted (state_now stamp r) ≡ true → is_granted (state_now r.stamp r) ≡ true
granted_own r stamp e = ap (λ b. is_granted (cond b r.state (ended_state r.state))) (let k : eqb r.stamp r.stamp ≡ true = grind (arith, nat_tests) in k) ∙ by (eqb r.stamp stamp) r.state e
  where
    by : (b : Bool) (s : State) → is_granted (cond b s (ended_state s)) ≡ true → is_granted s ≡ true
    by true s f = f
    by false Waiting f = absurd (grind (arith, f))
    by false Granted f = absurd (grind (arith, f))
    by false Denied f = absurd (grind (arith, f))
    by false Revoked f = absurd (grind (arith, f))
    by false Ended f = absurd (grind (arith, f))

-- a request that has the state by the present stamp has it by its own
own_state : (right : State → Bool) (fault : State → CustodyFault) (stamp : ℕ) (o : Option AccessRequest) → ((r : AccessRequest) → right (state_now stamp r) ≡ true → right (state_now r.stamp r) ≡ true) →
    unless_state right fault stamp o ≡ None → unless_state right fault (option_map_or (λ (r : AccessRequest). r.stamp) o 0) o ≡ None
own_state right fault stamp None up e = absurd (grind (arith, e))
own_state right fault stamp (Some r) up e = ap (λ b. cond b None (Some (fault (state_now r.stamp r)))) (up r (by (right (state_now stamp r)) e))
  where
    by : (b : Bool) → cond b None (Some (fault (state_now stamp r))) ≡ None → b ≡ true
    by true f = refl
    by false f = absurd (grind (arith, f))

both_none : {F : Type 0} (a b : Option F) → a ≡ None → b ≡ None → option_or a b ≡ None
both_none a b e f = ap (λ x. option_or x b) e ∙ f

granted_days : (time n : ℕ) (withheld : Option (List ℕ)) → n ≤ 30 → is_effective time (effective time n withheld) withheld ≡ true
granted_days time n (Some text) le = grind (arith, nat_tests)
granted_days time n None le =
    let after : nat_le time (time + 86_400 * n) ≡ true = grind (arith, nat_tests) in
    let gap : (time + 86_400 * n) - time ≡ 86_400 * n = omega arith in
    let most : nat_le ((time + 86_400 * n) - time) (86_400 * 30) ≡ true = ap (λ k. nat_le k (86_400 * 30)) gap ∙ grind (arith, nat_tests, le) in
    let days : (86_400 * n) % 86_400 ≡ 0 = omega arith in
    let whole : eqb (((time + 86_400 * n) - time) % 86_400) 0 ≡ true = ap (λ k. eqb (k % 86_400) 0) gap ∙ ap (λ k. eqb k 0) days in
    rw (after, most, whole) refl

move_legal : (days : Reckoning) (last time : ℕ) (trail : List Entry) (by : Actor) (move : Move) → last ≤ time → AsksRightly days time by (Moves move) → custody_fault (length trail) (has_identity trail) (requests trail) (user_by by) move ≡ None →
    is_next days last trail (record { at = time; by = by; deed = move_deed time move }) ≡ true
move_legal days last time trail by (moves.Ask reason stamp) le asks free = four _ _ _ _ (grind (arith, nat_tests, le)) (user_right (is_reporter by) asks) refl (no_fault custody_told _ free)
move_legal days last time trail by (moves.Grant request stamp notice_days reason withheld) le asks free =
    let rules = first_none (decided request stamp (requests trail)) (Rattle.wb_model.specs.Moves.full (length trail)) free in
    four _ _ _ _ (grind (arith, nat_tests, le)) (user_right (is_reporter by) asks.0) (granted_days time notice_days withheld asks.1)
    (no_fault custody_told _ (both_none _ (Rattle.wb_model.specs.Moves.full (length trail)) (own_state is_waiting (λ state. custody.Decided state) stamp (request_at request (requests trail)) (λ r. waiting_own r stamp) rules.0) rules.1))
move_legal days last time trail by (moves.Deny request stamp reason) le asks free =
    four _ _ _ _ (grind (arith, nat_tests, le)) (user_right (is_reporter by) asks) refl (no_fault custody_told _ (own_state is_waiting (λ state. custody.Decided state) stamp (request_at request (requests trail)) (λ r. waiting_own r stamp) free))
move_legal days last time trail by (moves.Revoke request stamp reason) le asks free =
    four _ _ _ _ (grind (arith, nat_tests, le)) (user_right (is_reporter by) asks) refl (no_fault custody_told _ (own_state is_granted (λ state. custody.NotGranted state) stamp (request_at request (requests trail)) (λ r. granted_own r stamp) free))

-- what is not refused is legal
pub doing_legal : (days : Reckoning) (last time : ℕ) (trail : List Entry) (by : Actor) (d : Doing) → last ≤ time → AsksRightly days time by d → doing_fault trail (user_by by) d ≡ None → is_next days last trail (record { at = time; by = by; deed = doing_deed days.calendar time trail d }) ≡ true
doing_legal days last time trail by (Acts act) le asks free = act_legal days last time trail by act le asks (told_none case_told _ free)
doing_legal days last time trail by (Moves move) le asks free = move_legal days last time trail by move le asks (told_none custody_told _ free)

-- ---- submissions

within : (day : ℤ) (n : ℕ) → 1 ≤ n → n ≤ 3_650 → is_within day 1 3_650 (day +ℤ pos n) ≡ true
within day n least most = of (int_lt (day +ℤ pos n) (day +ℤ pos 1)) (int_lt (day +ℤ pos 3_650) (day +ℤ pos n)) refl refl
  where
    of : (a b : Bool) → int_lt (day +ℤ pos n) (day +ℤ pos 1) ≡ a → int_lt (day +ℤ pos 3_650) (day +ℤ pos n) ≡ b → (not a && not b) ≡ true
    of false false e f = refl
    of true b e f = absurd (omega (arith, signed_arith, least, e))
    of false true e f = absurd (omega (arith, signed_arith, most, f))

five : (a b c d e : Bool) → a ≡ true → b ≡ true → c ≡ true → d ≡ true → e ≡ true → (a && b && c && d && e) ≡ true
five a b c d e f g h i j = grind (arith, f, g, h, i, j)

pub submission_legal : (at : TurnContext) (g : Registry) (o : Outcome) (c : ContextItem) (form : FormItem) → 1 ≤ c.retention → c.retention ≤ 3_650 → are_readers c.recipients ≡ true → is_first (reckoning g.settings) (submission_entry at g o c form) ≡ true
unfolding submission_entry
submission_legal at g o c form least most readers =
    let today : ℤ = day_of at.time g.settings.offset in
    five _ _ _ _ _ (same_day today today refl) (same_day (terms.ack_due today g.settings.calendar) (terms.ack_due today g.settings.calendar) refl) (same_day (terms.feedback_due today None false g.settings.calendar) (terms.feedback_due today None false g.settings.calendar) refl) (within today c.retention least most) readers

-- ---- trails

both : (a b : Bool) → (a && b) ≡ true → (a ≡ true) × (b ≡ true)
both true true e = (refl, refl)
both true false e = absurd (grind (arith, e))
both false b e = absurd (grind (arith, e))

legal_more : (days : Reckoning) (time : ℕ) (before es : List Entry) (e : Entry) → legal_from days time before es ≡ true → is_next days (last_at time es) (before ++ es) e ≡ true → legal_from days time before (es ++ e ∷ []) ≡ true
legal_more days time before [] e legal next = ap (λ b. b && true) (ap (λ xs. is_next days time xs e) (sym (append-nil before)) ∙ next)
legal_more days time before (x ∷ es) e legal next =
    let parts = both (is_next days time before x) (legal_from days x.at (before ++ x ∷ []) es) legal in
    ap (λ b. b && legal_from days x.at (before ++ x ∷ []) (es ++ e ∷ [])) parts.0
    ∙ legal_more days x.at (before ++ x ∷ []) es e parts.1 (ap (λ xs. is_next days (last_at x.at es) xs e) (append_assoc before (x ∷ []) es) ∙ next)

-- a legal trail stays legal
pub trail_more : (days : Reckoning) (es : List Entry) (e : Entry) → is_legal days es ≡ true → is_next days (last_at 0 es) es e ≡ true → is_legal days (es ++ e ∷ []) ≡ true
trail_more days [] e legal next = absurd (grind (arith, legal))
trail_more days (x ∷ es) e legal next =
    let parts = both (is_first days x) (legal_from days x.at (x ∷ []) es) legal in
    ap (λ b. b && legal_from days x.at (x ∷ []) (es ++ e ∷ [])) parts.0 ∙ legal_more days x.at (x ∷ []) es e parts.1 next
