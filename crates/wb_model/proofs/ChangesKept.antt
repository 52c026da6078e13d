-- A turn keeps what a tenant's tables keep so that their rows are read back.
use Rattle.std.proofs.Common.{◌≡◌, ◌≢◌, ◌⊎◌, inl, inr, ℕ, ◌+◌, ◌≤◌, Bool, true, false, cond, not, List, [], ◌∷◌, ◌++◌, length, Option, Some, None, refl, sym, ap, ◌∙◌, subst, arith}
use Rattle.std.specs.Prelude.{map, find, filter, is_some, is_none, nat_lt, nat_le, ◌<◌, ◌&&◌, ◌||◌, ◌==◌}
use Rattle.std.specs.List.{list_all}
use Rattle.std.specs.Option.{option_map_or, option_or}
use Rattle.std.proofs.lemmas.Bool.{and_parts, and_from}
use Rattle.std.proofs.lemmas.Bool.Decides.{nat_tests}
use Rattle.std.proofs.lemmas.List.Folds.{list_all-append}
use Rattle.wb_base.specs.declared.callers.Presented.{Presented}
use Rattle.wb_base.specs.AnswerList.{Answered}
use Rattle.wb_base.specs.declared.answers.Given.{Given}
use Rattle.wb_base.specs.AnswerFaults.{is_marked, sealed_of, public_of, identity_fault}
use Rattle.wb_base.specs.Secrets.{receipt_text}
use Rattle.wb_model.specs.declared.body.Told.{Told}
use Rattle.wb_model.specs.declared.command.Asked.{Asked}
use Rattle.wb_model.specs.declared.command.Command.{Command}
use Rattle.wb_model.specs.declared.command.Command.TheVariants as commands
use Rattle.wb_model.specs.declared.entry.Entry.{Entry}
use Rattle.wb_model.specs.declared.registry.ContextItem.{ContextItem}
use Rattle.wb_model.specs.declared.registry.FormItem.{FormItem}
use Rattle.wb_model.specs.declared.registry.UserItem.{UserItem}
use Rattle.wb_model.specs.Trails as trails
use Rattle.wb_model.specs.Trails.{Submission, submission_in}
use Rattle.wb_model.specs.Commands.{Anyone, need, tenant_of, is_submission, is_login, fits_command, effect_of}
use Rattle.wb_model.specs.Tables.{Registry, Plain, Case, Session, Who, TheUser, TheReporter, user, context, is_live, is_there, lasts, has_number, others, newest_form, same_role}
use Rattle.wb_model.specs.Targets.{Target, Nobody, Alone, On, target, trail_at}
use Rattle.wb_model.specs.Requests.{Outcome, Unchecked, request, outcome, outline, secret_of, sealed_part, submission_outcome, submission_secret, submission_fault, late_fault, mark, public, secret}
use Rattle.wb_model.specs.AskingForms.{asking_form, open_form, form_of_trail}
use Rattle.wb_model.specs.Settings.{Setting, form_key, setting_of}
use Rattle.wb_model.specs.Refusals.{numbers_spent}
use Rattle.wb_model.specs.Refusing.{refuses_where}
use Rattle.wb_model.specs.Ordered.{are_ordered}
use Rattle.wb_model.specs.SetUps.{is_form_item}
use Rattle.wb_model.specs.Fits.{is_between, is_path_number}
use Rattle.wb_base.specs.FormFaults.{is_good}
use Rattle.wb_model.specs.KeptRules.{has_public_answers, are_valid_after}
use Rattle.wb_model.specs.Changes.{TurnContext, Change, Nothing, Draws, Begins, Notes, Deletes, LogsIn, LogsOut, Configures, Answer, judged}
use Rattle.wb_model.specs.Submissions.{outcome_refusal, drawing, submission_entry}
use Rattle.wb_model.specs.Effects.{Effect, Writes, Submits, Comes, Sets, comes}
use Rattle.wb_model.specs.OnReports.{refusal_on, change_on}
use Rattle.wb_model.specs.Rules.{refusal_alone, change_alone, verdict_on}
use Rattle.wb_model.specs.Host.{Sealed, Tables, purged, live_cases, noted, registry_after, remaining, ends, sealed_under, changed, change_of, ruling, tables_after}
use Rattle.wb_model.specs.Legal.{ascends}
use Rattle.wb_model.specs.Opened.{Ascend, AtMost, AreOrdered}
use Rattle.wb_model.specs.AnswerRanges.{are_answers, is_id_before, is_answer}
use Rattle.wb_model.specs.Readable.{is_count, is_own_form, IsOwn, is_entry_of, are_sealed, is_readable_trail, is_readable, is_right_session, AreReadable}
use Rattle.wb_model.proofs.Found.{Held, decide, find_true, other_number, held_filter}
use Rattle.wb_model.proofs.Effects.{IsToldBy, found_is, in_open_is, told, outlined}
use Rattle.wb_model.proofs.Callers.{Called, target_called}
use Rattle.wb_model.proofs.CallerRoles.{Roles, target_roles}
use Rattle.wb_model.proofs.ItemPuts.{held_all, all_held, all_more, role_own, is_version, key_in, own_version}
use Rattle.wb_model.proofs.SettingsKeep.{setting_grows, setting_own, cases_stay, sessions_stay, Keeps}
use Rattle.wb_model.proofs.SettingsRight.{PutsSetting, proposal_right, digest_right, newest_held}
use Rattle.wb_model.proofs.DeedsKept.{Written, effect_written, filter_all, context_recipients}
use Rattle.wb_model.proofs.Fitting.{target_held}
use Rattle.wb_model.proofs.LegalTurns.{one_case}
use Rattle.wb_model.proofs.KeptForms.{doing_silent, silent_part, form_more}
use Rattle.wb_model.proofs.PublicParts.{public_valid, sealed_valid, public_unmarked, some_sealed}
use Rattle.wb_base.proofs.Options.{first_none, mapped_none}

-- ---- a change

-- what a change puts in keeps the rules
abbrev pub Puts : ℕ → Plain → Change → Option Answered → Type 0
Puts t p (Begins e) given = (is_readable_trail p.registry (e ∷ []) given ≡ true) × (p.numbering.last + 1 ≤ 4_294_967_295)
Puts t p (Notes n e) given = (is_entry_of p.registry e ≡ true) × (submission_in e.deed ≡ None) × (are_sealed given ≡ true) × ((c : Case) → Held c p.cases → c.number ≡ n → are_valid_after p.registry.forms c.trail given ≡ true)
Puts t p Draws given = p.numbering.last + 1 ≤ 4_294_967_295
Puts t p (LogsIn s) given = is_right_session p.registry.users s ≡ true
Puts t p (Configures s) given = Keeps t p.registry s
Puts t p (Deletes n) given = Unit {0}
Puts t p Nothing given = Unit {0}
Puts t p (LogsOut turn who) given = Unit {0}

pushed_all : {X : Type 0} (p : X → Bool) (xs : List X) (x : X) → list_all p xs ≡ true → p x ≡ true → list_all p (xs ++ x ∷ []) ≡ true
pushed_all p xs x all is = list_all-append p xs (x ∷ []) ∙ and_from _ _ all (and_from _ _ is refl)

counted : (n : ℕ) → n ≤ 4_294_967_295 → is_count n ≡ true
counted n le = grind (arith, nat_tests, le)

none_above : (k n : ℕ) (cs : List Case) → AtMost k cs → k < n → is_there n cs ≡ false
none_above k n [] most lt = refl
none_above k n (c ∷ cs) most lt = ap (λ b. b || is_there n cs) (other_number c.number n (λ e. let le : c.number ≤ k = most.0 in omega (arith, le, lt, e))) ∙ none_above k n cs most.1 lt

held_most : (k : ℕ) (cs : List Case) (c : Case) → AtMost k cs → Held c cs → c.number ≤ k
held_most k [] c most h = absurd h
held_most k (d ∷ cs) c most (inl e) = subst (λ (x : Case). x.number ≤ k) (sym e) most.0
held_most k (d ∷ cs) c most (inr h) = held_most k cs c most.1 h

-- a trail with one more entry that is no submission
trail_more : (g : Registry) (trail : List Entry) (e : Entry) (given before : Option Answered) → is_entry_of g e ≡ true → submission_in e.deed ≡ None → are_sealed given ≡ true → are_valid_after g.forms trail given ≡ true →
    is_readable_trail g trail before ≡ true → (after : Option Answered) → (after ≡ given) ⊎ (after ≡ before) → is_readable_trail g (trail ++ e ∷ []) after ≡ true
trail_more g trail e given before one silent good valid is after which =
    let a = and_parts (list_all (is_entry_of g) trail && has_public_answers g.forms trail && are_valid_after g.forms trail before) (are_sealed before) is in
    let b = and_parts (list_all (is_entry_of g) trail && has_public_answers g.forms trail) (are_valid_after g.forms trail before) a.0 in
    let c = and_parts (list_all (is_entry_of g) trail) (has_public_answers g.forms trail) b.0 in
    and_from _ _ (and_from _ _ (and_from _ _ (pushed_all (is_entry_of g) trail e c.0 one) (public_more c.1)) (after_valid which b.1)) (after_sealed which a.1)
  where
    same_form : form_of_trail (trail ++ e ∷ []) g.forms ≡ form_of_trail trail g.forms
    same_form = form_more g.forms e trail silent

    same_answers : trails.answers (trail ++ e ∷ []) ≡ trails.answers trail
    same_answers = silent_part (λ (s : Submission). s.answers) [] e trail silent

    public_more : has_public_answers g.forms trail ≡ true → has_public_answers g.forms (trail ++ e ∷ []) ≡ true
    public_more h = (λ i. option_map_or (λ (x : FormItem). is_none (submission_fault x.form (same_answers i)) && not (mark x.form (same_answers i))) (same_form i) false) ∙ h

    valid_more : (o : Option Answered) → are_valid_after g.forms trail o ≡ true → are_valid_after g.forms (trail ++ e ∷ []) o ≡ true
    valid_more None h = refl
    valid_more (Some x) h = (λ i. not (length x == 0) && option_map_or (λ (y : FormItem). is_none (late_fault y.form (same_answers i) x)) (same_form i) false) ∙ h

    after_valid : (after ≡ given) ⊎ (after ≡ before) → are_valid_after g.forms trail before ≡ true → are_valid_after g.forms (trail ++ e ∷ []) after ≡ true
    after_valid (inl k) h = valid_more after (ap (are_valid_after g.forms trail) k ∙ valid)
    after_valid (inr k) h = valid_more after (ap (are_valid_after g.forms trail) k ∙ h)

    after_sealed : (after ≡ given) ⊎ (after ≡ before) → are_sealed before ≡ true → are_sealed after ≡ true
    after_sealed (inl k) h = ap are_sealed k ∙ good
    after_sealed (inr k) h = ap are_sealed k ∙ h

under_here : (n k : ℕ) (given : Option Answered) (sealed : Sealed) → (sealed_under n given sealed k ≡ given) ⊎ (sealed_under n given sealed k ≡ sealed k)
under_here n k None sealed = inr refl
under_here n k (Some x) sealed = by (k == n)
  where
    by : (b : Bool) → (cond b (Some x) (sealed k) ≡ Some x) ⊎ (cond b (Some x) (sealed k) ≡ sealed k)
    by true = inl refl
    by false = inr refl

under_away : (n k : ℕ) (given : Option Answered) (sealed : Sealed) → k ≢ n → sealed_under n given sealed k ≡ sealed k
under_away n k None sealed ne = refl
under_away n k (Some x) sealed ne = ap (λ b. cond b (Some x) (sealed k)) (other_number k n ne)

under_own : (n : ℕ) (given : Option Answered) (sealed : Sealed) → sealed n ≡ None → sealed_under n given sealed n ≡ given
under_own n None sealed none = none
under_own n (Some x) sealed none = ap (λ b. cond b (Some x) (sealed n)) (let e : (n == n) ≡ true = grind (arith, nat_tests) in e)

-- the reports after one more
begun_all : (g : Registry) (sealed : Sealed) (last : ℕ) (e : Entry) (given : Option Answered) (cs : List Case) → AtMost last cs → sealed (last + 1) ≡ None → is_readable_trail g (e ∷ []) given ≡ true → list_all (is_readable g sealed) cs ≡ true →
    list_all (is_readable g (sealed_under (last + 1) given sealed)) (cs ++ record { number = last + 1; trail = e ∷ [] } ∷ []) ≡ true
begun_all g sealed last e given cs most none is all =
    let more : Sealed = sealed_under (last + 1) given sealed in
    pushed_all (is_readable g more) cs (record { number = last + 1; trail = e ∷ [] })
    (all_held (is_readable g more) cs (λ c h. ap (is_readable_trail g c.trail) (under_away (last + 1) c.number given sealed (λ same. let le : c.number ≤ last = held_most last cs c most h in omega (arith, le, same))) ∙ held_all (is_readable g sealed) cs c all h))
    (ap (is_readable_trail g (e ∷ [])) (under_own (last + 1) given sealed none) ∙ is)

-- the reports after one more entry
noted_all : (g : Registry) (sealed : Sealed) (n : ℕ) (e : Entry) (given : Option Answered) (cs ds : List Case) → is_entry_of g e ≡ true → submission_in e.deed ≡ None → are_sealed given ≡ true → ((c : Case) → Held c ds → c.number ≡ n → are_valid_after g.forms c.trail given ≡ true) →
    ((c : Case) → Held c cs → Held c ds) → list_all (is_readable g sealed) cs ≡ true → list_all (is_readable g (sealed_under n given sealed)) (map (noted n e) cs) ≡ true
noted_all g sealed n e given [] ds one silent good valid up all = refl
noted_all g sealed n e given (c ∷ cs) ds one silent good valid up all =
    let parts = and_parts (is_readable g sealed c) (list_all (is_readable g sealed) cs) all in
    and_from _ _ (by (decide c.number n) parts.0) (noted_all g sealed n e given cs ds one silent good valid (λ d h. up d (inr h)) parts.1)
  where
    by : (c.number ≡ n) ⊎ (c.number ≢ n) → is_readable g sealed c ≡ true → is_readable_trail g (cond (c.number == n) (c.trail ++ e ∷ []) c.trail) (sealed_under n given sealed c.number) ≡ true
    by (inl same) is =
        let here : (c.number == n) ≡ true = grind (arith, nat_tests, same) in
        ap (λ b. is_readable_trail g (cond b (c.trail ++ e ∷ []) c.trail) (sealed_under n given sealed c.number)) here
        ∙ trail_more g c.trail e given (sealed c.number) one silent good (valid c (up c (inl refl)) same) is (sealed_under n given sealed c.number) (under_here n c.number given sealed)
    by (inr away) is =
        ap (λ b. is_readable_trail g (cond b (c.trail ++ e ∷ []) c.trail) (sealed_under n given sealed c.number)) (other_number c.number n away)
        ∙ (ap (is_readable_trail g c.trail) (under_away n c.number given sealed away) ∙ is)

remaining_all : (p : Session → Bool) (ch : Change) (ss : List Session) → list_all p ss ≡ true → list_all p (remaining ch ss) ≡ true
remaining_all p ch ss all = filter_all p (λ s. not (ends ch ss s)) ss all

-- a trail is so without identity answers
dropped : (g : Registry) (trail : List Entry) (before : Option Answered) (b : Bool) → is_readable_trail g trail before ≡ true → is_readable_trail g trail (cond b None before) ≡ true
dropped g trail before false is = is
dropped g trail before true is =
    let a = and_parts (list_all (is_entry_of g) trail && has_public_answers g.forms trail && are_valid_after g.forms trail before) (are_sealed before) is in
    let b = and_parts (list_all (is_entry_of g) trail && has_public_answers g.forms trail) (are_valid_after g.forms trail before) a.0 in
    and_from _ _ (and_from _ _ b.0 refl) refl

-- the tables after a change that keeps the rules
pub changed_readable : (t now : ℕ) (x : Tables) (ch : Change) (given : Option Answered) → AreOrdered x.plain.registry → AtMost x.plain.numbering.last x.plain.cases → ((n : ℕ) → is_there n x.plain.cases ≡ false → x.sealed n ≡ None) →
    Puts t x.plain ch given → AreReadable t x → AreReadable t (changed now ch given x)
changed_readable t now x (Begins e) given order most unsealed puts is = record {
  registry = is.registry;
  last = counted (x.plain.numbering.last + 1) puts.1;
  cases = begun_all x.plain.registry x.sealed x.plain.numbering.last e given x.plain.cases most (unsealed (x.plain.numbering.last + 1) (none_above x.plain.numbering.last (x.plain.numbering.last + 1) x.plain.cases most (omega arith))) puts.0 is.cases;
  sessions = is.sessions;
}
changed_readable t now x (Notes n e) given order most unsealed puts is = record {
  registry = is.registry;
  last = is.last;
  cases = noted_all x.plain.registry x.sealed n e given x.plain.cases x.plain.cases puts.0 puts.1 puts.2 puts.3 (λ c h. h) is.cases;
  sessions = is.sessions;
}
changed_readable t now x Draws given order most unsealed puts is = record { registry = is.registry; last = counted (x.plain.numbering.last + 1) puts; cases = is.cases; sessions = is.sessions }
changed_readable t now x (LogsIn s) given order most unsealed puts is = record {
  registry = is.registry;
  last = is.last;
  cases = is.cases;
  sessions = pushed_all (is_right_session x.plain.registry.users) (remaining (LogsIn s) x.plain.sessions) s (remaining_all (is_right_session x.plain.registry.users) (LogsIn s) x.plain.sessions is.sessions) puts;
}
changed_readable t now x (LogsOut turn who) given order most unsealed puts is = record { registry = is.registry; last = is.last; cases = is.cases; sessions = remaining_all (is_right_session x.plain.registry.users) (LogsOut turn who) x.plain.sessions is.sessions }
changed_readable t now x (Configures s) given order most unsealed puts is =
    let grows = setting_grows t x.plain.registry s puts in
    let after : Registry = registry_after (Configures s) x.plain.registry in
    record {
      registry = setting_own t x.plain.registry s order puts is.registry;
      last = is.last;
      cases = cases_stay x.plain.registry after grows x.sealed x.plain.cases is.cases;
      sessions = sessions_stay x.plain.registry after grows (remaining (Configures s) x.plain.sessions) (remaining_all (is_right_session x.plain.registry.users) (Configures s) x.plain.sessions is.sessions);
    }
changed_readable t now x (Deletes n) given order most unsealed puts is = record {
  registry = is.registry;
  last = is.last;
  cases = all_more (is_readable x.plain.registry x.sealed) (is_readable x.plain.registry (λ k. cond (k == n) None (x.sealed k))) (others n x.plain.cases)
      (λ c k. dropped x.plain.registry c.trail (x.sealed c.number) (c.number == n) k) (filter_all (is_readable x.plain.registry x.sealed) (λ c. not (has_number n c)) x.plain.cases is.cases);
  sessions = remaining_all (is_right_session x.plain.registry.users) (Deletes n) x.plain.sessions is.sessions;
}
changed_readable t now x Nothing given order most unsealed puts is = record { registry = is.registry; last = is.last; cases = is.cases; sessions = is.sessions }

-- and those after a purge
held_there : (cs : List Case) (c : Case) → Held c cs → is_there c.number cs ≡ true
held_there [] c h = absurd h
held_there (d ∷ cs) c (inl e) = ap (λ b. b || is_there c.number cs) (let k : d.number ≡ c.number = ap (λ (x : Case). x.number) (sym e) in let b : (d.number == c.number) ≡ true = grind (arith, nat_tests, k) in b)
held_there (d ∷ cs) c (inr h) = by (d.number == c.number) (held_there cs c h)
  where
    by : (b : Bool) → is_there c.number cs ≡ true → (b || is_there c.number cs) ≡ true
    by true ih = refl
    by false ih = ih

pub purged_readable : (t now : ℕ) (x : Tables) → AreReadable t x → AreReadable t (purged now x)
purged_readable t now x is =
    let live : List Case = live_cases x.plain now in
    record {
      registry = is.registry;
      last = is.last;
      cases = all_held (is_readable x.plain.registry (λ n. cond (is_there n live) (x.sealed n) None)) live
          (λ c h. ap (λ b. is_readable_trail x.plain.registry c.trail (cond b (x.sealed c.number) None)) (held_there live c h) ∙ held_all (is_readable x.plain.registry x.sealed) x.plain.cases c is.cases (held_filter (is_live x.plain.registry.settings now) x.plain.cases c h).0);
      sessions = filter_all (is_right_session x.plain.registry.users) (lasts now live) x.plain.sessions is.sessions;
    }

-- ---- a submission

ordered_filter : {X : Type 0} (before : X → X → Bool) (p : X → Bool) (xs : List X) → are_ordered before xs ≡ true → are_ordered before (filter p xs) ≡ true
ordered_filter before p [] up = refl
ordered_filter {X} before p (x ∷ xs) up = by (p x) (ordered_filter before p xs parts.1)
  where
    parts : (list_all (before x) xs ≡ true) × (are_ordered before xs ≡ true)
    parts = and_parts (list_all (before x) xs) (are_ordered before xs) up

    by : (b : Bool) → are_ordered before (filter p xs) ≡ true → are_ordered before (cond b (x ∷ filter p xs) (filter p xs)) ≡ true
    by true ih = and_from _ _ (filter_all (before x) p xs parts.0) ih
    by false ih = ih

answers_filter : (p : List ℕ × Given → Bool) (answers : Answered) → are_answers answers ≡ true → are_answers (filter p answers) ≡ true
answers_filter p answers is =
    let parts = and_parts (list_all (λ entry. is_answer entry.1) answers) (are_ordered is_id_before answers) is in
    and_from _ _ (filter_all (λ entry. is_answer entry.1) p answers parts.0) (ordered_filter is_id_before p answers parts.1)

asking_open : (o : Option ContextItem) (forms : List FormItem) (y : FormItem) → open_form o forms ≡ Some y → asking_form o forms ≡ Some y
asking_open None forms y e = absurd (grind (arith, e))
asking_open (Some c) forms y e = by c.is_open e
  where
    by : (b : Bool) → cond b (newest_form c.form forms) None ≡ Some y → newest_form c.form forms ≡ Some y
    by true f = f
    by false f = absurd (grind (arith, f))

form_held : (o : Option ContextItem) (forms : List FormItem) (y : FormItem) → asking_form o forms ≡ Some y → Held y forms
form_held None forms y e = absurd (grind (arith, e))
form_held (Some c) forms y e = by (newest_held c.form None forms y e)
  where
    by : (None ≡ Some y) ⊎ (Held y forms × ((y.id == c.form) ≡ true)) → Held y forms
    by (inl bad) = absurd (grind (arith, bad))
    by (inr h) = h.0

own_found : (forms : List FormItem) (y : FormItem) → ascends (map form_key forms) ≡ true → Held y forms → find (is_version y.id y.version) forms ≡ Some y
own_found [] y up h = absurd h
own_found (x ∷ xs) y up (inl e) = ap (λ b. cond b (Some x) (find (is_version y.id y.version) xs)) (subst (λ (z : FormItem). is_version y.id y.version z ≡ true) e (let own : is_version y.id y.version y ≡ true = grind (arith, nat_tests) in own)) ∙ ap Some (sym e)
own_found (x ∷ xs) y up (inr h) = by (is_version y.id y.version x) refl (own_version (form_key x) xs y up h)
  where
    by : (b : Bool) → is_version y.id y.version x ≡ b → (find (is_version y.id y.version) xs ≡ Some y) × (nat_lt (form_key x) (form_key y) ≡ true) → cond b (Some x) (find (is_version y.id y.version) xs) ≡ Some y
    by false is ih = ih.0
    by true is ih = absurd (let same : form_key x ≡ form_key y = key_in x y is in let lt : nat_lt (form_key x) (form_key y) ≡ true = ih.1 in grind (arith, nat_tests, lt, same))

good_form : (t : ℕ) (g : Registry) (y : FormItem) → IsOwn t g → Held y g.forms → is_good y.form ≡ true
good_form t g y own h =
    let is = held_all (is_own_form t) g.forms y own.forms h in
    let a = and_parts (y.tenant == t) (is_form_item y) is in
    (and_parts (is_between 1 16 y.id && is_between 1 99 y.version) (is_good y.form) a.1).1

entry_right : (t : ℕ) (at : TurnContext) (g : Registry) (c : ℕ) (x : ContextItem) (y : FormItem) (answers : Answered) → IsOwn t g → AreOrdered g → context c g.contexts ≡ Some x → Held y g.forms → submission_fault y.form answers ≡ None → are_answers answers ≡ true →
    is_readable_trail g (submission_entry at g (submission_outcome (Some y) answers) x y ∷ []) (submission_secret (Some y) answers) ≡ true
unfolding submission_entry submission_fault public secret mark late_fault
entry_right t at g c x y answers own order found h none ranged =
    and_from _ _ (and_from _ _ (and_from _ _ (and_from _ _ (and_from _ _ (and_from _ _ (context_recipients t g c x own found) in_context) (and_from _ _ (answers_filter _ answers ranged) (digest_right g.settings.salt (receipt_text at.words)))) refl)
    (ap (λ (o : Option FormItem). option_map_or (λ (z : FormItem). is_none (submission_fault z.form (public y.form answers)) && not (mark z.form (public y.form answers))) o false) here ∙ and_from _ _ (ap is_none (public_valid y.form good answers none)) (ap not (public_unmarked y.form answers))))
    (secret_valid (is_marked y.form answers) refl)) (secret_stored (is_marked y.form answers))
  where
    good : is_good y.form ≡ true
    good = good_form t g y own h

    here : find (is_version y.id y.version) g.forms ≡ Some y
    here = own_found g.forms y order.forms h

    in_context : is_some (context x.id g.contexts) ≡ true
    in_context = let own_id : (x.id == c) ≡ true = find_true (λ (z : ContextItem). z.id == c) g.contexts x found in let same : x.id ≡ c = grind (arith, nat_tests, own_id) in ap is_some (ap (λ k. context k g.contexts) same ∙ found)

    secret_valid : (b : Bool) → is_marked y.form answers ≡ b → are_valid_after g.forms (submission_entry at g (submission_outcome (Some y) answers) x y ∷ []) (cond b (Some (sealed_of y.form answers)) None) ≡ true
    secret_valid false is = refl
    secret_valid true is = and_from _ _ (ap not (some_sealed y.form answers is)) (ap (λ (o : Option FormItem). option_map_or (λ (z : FormItem). is_none (identity_fault z.form (public_of y.form answers) (sealed_of y.form answers))) o false) here ∙ ap is_none (sealed_valid y.form good answers none))

    secret_stored : (b : Bool) → are_sealed (cond b (Some (sealed_of y.form answers)) None) ≡ true
    secret_stored false = refl
    secret_stored true = answers_filter _ answers ranged

-- ---- what is asked on no report

abbrev pub AloneRight : ℕ → Plain → TurnContext → Option Who → Outcome → Option Answered → Effect → Type 0
AloneRight t p at who o given e = refusal_alone p.registry (drawing at p) o e ≡ None → Puts t p (change_alone at p.registry who o e) given

puts_setting : (t : ℕ) (p : Plain) (given : Option Answered) (o : Option Setting) → PutsSetting t p.registry o → Puts t p (option_map_or Configures o Nothing) given
puts_setting t p given None h = tt
puts_setting t p given (Some s) h = h

not_spent : (n : ℕ) (rest : Option Told) → option_or (refuses_where (nat_le 4_294_967_295 n) numbers_spent) rest ≡ None → n + 1 ≤ 4_294_967_295
not_spent n rest e = by (nat_le 4_294_967_295 n) refl e
  where
    by : (b : Bool) → nat_le 4_294_967_295 n ≡ b → option_or (refuses_where b numbers_spent) rest ≡ None → n + 1 ≤ 4_294_967_295
    by true is f = absurd (grind (arith, f))
    by false is f = grind (arith, nat_tests, is)

one : (a b : Bool) → (a && b) ≡ true → b ≡ true
one a b e = (and_parts a b e).1

module _ (p : Plain) (at : TurnContext) (who : Option Who) (s : Presented) where
  logged : (t : ℕ) (o : Outcome) (w : Option Who) → Roles p.registry.users Anyone (Alone w) → AloneRight t p at w o None (comes w p.registry.users)
  logged t o None h = λ free. tt
  logged t o (Some (TheReporter n)) h = absurd h
  logged t o (Some (TheUser u)) h = found_is (AloneRight t p at (Some (TheUser u)) o None) (λ (x : UserItem). Comes x.role) (user u p.registry.users) (λ free. tt)
      (λ x is free. ap (λ (q : Option UserItem). option_map_or (λ (y : UserItem). same_role y.role x.role) q false) is ∙ role_own x.role)

  submits : (t c : ℕ) (answers : Answered) → IsOwn t p.registry → AreOrdered p.registry → are_answers answers ≡ true → (x : ContextItem) (y : FormItem) → context c p.registry.contexts ≡ Some x → open_form (context c p.registry.contexts) p.registry.forms ≡ Some y →
      AloneRight t p at who (submission_outcome (asking_form (context c p.registry.contexts) p.registry.forms) answers) (submission_secret (asking_form (context c p.registry.contexts) p.registry.forms) answers) (Submits x y)
  submits t c answers own order ranged x y found form free =
      let asking : asking_form (context c p.registry.contexts) p.registry.forms ≡ Some y = asking_open (context c p.registry.contexts) p.registry.forms y form in
      let two = first_none _ _ free in
      let none : submission_fault y.form answers ≡ None = mapped_none _ _ (ap (λ o. outcome_refusal (submission_outcome o answers)) (sym asking) ∙ two.0) in (
        subst (λ o. is_readable_trail p.registry (submission_entry at p.registry (submission_outcome o answers) x y ∷ []) (submission_secret o answers) ≡ true) (sym asking)
            (entry_right t at p.registry c x y answers own order found (form_held (context c p.registry.contexts) p.registry.forms y asking) none ranged),
        not_spent p.numbering.last _ two.1,
      )

  -- all that is no submission and no login
  alone_others : (d : Command) → IsOwn (tenant_of d) p.registry → AreOrdered p.registry → fits_command d ≡ true → (is_submission d ≡ true → ⊥) → (is_login d ≡ true → ⊥) →
      AloneRight (tenant_of d) p at who (outcome p.registry [] d) (secret_of p.registry d) (effect_of at p.registry who s [] (outline d))
  alone_others d own order fits begins comes = subst (AloneRight (tenant_of d) p at who (outcome p.registry [] d) (secret_of p.registry d)) (outlined at p.registry who s [] d) (by (effect_of at p.registry who s [] d) (told at p.registry who s [] d))
    where
      by : (e : Effect) → IsToldBy p.registry s d e → AloneRight (tenant_of d) p at who (outcome p.registry [] d) (secret_of p.registry d) e
      by (Sets t x) k = λ free. puts_setting (tenant_of d) p (secret_of p.registry d) (setting_of t p.registry x)
          (subst (λ u. PutsSetting u p.registry (setting_of t p.registry x)) (sym k.1.0) (proposal_right t p.registry x (subst (λ u. IsOwn u p.registry) k.1.0 own) order (k.1.1 fits) free))
      by (Submits x y) k = absurd (begins k.1.0)
      by (Comes role) k = absurd (comes k.1)
      by _ k = λ free. tt

  pub alone_puts : (d : Command) → IsOwn (tenant_of d) p.registry → AreOrdered p.registry → fits_command d ≡ true → Roles p.registry.users (need d) (Alone who) → AloneRight (tenant_of d) p at who (outcome p.registry [] d) (secret_of p.registry d) (effect_of at p.registry who s [] (outline d))
  alone_puts (commands.Submit t c answers) own order fits roles = in_open_is (AloneRight t p at who (outcome p.registry [] (commands.Submit t c answers)) (secret_of p.registry (commands.Submit t c answers))) Submits c p.registry (λ free. tt)
      (λ x y found form. submits t c answers own order (and_parts (is_path_number t && is_between 1 64 c) (are_answers answers) fits).1 x y found form)
  alone_puts (commands.Login t name password) own order fits roles = logged t Unchecked who roles
  alone_puts (commands.ReceiptLogin t receipt) own order fits roles = logged t Unchecked who roles
  alone_puts d own order fits roles = alone_others d own order fits (λ no_one. grind (arith, no_one)) (λ no_one. grind (arith, no_one))

-- ---- what is asked on a report

on_puts : (t : ℕ) (p : Plain) (at : TurnContext) (who : Who) (c : Case) (o : Outcome) (given : Option Answered) (e : Effect) → Written at p.registry who c.trail o given e → ((d : Case) → Held d p.cases → d.number ≡ c.number → c ≡ d) → refusal_on at p.registry who c o e ≡ None →
    Puts t p (change_on at p.registry who c.number c.trail e) given
on_puts t p at who c o given (Writes d) written same free =
    let two = first_none (outcome_refusal o) _ free in
    let w = written two.0 two.1 in
    (w.0, doing_silent p.registry.settings.calendar at.time who c.trail d, w.1, (λ x h number. subst (λ (z : Case). are_valid_after p.registry.forms z.trail given ≡ true) (same x h number) w.2))
on_puts t p at who c o given (Comes role) written same free = refl
on_puts t p at who c o given _ written same free = tt

judged_puts : (t : ℕ) (p : Plain) (given : Option Answered) (o : Option Told) (ch : Change) (a : Answer) → (o ≡ None → Puts t p ch given) → Puts t p (change_of (judged o ch a)) given
judged_puts t p given None ch a h = h refl
judged_puts t p given (Some x) ch a h = tt

-- ---- a turn

outline_need : (d : Command) → need (outline d) ≡ need d
outline_need (commands.Submit t c answers) = refl
outline_need (commands.GiveIdentity t answers) = refl
outline_need _ = refl

entries_of_case : (g : Registry) (trail : List Entry) (given : Option Answered) → is_readable_trail g trail given ≡ true → list_all (is_entry_of g) trail ≡ true
entries_of_case g trail given is =
    let a = and_parts (list_all (is_entry_of g) trail && has_public_answers g.forms trail && are_valid_after g.forms trail given) (are_sealed given) is in
    let b = and_parts (list_all (is_entry_of g) trail && has_public_answers g.forms trail) (are_valid_after g.forms trail given) a.0 in
    (and_parts (list_all (is_entry_of g) trail) (has_public_answers g.forms trail) b.0).0

verdict_puts : (x : Tables) (at : TurnContext) (a : Asked) (tg : Target) → fits_command a.command ≡ true → AreOrdered x.plain.registry → Ascend 0 x.plain.cases → AreReadable (tenant_of a.command) x →
    Roles x.plain.registry.users (need a.command) tg → Called (need a.command) tg → ((who : Who) (c : Case) → tg ≡ On who c → Held c x.plain.cases) →
    Puts (tenant_of a.command) x.plain (change_of (verdict_on x.plain at (request x.plain.registry (trail_at tg) a) tg)) (secret_of x.plain.registry a.command)
verdict_puts x at a (Nobody told) fits order up is roles called known = tt
verdict_puts x at a (Alone who) fits order up is roles called known = judged_puts (tenant_of a.command) x.plain (secret_of x.plain.registry a.command) _ _ _ (alone_puts x.plain at who a.session a.command is.registry order fits roles)
verdict_puts x at a (On who c) fits order up is roles called known = judged_puts (tenant_of a.command) x.plain (secret_of x.plain.registry a.command) _ _ _
    (on_puts (tenant_of a.command) x.plain at who c (outcome x.plain.registry c.trail a.command) (secret_of x.plain.registry a.command) (effect_of at x.plain.registry (Some who) a.session c.trail (outline a.command))
    (effect_written (tenant_of a.command) at x.plain.registry who a.session c is.registry (entries_of_case x.plain.registry c.trail (x.sealed c.number) (held_all (is_readable x.plain.registry x.sealed) x.plain.cases c is.cases (known who c refl))) a.command fits called roles)
    (λ d h same. one_case 0 x.plain.cases c d up (known who c refl) h (sym same)))

pub turn_readable : (t : ℕ) (x : Tables) (at : TurnContext) (a : Asked) → tenant_of a.command ≡ t → fits_command a.command ≡ true → AreOrdered x.plain.registry → Ascend 0 x.plain.cases → AtMost x.plain.numbering.last x.plain.cases → ((n : ℕ) → is_there n x.plain.cases ≡ false → x.sealed n ≡ None) →
    AreReadable t x → AreReadable t (tables_after x at a)
turn_readable t x at a of_tenant fits order up most unsealed is =
    let tg : Target = target x.plain a.session (outline a.command) in
    let here : AreReadable (tenant_of a.command) x = subst (λ u. AreReadable u x) (sym of_tenant) is in
    changed_readable t at.time x (change_of (ruling x at a)) (sealed_part x.plain a) order most unsealed
    (subst (λ u. Puts u x.plain (change_of (ruling x at a)) (sealed_part x.plain a)) of_tenant
    (verdict_puts x at a tg fits order up here
    (subst (λ k. Roles x.plain.registry.users k tg) (outline_need a.command) (target_roles x.plain a.session (outline a.command) is.sessions))
    (subst (λ k. Called k tg) (outline_need a.command) (target_called x.plain a.session (outline a.command)))
    (λ who c e. target_held x.plain a.session (outline a.command) who c e)))
    is
