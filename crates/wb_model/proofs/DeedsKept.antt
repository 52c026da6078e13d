-- What is done on a report names what is there, and says what is in its ranges.
use Rattle.std.proofs.Common.{◌≡◌, ℕ, Bool, true, false, cond, not, List, [], ◌∷◌, length, Option, Some, None, refl, sym, ap, ◌∙◌, arith}
use Rattle.std.specs.Prelude.{filter, fold, is_some, is_none, nat_lt, nat_le, ◌&&◌, ◌||◌, ◌==◌}
use Rattle.std.specs.List.{list_all, list_any}
use Rattle.std.specs.Option.{option_map_or}
use Rattle.std.proofs.lemmas.Bool.{and_parts, and_from}
use Rattle.std.proofs.lemmas.Bool.Decides.{nat_tests}
use Rattle.wb_base.specs.declared.callers.Presented.{Presented}
use Rattle.wb_base.specs.declared.callers.Role.{Role}
use Rattle.wb_base.specs.declared.callers.Role.TheVariants.{Recipient, Custodian}
use Rattle.wb_base.specs.AnswerList.{Answered}
use Rattle.wb_base.specs.Days.{day_of}
use Rattle.wb_model.specs.declared.access.AccessRequest.{AccessRequest}
use Rattle.wb_model.specs.declared.act.Act.TheVariants as acts
use Rattle.wb_model.specs.declared.act.CaseFault.TheVariants as faults
use Rattle.wb_model.specs.declared.command.Command.{Command}
use Rattle.wb_model.specs.declared.command.Command.TheVariants as commands
use Rattle.wb_model.specs.declared.command.Decision.{Decision}
use Rattle.wb_model.specs.declared.command.Decision.TheVariants as decisions
use Rattle.wb_model.specs.declared.entry.Deed.{Deed}
use Rattle.wb_model.specs.declared.entry.Deed.TheVariants as deeds
use Rattle.wb_model.specs.declared.entry.Entry.{Entry}
use Rattle.wb_model.specs.declared.registry.ContextItem.{ContextItem}
use Rattle.wb_model.specs.declared.registry.FormItem.{FormItem}
use Rattle.wb_model.specs.declared.registry.UserItem.{UserItem}
use Rattle.wb_model.specs.Trails as trails
use Rattle.wb_model.specs.Trails.{context_in, with_reader, readers_by, readers, reads}
use Rattle.wb_model.specs.Commands.{need, fits_command, effect_of}
use Rattle.wb_model.specs.Access.{requests, request_at, user_by}
use Rattle.wb_model.specs.Tables.{Registry, Case, Who, TheUser, TheReporter, user, context, disablings}
use Rattle.wb_model.specs.Faults.{case_told}
use Rattle.wb_model.specs.Acts.{closed, not_external, not_reader, last_reader, act_deed}
use Rattle.wb_model.specs.Moves.{effective}
use Rattle.wb_model.specs.Refusing.{refuses_where}
use Rattle.wb_model.specs.Targets.{On}
use Rattle.wb_model.specs.Requests.{Outcome, Unchecked, outcome, outline, secret_of, identity_outcome, late_fault}
use Rattle.wb_model.specs.AskingForms.{form_of_trail}
use Rattle.wb_model.specs.Settings.{is_recipient}
use Rattle.wb_model.specs.SetUps.{is_user_item, is_context_item}
use Rattle.wb_model.specs.Fits.{is_between, has_bytes, is_path_number, is_staff_role, fits_withhold}
use Rattle.wb_model.specs.KeptRules.{role_of, is_of_channel, is_doer, users_in, is_named, are_valid_after}
use Rattle.wb_model.specs.Changes.{TurnContext}
use Rattle.wb_model.specs.Submissions.{outcome_refusal}
use Rattle.wb_model.specs.Effects.{Effect, Misses, Writes, Submits, caller}
use Rattle.wb_model.specs.Doings.{Acts, Moves, may_read, retention_of, doing_fault, doing_entry, actor_of, decision_move}
use Rattle.wb_model.specs.AnswerRanges.{are_answers}
use Rattle.wb_model.specs.Readable.{are_bytes, is_count, has_id_of, is_own_user, is_own_context, IsOwn, is_withheld, is_stored, is_entry_of, are_sealed, is_of_role}
use Rattle.wb_model.proofs.Found.{find_held}
use Rattle.wb_model.proofs.Effects.{found_is, transfer_is, comes_is, goes_is, in_open_is}
use Rattle.wb_model.proofs.Callers.{IsOwner, IsCaller}
use Rattle.wb_model.proofs.CallerRoles.{is_caller, Roles}
use Rattle.wb_model.proofs.ItemPuts.{held_all, all_more}
use Rattle.wb_base.proofs.Options.{first_none, mapped_none}

-- ---- parts

there_if : {X : Type 0} (P : X → Bool) (o : Option X) → option_map_or P o false ≡ true → is_some o ≡ true
there_if P None e = absurd (grind (arith, e))
there_if P (Some x) e = refl

-- ---- readers are users

with_all : (q : ℕ → Bool) (u : ℕ) (xs : List ℕ) → q u ≡ true → list_all q xs ≡ true → list_all q (with_reader u xs) ≡ true
with_all q u [] is all = and_from (q u) true is refl
with_all q u (x ∷ xs) is all = by (nat_lt u x) (with_all q u xs is (and_parts (q x) (list_all q xs) all).1)
  where
    by : (b : Bool) → list_all q (with_reader u xs) ≡ true → list_all q (cond b (u ∷ x ∷ xs) (x ∷ with_reader u xs)) ≡ true
    by true ih = and_from (q u) (list_all q (x ∷ xs)) is all
    by false ih = and_from (q x) (list_all q (with_reader u xs)) (and_parts (q x) (list_all q xs) all).0 ih

pub filter_all : {X : Type 0} (q p : X → Bool) (xs : List X) → list_all q xs ≡ true → list_all q (filter p xs) ≡ true
filter_all q p [] all = refl
filter_all {X} q p (x ∷ xs) all = by (p x) (filter_all q p xs (and_parts (q x) (list_all q xs) all).1)
  where
    by : (b : Bool) → list_all q (filter p xs) ≡ true → list_all q (cond b (x ∷ filter p xs) (filter p xs)) ≡ true
    by true ih = and_from (q x) (list_all q (filter p xs)) (and_parts (q x) (list_all q xs) all).0 ih
    by false ih = ih

read_all : (q : ℕ → Bool) (before : List ℕ) (d : Deed) → list_all q before ≡ true → list_all q (users_in d) ≡ true → list_all q (readers_by before d) ≡ true
read_all q before (deeds.Submitted ack_due answers c expires feedback_due form mark rs receipt received version) all named = named
read_all q before (deeds.Transferred c rs) all named = named
read_all q before (deeds.Shared u) all named = with_all q u before (and_parts (q u) true named).0 all
read_all q before (deeds.Unshared u) all named = filter_all q (λ x. not (x == u)) before all
read_all q before _ all named = all

is_there : List UserItem → ℕ → Bool
is_there users u = is_some (user u users)

names_users : (g : Registry) (e : Entry) → is_entry_of g e ≡ true → list_all (λ u. is_some (user u g.users)) (users_in e.deed) ≡ true
names_users g e is =
    let whole = and_parts (is_named g e) (is_stored e.deed) is in
    let names = and_parts (is_of_channel g.settings.external e.deed && is_doer g.users e.deed e.by && list_all (λ u. is_some (user u g.users)) (users_in e.deed)) (option_map_or (λ c. is_some (context c g.contexts)) (context_in e.deed) true) whole.0 in
    (and_parts (is_of_channel g.settings.external e.deed && is_doer g.users e.deed e.by) (list_all (λ u. is_some (user u g.users)) (users_in e.deed)) names.0).1

readers_from : (g : Registry) (before : List ℕ) (es : List Entry) → list_all (λ u. is_some (user u g.users)) before ≡ true → list_all (is_entry_of g) es ≡ true → list_all (λ u. is_some (user u g.users)) (fold (λ xs e. readers_by xs e.deed) before es) ≡ true
readers_from g before [] all named = all
readers_from g before (e ∷ es) all named =
    let parts = and_parts (is_entry_of g e) (list_all (is_entry_of g) es) named in
    readers_from g (readers_by before e.deed) es (read_all (λ u. is_some (user u g.users)) before e.deed all (names_users g e parts.0)) parts.1

any_of_all : (q : ℕ → Bool) (u : ℕ) (xs : List ℕ) → list_all q xs ≡ true → list_any (λ x. x == u) xs ≡ true → q u ≡ true
any_of_all q u [] all is = absurd (grind (arith, is))
any_of_all q u (x ∷ xs) all is = by (x == u) refl is (any_of_all q u xs (and_parts (q x) (list_all q xs) all).1)
  where
    by : (b : Bool) → (x == u) ≡ b → (b || list_any (λ y. y == u) xs) ≡ true → (list_any (λ y. y == u) xs ≡ true → q u ≡ true) → q u ≡ true
    by false same f ih = ih f
    by true same f ih = let here : u ≡ x = grind (arith, nat_tests, same) in ap q here ∙ (and_parts (q x) (list_all q xs) all).0

pub reader_there : (g : Registry) (u : ℕ) (es : List Entry) → list_all (is_entry_of g) es ≡ true → reads u es ≡ true → is_some (user u g.users) ≡ true
reader_there g u es named is = any_of_all (λ v. is_some (user v g.users)) u (readers es) (readers_from g [] es refl named) is

-- ---- who acts

caller_doer : (users : List UserItem) (role : Role) (who : Who) (d : Deed) → role_of d ≡ role → is_caller users role who ≡ true → is_doer users d (actor_of who) ≡ true
caller_doer users role (TheUser u) d e is = ap (λ r. is_of_role users r u) e ∙ is
caller_doer users role (TheReporter n) d e is = absurd (grind (arith, is))

owner_doer : (users : List UserItem) (who : Who) (d : Deed) → IsOwner who → is_doer users d (actor_of who) ≡ true
owner_doer users (TheUser u) d h = absurd h
owner_doer users (TheReporter n) d h = refl

-- a deed that names no one else
simple : (a s : Bool) → a ≡ true → s ≡ true → (((a && true) && true) && s) ≡ true
simple a s e f = and_from _ _ (and_from _ _ (and_from _ _ e refl) refl) f

-- a deed that names users
with_users : (a b s : Bool) → a ≡ true → b ≡ true → s ≡ true → (((a && b) && true) && s) ≡ true
with_users a b s e f g = and_from _ _ (and_from _ _ (and_from _ _ e f) refl) g

-- a user was not disabled too often
own_disabled : (t : ℕ) (g : Registry) (u : ℕ) → IsOwn t g → nat_le (disablings u g.users) 10_000 ≡ true
own_disabled t g u own = by (user u g.users) refl
  where
    by : (o : Option UserItem) → user u g.users ≡ o → nat_le (option_map_or (λ (x : UserItem). x.disabled) o 0) 10_000 ≡ true
    by None e = grind (arith, nat_tests)
    by (Some x) e =
        let is = held_all (is_own_user t) g.users x own.users (find_held (λ (y : UserItem). y.id == u) g.users x e) in
        let a = and_parts ((x.tenant == t) && is_user_item x) (are_bytes 32 x.secret.0) is in
        let b = and_parts (x.tenant == t) (is_user_item x) a.0 in
        (and_parts (is_between 1 256 x.id && has_bytes 1 64 x.name && is_staff_role x.role) (nat_le x.disabled 10_000) b.1).1

recipients_there : (t : ℕ) (g : Registry) (c : ℕ) (x : ContextItem) → IsOwn t g → context c g.contexts ≡ Some x → list_all (λ u. is_some (user u g.users)) x.recipients ≡ true
recipients_there t g c x own e =
    let is = held_all (is_own_context t g.users g.forms) g.contexts x own.contexts (find_held (λ (y : ContextItem). y.id == c) g.contexts x e) in
    all_more (is_recipient g.users) (λ u. is_some (user u g.users)) x.recipients (λ u r. there_if _ (user u g.users) r) (and_parts ((x.tenant == t) && is_context_item x && list_any (has_id_of x.form) g.forms) (list_all (is_recipient g.users) x.recipients) is).1

pub context_recipients : (t : ℕ) (g : Registry) (c : ℕ) (x : ContextItem) → IsOwn t g → context c g.contexts ≡ Some x → list_all (λ u. is_some (user u g.users)) x.recipients ≡ true
context_recipients t g c x own e = recipients_there t g c x own e

-- ---- what is written on a report

-- an entry is right, and so are the identity answers that come with it
abbrev pub Written : TurnContext → Registry → Who → List Entry → Outcome → Option Answered → Effect → Type 0
Written at g who es o secret (Writes d) = outcome_refusal o ≡ None → doing_fault es (user_by (actor_of who)) d ≡ None → (is_entry_of g (doing_entry g.settings.calendar at.time who es d) ≡ true) × (are_sealed secret ≡ true) × (are_valid_after g.forms es secret ≡ true)
Written at g who es o secret _ = Unit {0}

two : (a b c : Bool) → (a && b && c) ≡ true → c ≡ true
two a b c e = (and_parts (a && b) c e).1

one : (a b : Bool) → (a && b) ≡ true → b ≡ true
one a b e = (and_parts a b e).1

module _ (own_tenant : ℕ) (at : TurnContext) (g : Registry) (who : Who) (s : Presented) (c : Case) (own : IsOwn own_tenant g) (named : list_all (is_entry_of g) c.trail ≡ true) where
  reads_on : (d : Deed) → role_of d ≡ Recipient → is_caller g.users Recipient who ≡ true → is_doer g.users d (actor_of who) ≡ true
  reads_on d e is = caller_doer g.users Recipient who d e is

  shared : (b : Bool) (reader : ℕ) (o : Outcome) → may_read (user reader g.users) ≡ b → is_caller g.users Recipient who ≡ true → Written at g who c.trail o None (cond b (Writes (Acts (acts.Share reader))) Misses)
  shared false reader o is h = tt
  shared true reader o is h = λ checked free. (with_users _ _ _ (reads_on (deeds.Shared reader) refl h) (and_from _ _ (there_if _ (user reader g.users) is) refl) refl, refl, refl)

  was_reader : (u : ℕ) → doing_fault c.trail (user_by (actor_of who)) (Acts (acts.Unshare u)) ≡ None → reads u c.trail ≡ true
  was_reader u free = by (reads u c.trail) (first_none (not_reader u c.trail) (last_reader c.trail) (mapped_none case_told _ free)).0
    where
      by : (b : Bool) → refuses_where (not b) faults.NotReader ≡ None → b ≡ true
      by true e = refl
      by false e = absurd (grind (arith, e))

  -- an extension is refused where the tenant is no external channel
  in_channel : (reason : List ℕ) (external : Bool) → doing_fault c.trail (user_by (actor_of who)) (Acts (acts.Extend reason external)) ≡ None → external ≡ true
  in_channel reason external free = by external (first_none (not_external external) _ (first_none (closed c.trail) _ (mapped_none case_told _ free)).1).0
    where
      by : (b : Bool) → refuses_where (not b) faults.NotExternal ≡ None → b ≡ true
      by true e = refl
      by false e = absurd (grind (arith, e))

  decided : (k : ℕ) (r : AccessRequest) (decision : Decision) (reason : List ℕ) (withhold : Option (List ℕ)) (o : Outcome) → is_path_number k ≡ true → has_bytes 1 1_024 reason ≡ true → fits_withhold decision withhold ≡ true → is_caller g.users Custodian who ≡ true →
      Written at g who c.trail o None (Writes (Moves (decision_move k (disablings r.by g.users) g.settings.notice_days reason withhold decision)))
  decided k r decisions.Grant reason withhold o number text fits h = λ checked free. (simple _ _ (caller_doer g.users Custodian who (deeds.Granted (effective at.time g.settings.notice_days withhold) reason k withhold) refl h) (and_from _ _ (and_from _ _ text (one (nat_le 1 k) (is_count k) number)) (kept withhold fits)), refl, refl)
    where
      kept : (x : Option (List ℕ)) → fits_withhold decisions.Grant x ≡ true → is_withheld x ≡ true
      kept None e = refl
      kept (Some y) e = e
  decided k r decisions.Deny reason withhold o number text fits h = λ checked free. (simple _ _ (caller_doer g.users Custodian who (deeds.Denied reason k) refl h) (and_from _ _ text (one (nat_le 1 k) (is_count k) number)), refl, refl)
  decided k r decisions.Revoke reason withhold o number text fits h = λ checked free. (simple _ _ (caller_doer g.users Custodian who (deeds.Revoked reason k) refl h) (and_from _ _ text (one (nat_le 1 k) (is_count k) number)), refl, refl)

  identified : (answers : Answered) (x : FormItem) → form_of_trail c.trail g.forms ≡ Some x → not (length answers == 0) ≡ true → are_answers answers ≡ true → is_doer g.users deeds.Identity (actor_of who) ≡ true →
      Written at g who c.trail (identity_outcome (form_of_trail c.trail g.forms) c.trail answers) (Some answers) (Writes (Acts acts.Identity))
  identified answers x found some good h checked free =
      let valid : late_fault x.form (trails.answers c.trail) answers ≡ None = mapped_none _ _ (ap (λ o. outcome_refusal (identity_outcome o c.trail answers)) (sym found) ∙ checked) in
      (simple _ _ h refl, good, and_from _ _ some (ap (λ o. option_map_or (λ (y : FormItem). is_none (late_fault y.form (trails.answers c.trail) answers)) o false) found ∙ ap is_none valid))

  -- each command on a report
  pub effect_written : (d : Command) → fits_command d ≡ true → IsCaller (need d) who → Roles g.users (need d) (On who c) → Written at g who c.trail (outcome g c.trail d) (secret_of g d) (effect_of at g (Some who) s c.trail (outline d))
  effect_written (commands.OwnComment t text) fits h roles = λ checked free. (simple _ _ (owner_doer g.users who (deeds.Comment false text) h) (one _ _ fits), refl, refl)
  effect_written (commands.GiveIdentity t answers) fits h roles =
      let parts = and_parts (is_path_number t && are_answers answers) (not (length answers == 0)) fits in
      found_is (Written at g who c.trail (identity_outcome (form_of_trail c.trail g.forms) c.trail answers) (Some answers)) (λ (form : FormItem). Writes (Acts acts.Identity)) (form_of_trail c.trail g.forms) tt
      (λ x found. identified answers x found parts.1 (and_parts (is_path_number t) (are_answers answers) parts.0).1 (owner_doer g.users who deeds.Identity h))
  effect_written (commands.Comment t n text internal) fits h roles = λ checked free. (simple _ _ (reads_on (deeds.Comment internal text) refl roles) (two (is_path_number t) (is_path_number n) _ fits), refl, refl)
  effect_written (commands.Label t n text) fits h roles = λ checked free. (simple _ _ (reads_on (deeds.Label text) refl roles) (two (is_path_number t) (is_path_number n) _ fits), refl, refl)
  effect_written (commands.SetStatus t n status) fits h roles = λ checked free. (simple _ _ (reads_on (deeds.SetStatus status) refl roles) (two (is_path_number t) (is_path_number n) _ fits), refl, refl)
  effect_written (commands.Acknowledge t n) fits h roles = λ checked free. (simple _ _ (reads_on (act_deed g.settings.calendar c.trail (acts.Acknowledge (day_of at.time g.settings.offset))) refl roles) refl, refl, refl)
  effect_written (commands.Feedback t n text) fits h roles = λ checked free. (simple _ _ (reads_on (deeds.Feedback text) refl roles) (two (is_path_number t) (is_path_number n) _ fits), refl, refl)
  effect_written (commands.Share t n reader) fits h roles = shared (may_read (user reader g.users)) reader Unchecked refl roles
  effect_written (commands.Unshare t n u) fits h roles = λ checked free. (with_users _ _ _ (reads_on (deeds.Unshared u) refl roles) (and_from _ _ (reader_there g u c.trail named (was_reader u free)) refl) refl, refl, refl)
  effect_written (commands.Transfer t n k) fits h roles = transfer_is (Written at g who c.trail Unchecked None) k g tt
      (λ x is checked free. (and_from _ _ (and_from _ _ (and_from _ _ (reads_on (deeds.Transferred k x.recipients) refl roles) (context_recipients own_tenant g k x own is)) (ap is_some is)) refl, refl, refl))
  effect_written (commands.Postpone t n) fits h roles = λ checked free. (simple _ _ (reads_on (act_deed g.settings.calendar c.trail (acts.Postpone (day_of at.time g.settings.offset) (retention_of (context (trails.context c.trail) g.contexts)))) refl roles) refl, refl, refl)
  effect_written (commands.Extend t n reason) fits h roles = λ checked free. (and_from _ _ (and_from _ _ (and_from _ _ (and_from _ _ (in_channel reason g.settings.external free) (reads_on (act_deed g.settings.calendar c.trail (acts.Extend reason g.settings.external)) refl roles)) refl) refl) (two (is_path_number t) (is_path_number n) _ fits), refl, refl)
  effect_written (commands.Ask t n reason) fits h roles = λ checked free. (simple _ _ (reads_on (deeds.Asked reason (disablings (caller (Some who)) g.users)) refl roles) (and_from _ _ (two (is_path_number t) (is_path_number n) _ fits) (own_disabled own_tenant g (caller (Some who)) own)), refl, refl)
  effect_written (commands.Decide t n k decision reason withhold) fits h roles =
      let a = and_parts (is_path_number t && is_path_number n && is_path_number k && has_bytes 1 1_024 reason) (fits_withhold decision withhold) fits in
      let b = and_parts (is_path_number t && is_path_number n && is_path_number k) (has_bytes 1 1_024 reason) a.0 in
      found_is (Written at g who c.trail Unchecked None) (λ (r : AccessRequest). Writes (Moves (decision_move k (disablings r.by g.users) g.settings.notice_days reason withhold decision))) (request_at k (requests c.trail)) tt
      (λ r is. decided k r decision reason withhold Unchecked (two (is_path_number t) (is_path_number n) (is_path_number k) b.0) b.1 a.1 roles)
  effect_written (commands.ContextOf t k) fits h roles = in_open_is (Written at g who c.trail Unchecked None) _ k g tt (λ x y is form. tt)
  effect_written (commands.Submit t k answers) fits h roles = in_open_is (Written at g who c.trail (outcome g c.trail (commands.Submit t k answers)) (secret_of g (commands.Submit t k answers))) Submits k g tt (λ x y is form. tt)
  effect_written (commands.Login t name password) fits h roles = comes_is (Written at g who c.trail Unchecked None) (Some who) g.users tt (λ role. tt)
  effect_written (commands.ReceiptLogin t receipt) fits h roles = comes_is (Written at g who c.trail Unchecked None) (Some who) g.users tt (λ role. tt)
  effect_written (commands.Logout t) fits h roles = goes_is (Written at g who c.trail Unchecked None) s tt (λ turn. tt)
  effect_written _ fits h roles = tt
