-- What the body of a route asks fits, and it never asks for the host's health.
use Rattle.std.proofs.Common.{◌≡◌, ℕ, ◌==◌, not, nat_le, Bool, true, false, List, [], length, Option, Some, None, IfSome, option_map, option_and_then, refl, sym, ap, ◌∙◌, codes, if◌then◌else◌, inl, inr, arith}
use Rattle.std.specs.Option.{option_map_or}
use Rattle.std.specs.Str.{is_utf8}
use Rattle.std.proofs.lemmas.Bool.{cases_Bool, and_parts}
use Rattle.serde_json.specs.Data.{Data}
use Rattle.serde_json.specs.Find.{get, as_str, as_bool, as_number, as_u64}
use Rattle.serde_json.specs.Read.{read}
use Rattle.serde_json.specs.Written.{has_float}
use Rattle.wb_base.specs.declared.callers.Role.{Role}
use Rattle.wb_base.specs.declared.callers.Role.TheVariants as roles
use Rattle.wb_base.specs.declared.faults.FormFault.{FormFault}
use Rattle.wb_base.specs.declared.form.Form.{Form}
use Rattle.wb_base.specs.AnswerList.{Answered, is_text}
use Rattle.wb_base.specs.FormShape.{size, keep, optional, list_of, form_of}
use Rattle.wb_base.specs.FormFaults.{fault_of, or_else, first_by, is_double, is_late, is_sealed, lacks_option, is_too_many, is_good}
use Rattle.wb_base.specs.FormFields.{fields_of}
use Rattle.wb_model.specs.declared.command.Command.{Command}
use Rattle.wb_model.specs.declared.command.Command.TheVariants as commands
use Rattle.wb_model.specs.declared.command.ContextSet.{ContextSet}
use Rattle.wb_model.specs.declared.command.Decision.{Decision}
use Rattle.wb_model.specs.declared.command.SettingsSet.{SettingsSet}
use Rattle.wb_model.specs.declared.command.UserSet.{UserSet}
use Rattle.wb_model.specs.declared.entry.Status.{Status}
use Rattle.wb_model.specs.declared.entry.Status.TheVariants as statuses
use Rattle.wb_model.specs.declared.route.Route.{Route}
use Rattle.wb_model.specs.declared.route.Route.TheVariants as routes
use Rattle.wb_model.specs.AnswerRanges.{are_answers}
use Rattle.wb_model.specs.Fits.{are_distinct, is_between, has_bytes, is_path_number, is_settable, is_staff_role, fits_password, fits_withhold, fits_settings, fits_user, fits_context, fits_form}
use Rattle.wb_model.specs.Commands.{fits_command, is_health}
use Rattle.wb_model.specs.Bodies as bodies
use Rattle.wb_model.specs.Bodies.{under, if_under, json, without_floats, answers, some_answers, form_by, form_if, form}
use Rattle.wb_model.specs.RouteBodies.{Numbers, bare, shaped}
use Rattle.wb_base.proofs.Options.{then_some, map_some, if_some, kept}

-- what is given, if anything is, has this
pub record Gives_only {X : Type 0} (P : X → Type 0) (o : Option X) : Type 0 where
  pub given : IfSome o P

then_if : {X Y : Type 0} (P : Y → Type 0) (f : X → Option Y) (o : Option X) → ((x : X) → o ≡ Some x → Gives_only P (f x)) → Gives_only P (option_and_then f o)
then_if P f None h = record { given = tt }
then_if P f (Some x) h = h x refl

map_if : {X Y : Type 0} (P : Y → Type 0) (f : X → Y) (o : Option X) → ((x : X) → o ≡ Some x → P (f x)) → Gives_only P (option_map f o)
map_if P f None h = record { given = tt }
map_if P f (Some x) h = record { given = h x refl }

test_if : {X : Type 0} (P : X → Type 0) (test : Bool) (o : Option X) → Gives_only P o → Gives_only P (if test then o else None)
test_if P true o h = h
test_if P false o h = record { given = tt }

-- what is read under a key is read of some value
under_kept : {X : Type 0} (test : X → Bool) (reading : Data → Option X) (key : List ℕ) → ((v : Data) (x : X) → reading v ≡ Some x → test x ≡ true) → (d : Data) (x : X) → under key reading d ≡ Some x → test x ≡ true
under_kept test reading key h d x is = let found = then_some reading (get key d) x is in h found.0 x found.2

-- ---- values in their ranges

text_kept : (low high : ℕ) (v : Data) (t : List ℕ) → bodies.text low high v ≡ Some t → has_bytes low high t ≡ true
text_kept low high v t is = let found = then_some (keep (has_bytes low high)) (as_str v) t is in (kept (has_bytes low high) found.0 t found.2).0

whole_kept : (low high : ℕ) (v : Data) (n : ℕ) → bodies.whole low high v ≡ Some n → is_between low high n ≡ true
whole_kept low high v n is = let found = then_some (keep (is_between low high)) (option_and_then as_u64 (as_number v)) n is in (kept (is_between low high) found.0 n found.2).0

text_fits : (low high : ℕ) (key : List ℕ) (d : Data) (t : List ℕ) → under key (bodies.text low high) d ≡ Some t → has_bytes low high t ≡ true
text_fits low high key d t is = under_kept (has_bytes low high) (bodies.text low high) key (text_kept low high) d t is

whole_fits : (low high : ℕ) (key : List ℕ) (d : Data) (n : ℕ) → under key (bodies.whole low high) d ≡ Some n → is_between low high n ≡ true
whole_fits low high key d n is = under_kept (is_between low high) (bodies.whole low high) key (whole_kept low high) d n is

status_kept : (v : Data) (s : Status) → bodies.status v ≡ Some s → is_settable s ≡ true
status_kept v s is = let found = then_some bodies.status_named (as_str v) s is in by (is_text found.0 (codes "opened")) (is_text found.0 (codes "closed")) found.2
  where
    by : (a b : Bool) → (if a then Some statuses.Opened else if b then Some statuses.Closed else None) ≡ Some s → is_settable s ≡ true
    by true b e = (let same : statuses.Opened ≡ s = cc in ap is_settable (sym same))
    by false true e = (let same : statuses.Closed ≡ s = cc in ap is_settable (sym same))
    by false false e = absurd cc

role_kept : (v : Data) (r : Role) → bodies.role v ≡ Some r → is_staff_role r ≡ true
role_kept v r is = let found = then_some bodies.role_named (as_str v) r is in by (is_text found.0 (codes "recipient")) (is_text found.0 (codes "custodian")) (is_text found.0 (codes "admin")) found.2
  where
    by : (a b c : Bool) → (if a then Some roles.Recipient else if b then Some roles.Custodian else if c then Some roles.Admin else None) ≡ Some r → is_staff_role r ≡ true
    by true b c e = (let same : roles.Recipient ≡ r = cc in ap is_staff_role (sym same))
    by false true c e = (let same : roles.Custodian ≡ r = cc in ap is_staff_role (sym same))
    by false false true e = (let same : roles.Admin ≡ r = cc in ap is_staff_role (sym same))
    by false false false e = absurd cc

recipients_kept : (v : Data) (us : List ℕ) → bodies.recipients v ≡ Some us → bodies.are_recipients us ≡ true
recipients_kept v us is = let found = then_some (keep bodies.are_recipients) (list_of (bodies.whole 1 256) v) us is in (kept bodies.are_recipients found.0 us found.2).0

withheld_kept : (decision : Decision) (d : Data) (w : Option (List ℕ)) → bodies.withheld decision d ≡ Some w → fits_withhold decision w ≡ true
withheld_kept decision d w is = let found = then_some (keep (fits_withhold decision)) (if_under (codes "withhold") (bodies.text 1 1_024) d) w is in (kept (fits_withhold decision) found.0 w found.2).0

password_kept : (d : Data) (p : Option (List ℕ)) → if_under (codes "password") (bodies.text 1 128) d ≡ Some p → fits_password p ≡ true
password_kept d p is = by (get (codes "password") d) is
  where
    by : (o : Option Data) → optional None (λ v. option_map Some (bodies.text 1 128 v)) o ≡ Some p → fits_password p ≡ true
    by None e = (let none : None ≡ p = cc in ap fits_password (sym none))
    by (Some v) e = (let found = map_some Some (bodies.text 1 128 v) p e in ap fits_password (sym found.2) ∙ text_kept 1 128 v found.0 found.1)

-- ---- answers

-- answers under a key of what was read are in order, each in its range
abbrev pub GoodAnswers : Type 0
GoodAnswers = (text key : List ℕ) (value inner : Data) (a : Answered) → read text ≡ Some value → get key value ≡ Some inner → answers inner ≡ Some a → are_answers a ≡ true

abbrev pub HasGoodAnswers : Data → Type 0
HasGoodAnswers d = (key : List ℕ) (inner : Data) (a : Answered) → get key d ≡ Some inner → answers inner ≡ Some a → are_answers a ≡ true

json_read : (bytes : List ℕ) (d : Data) → json bytes ≡ Some d → read bytes ≡ Some d
json_read bytes d is =
    let found = then_some without_floats (read bytes) d (if_some (is_utf8 bytes) (option_and_then without_floats (read bytes)) d is).1 in
    found.1 ∙ by found.0 (has_float found.0) found.2
  where
    by : (x : Data) (float : Bool) → (if float then None else Some x) ≡ Some d → Some x ≡ Some d
    by x true e = absurd cc
    by x false e = e

pub body_answers : GoodAnswers → (bytes : List ℕ) (d : Data) → json bytes ≡ Some d → HasGoodAnswers d
body_answers good bytes d is = λ key inner a. good bytes key d inner a (json_read bytes d is)

answers_fit : (d : Data) (a : Answered) → HasGoodAnswers d → under (codes "answers") answers d ≡ Some a → are_answers a ≡ true
answers_fit d a good is = let found = then_some answers (get (codes "answers") d) a is in good (codes "answers") found.0 a found.1 found.2

some_kept : (v : Data) (a : Answered) → some_answers v ≡ Some a → (answers v ≡ Some a) × (not (length a == 0) ≡ true)
some_kept v a is =
    let found = then_some (keep (λ x. not (length x == 0))) (answers v) a is in
    let some = kept (λ (x : Answered). not (length x == 0)) found.0 a found.2 in
    (found.1 ∙ ap Some some.1, some.0)

some_fit : (d : Data) (a : Answered) → HasGoodAnswers d → under (codes "answers") some_answers d ≡ Some a → (are_answers a ≡ true) × (not (length a == 0) ≡ true)
some_fit d a good is =
    let found = then_some some_answers (get (codes "answers") d) a is in
    let some = some_kept found.0 a found.2 in
    (good (codes "answers") found.0 a found.1 some.0, some.1)

-- ---- forms

coded : (code : ℕ) (o : Option (List ℕ)) (rest : Option FormFault) (e : FormFault) → is_between 1 6 code ≡ true → ((f : FormFault) → rest ≡ Some f → is_between 1 6 f.code ≡ true) → or_else code o rest ≡ Some e → is_between 1 6 e.code ≡ true
coded code (Some id) rest e fits h is = (let same : record { code = code; field = id } ≡ e = cc in ap (λ (x : FormFault). is_between 1 6 x.code) (sym same) ∙ fits)
coded code None rest e fits h is = h e is

fault_coded : (f : Form) (e : FormFault) → fault_of f ≡ Some e → is_between 1 6 e.code ≡ true
fault_coded f e is =
    let fs = fields_of f.steps in
    let many : Option (List ℕ) = if is_too_many f then Some [] else None in
    coded 2 (first_by is_double fs) _ e refl (λ e1 is1. coded 3 (first_by is_late fs) _ e1 refl (λ e2 is2. coded 4 (first_by is_sealed fs) _ e2 refl
    (λ e3 is3. coded 5 (first_by lacks_option fs) _ e3 refl (λ e4 is4. coded 6 many None e4 refl (λ e5 is5. absurd cc) is4) is3) is2) is1) is

-- each value that is built as a form without a fault is a good one
abbrev pub GoodForms : Type 0
GoodForms = (d : Data) (form : Form) → form_of d ≡ Some form → fault_of form ≡ None → is_good form ≡ true

form_fits : GoodForms → (d : Data) → fits_form (form d) ≡ true
form_fits good d = by (form_of d) refl
  where
    judged : (f : Form) → form_of d ≡ Some f → (o : Option FormFault) → fault_of f ≡ o → fits_form (form_by f o) ≡ true
    judged f e None none = good d f e none
    judged f e (Some fault) some = fault_coded f fault some

    by : (o : Option Form) → form_of d ≡ o → fits_form (form_if o) ≡ true
    by None e = refl
    by (Some f) e = judged f e (fault_of f) refl

-- ---- commands

-- the command fits, and does not ask for the host's health
abbrev pub IsOfBody : Command → Type 0
IsOfBody c = (fits_command c ≡ true) × (is_health c ≡ false)

abbrev pub IsRead : Option Command → Type 0
IsRead o = Gives_only IsOfBody o

-- a body of one value
one_if : {X : Type 0} (make : X → Command) (test : Bool) (o : Option X) → ((x : X) → o ≡ Some x → IsOfBody (make x)) → IsRead (if test then option_map make o else None)
one_if make test o made = test_if IsOfBody test _ (map_if IsOfBody make o made)

login_of : (t : ℕ) (d : Data) → is_path_number t ≡ true → IsRead (bodies.login t d)
login_of t d ht = elim (cases_Bool (size d == 1)) [
  | inl one ↦ rw one (map_if IsOfBody (λ r. commands.ReceiptLogin t r) _ (λ r e. (rw (ht, text_fits 1 64 (codes "receipt") d r e) refl, refl)))
  | inr other ↦ rw other (test_if IsOfBody _ _ (then_if IsOfBody _ _ (λ u e. map_if IsOfBody (λ p. commands.Login t u p) _ (λ p f. (rw (ht, text_fits 1 64 (codes "user") d u e, text_fits 1 128 (codes "password") d p f) refl, refl)))))
]

submission_of : (t : ℕ) (d : Data) → HasGoodAnswers d → is_path_number t ≡ true → IsRead (bodies.submission t d)
submission_of t d good ht = test_if IsOfBody _ _ (then_if IsOfBody _ _ (λ c e. map_if IsOfBody (λ a. commands.Submit t c a) _ (λ a f. (rw (ht, whole_fits 1 64 (codes "context") d c e, answers_fit d a good f) refl, refl))))

identity_of : (t : ℕ) (d : Data) → HasGoodAnswers d → is_path_number t ≡ true → IsRead (bodies.identity t d)
identity_of t d good ht = test_if IsOfBody _ _ (map_if IsOfBody (λ a. commands.GiveIdentity t a) _ (λ a e.
    let both = some_fit d a good e in
    (rw (ht, both.0, both.1) refl, refl)))

comment_of : (t n : ℕ) (d : Data) → is_path_number t ≡ true → is_path_number n ≡ true → IsRead (bodies.comment t n d)
comment_of t n d ht hn = test_if IsOfBody _ _ (then_if IsOfBody _ _ (λ s e. map_if IsOfBody (λ i. commands.Comment t n s i) _ (λ i f. (rw (ht, hn, text_fits 1 4_096 (codes "text") d s e) refl, refl))))

decide_of : (t n k : ℕ) (d : Data) → is_path_number t ≡ true → is_path_number n ≡ true → is_path_number k ≡ true → IsRead (bodies.decide t n k d)
decide_of t n k d ht hn hk = test_if IsOfBody _ _ (then_if IsOfBody _ _ (λ c e. then_if IsOfBody _ _ (λ r f. map_if IsOfBody (λ w. commands.Decide t n k c r w) _ (λ w g. (rw (ht, hn, hk, text_fits 1 1_024 (codes "reason") d r f, withheld_kept c d w g) refl, refl)))))

settings_of : (d : Data) → Gives_only (λ s. fits_settings s ≡ true) (bodies.settings_set d)
settings_of d = let P : SettingsSet → Type 0 = λ x. fits_settings x ≡ true in test_if P _ _ (then_if P _ _ (λ n e. then_if P _ _ (λ days f. map_if P (λ q. record { name = n; notice_days = days; quota = q }) _ (λ q g.
    let most = and_parts (nat_le 0 days) (nat_le days 30) (whole_fits 0 30 (codes "notice_days") d days f) in
    rw (text_fits 1 128 (codes "name") d n e, most.1, whole_fits 1 100_000 (codes "quota") d q g) refl))))

user_of : (d : Data) → Gives_only (λ u. fits_user u ≡ true) (bodies.user_set d)
user_of d = let P : UserSet → Type 0 = λ x. fits_user x ≡ true in test_if P _ _ (then_if P _ (under (codes "name") (bodies.text 1 64) d) (λ n e. then_if P _ (under (codes "role") bodies.role d) (λ r f. then_if P _ (under (codes "enabled") as_bool d) (λ b g. then_if P _ (under (codes "may") bodies.rights d) (λ may h. map_if P (λ p. record { name = n; role = r; enabled = b; may = may; password = p }) _ (λ p i.
    rw (text_fits 1 64 (codes "name") d n e, under_kept is_staff_role bodies.role (codes "role") role_kept d r f, password_kept d p i) refl))))))

context_of : (d : Data) → Gives_only (λ c. fits_context c ≡ true) (bodies.context_set d)
context_of d = let P : ContextSet → Type 0 = λ x. fits_context x ≡ true in test_if P _ _ (then_if P _ (under (codes "name") (bodies.text 1 128) d) (λ n e. then_if P _ (under (codes "form") (bodies.whole 1 16) d) (λ form f. then_if P _ (under (codes "open") as_bool d) (λ b g. then_if P _ (under (codes "recipients") bodies.recipients d) (λ us h. map_if P (λ days. record { name = n; form = form; is_open = b; recipients = us; retention = days }) _ (λ days i.
    let users = and_parts (is_between 1 32 (length us)) (are_distinct us) (under_kept bodies.are_recipients bodies.recipients (codes "recipients") recipients_kept d us h) in
    rw (text_fits 1 128 (codes "name") d n e, whole_fits 1 16 (codes "form") d form f, users.0, users.1, whole_fits 1 3_650 (codes "retention") d days i) refl))))))

form_of_body : GoodForms → (t f : ℕ) (d : Data) → is_path_number t ≡ true → is_path_number f ≡ true → IsRead (bodies.new_form t f d)
form_of_body good t f d ht hf = test_if IsOfBody _ _ (map_if IsOfBody (λ v. commands.SetForm t f (form v)) _ (λ v e. (rw (ht, hf, form_fits good v) refl, refl)))

set_if : {X : Type 0} (fits : X → Bool) (make : X → Command) (o : Option X) → Gives_only (λ x. fits x ≡ true) o → ((x : X) → fits x ≡ true → IsOfBody (make x)) → IsRead (option_map make o)
set_if fits make None h k = record { given = tt }
set_if fits make (Some x) h k = record { given = k x h.given }

-- the numbers of a path are in range
abbrev pub AreNumbers : Numbers → Type 0
AreNumbers at = (name : List ℕ) → is_path_number (at name) ≡ true

-- what the body of a route asks
pub shaped_of : GoodForms → (r : Route) (at : Numbers) (d : Data) → HasGoodAnswers d → AreNumbers at → IsRead (shaped r at d)
shaped_of good routes.Login at d ordered h = login_of _ d (h (codes "{t}"))
shaped_of good routes.Submit at d ordered h = submission_of _ d ordered (h (codes "{t}"))
shaped_of good routes.OwnComment at d ordered h = one_if (λ s. commands.OwnComment (at (codes "{t}")) s) _ _ (λ s e. (rw (h (codes "{t}"), text_fits 1 4_096 (codes "text") d s e) refl, refl))
shaped_of good routes.GiveIdentity at d ordered h = identity_of _ d ordered (h (codes "{t}"))
shaped_of good routes.Comment at d ordered h = comment_of _ _ d (h (codes "{t}")) (h (codes "{n}"))
shaped_of good routes.Label at d ordered h = one_if (λ s. commands.Label (at (codes "{t}")) (at (codes "{n}")) s) _ _ (λ s e. (rw (h (codes "{t}"), h (codes "{n}"), text_fits 0 64 (codes "label") d s e) refl, refl))
shaped_of good routes.SetStatus at d ordered h = one_if (λ s. commands.SetStatus (at (codes "{t}")) (at (codes "{n}")) s) _ _ (λ s e. (rw (h (codes "{t}"), h (codes "{n}"), under_kept is_settable bodies.status (codes "status") status_kept d s e) refl, refl))
shaped_of good routes.Feedback at d ordered h = one_if (λ s. commands.Feedback (at (codes "{t}")) (at (codes "{n}")) s) _ _ (λ s e. (rw (h (codes "{t}"), h (codes "{n}"), text_fits 1 4_096 (codes "text") d s e) refl, refl))
shaped_of good routes.Share at d ordered h = one_if (λ u. commands.Share (at (codes "{t}")) (at (codes "{n}")) u) _ _ (λ u e. (rw (h (codes "{t}"), h (codes "{n}")) refl, refl))
shaped_of good routes.Transfer at d ordered h = one_if (λ c. commands.Transfer (at (codes "{t}")) (at (codes "{n}")) c) _ _ (λ c e. (rw (h (codes "{t}"), h (codes "{n}"), whole_fits 1 64 (codes "context") d c e) refl, refl))
shaped_of good routes.Extend at d ordered h = one_if (λ r. commands.Extend (at (codes "{t}")) (at (codes "{n}")) r) _ _ (λ r e. (rw (h (codes "{t}"), h (codes "{n}"), text_fits 1 1_024 (codes "reason") d r e) refl, refl))
shaped_of good routes.Ask at d ordered h = one_if (λ r. commands.Ask (at (codes "{t}")) (at (codes "{n}")) r) _ _ (λ r e. (rw (h (codes "{t}"), h (codes "{n}"), text_fits 1 1_024 (codes "reason") d r e) refl, refl))
shaped_of good routes.Decide at d ordered h = decide_of _ _ _ d (h (codes "{t}")) (h (codes "{n}")) (h (codes "{k}"))
shaped_of good routes.SetSettings at d ordered h = set_if fits_settings (λ s. commands.SetSettings (at (codes "{t}")) s) _ (settings_of d) (λ s e. (rw (h (codes "{t}"), e) refl, refl))
shaped_of good routes.SetUser at d ordered h = set_if fits_user (λ u. commands.SetUser (at (codes "{t}")) (at (codes "{u}")) u) _ (user_of d) (λ u e. (rw (h (codes "{t}"), h (codes "{u}"), e) refl, refl))
shaped_of good routes.SetContext at d ordered h = set_if fits_context (λ c. commands.SetContext (at (codes "{t}")) (at (codes "{c}")) c) _ (context_of d) (λ c e. (rw (h (codes "{t}"), h (codes "{c}"), e) refl, refl))
shaped_of good routes.SetForm at d ordered h = form_of_body good _ _ d (h (codes "{t}")) (h (codes "{f}"))
shaped_of good _ at d ordered h = record { given = tt }

-- the command of a route without a body fits
if_there : (o : Option Command) → option_map_or fits_command o true ≡ true → IfSome o (λ c. fits_command c ≡ true)
if_there None fits = tt
if_there (Some c) fits = fits

pub bare_fits : (r : Route) (at : Numbers) → AreNumbers at → IfSome (bare r at) (λ c. fits_command c ≡ true)
bare_fits r at h = if_there (bare r at) (by r)
  where
    by : (x : Route) → option_map_or fits_command (bare x at) true ≡ true
    by routes.Health = refl
    by _ = grind (arith, h (codes "{t}"), h (codes "{n}"), h (codes "{c}"), h (codes "{u}"))
