-- What the table of commands gives: how its lines may end where what they name may not be there.
use Rattle.std.proofs.Common.{◌≡◌, ℕ, Bool, true, false, cond, List, Option, Some, None, refl, arith}
use Rattle.std.specs.Prelude.{◌&&◌, is_some}
use Rattle.std.specs.Option.{option_map_or}
use Rattle.wb_base.specs.declared.callers.Presented.{Presented}
use Rattle.wb_base.specs.declared.callers.Presented.TheVariants as presented
use Rattle.wb_base.specs.declared.callers.Role.{Role}
use Rattle.wb_base.specs.declared.callers.Role.TheVariants as roles
use Rattle.wb_model.specs.declared.command.Command.{Command}
use Rattle.wb_model.specs.declared.command.Command.TheVariants as commands
use Rattle.wb_model.specs.declared.entry.Entry.{Entry}
use Rattle.wb_model.specs.declared.registry.ContextItem.{ContextItem}
use Rattle.wb_model.specs.declared.registry.FormItem.{FormItem}
use Rattle.wb_model.specs.declared.registry.UserItem.{UserItem}
use Rattle.wb_model.specs.Tables.{Registry, Who, TheUser, TheReporter, user, context, disablings}
use Rattle.wb_model.specs.Requests.{outline, secret_of}
use Rattle.wb_model.specs.AskingForms.{open_form, form_of_trail}
use Rattle.wb_model.specs.Commands.{tenant_of, is_read, is_login, is_submission, fits_command, effect_of}
use Rattle.wb_model.specs.Fits.{fits_settings, fits_user, fits_context, fits_form, is_path_number}
use Rattle.wb_model.specs.Settings.{Setting, Proposal, ToTenant, ToUser, ToContext, ToForm}
use Rattle.wb_model.specs.Changes.{TurnContext, Change, Nothing, Configures}
use Rattle.wb_model.specs.Effects.{Effect, Misses, Looks, Reads, Writes, Submits, Comes, Goes, Sets, comes, goes, with_form, in_open, ToReporter, TheIdentity}
use Rattle.wb_model.specs.Doings.{Doing, Acts, Moves, may_read, decision_move}
use Rattle.wb_model.specs.declared.act.Act.TheVariants as acts
use Rattle.wb_model.specs.declared.access.AccessRequest.{AccessRequest}
use Rattle.wb_model.specs.declared.command.Decision.{Decision}
use Rattle.wb_model.specs.declared.command.Decision.TheVariants as decisions
use Rattle.wb_model.specs.Access.{requests, request_at}

-- ---- lines that may miss what they name

pub found_is : {X : Type 0} (P : Effect → Type 0) (does : X → Effect) (o : Option X) → P Misses → ((x : X) → o ≡ Some x → P (does x)) → P (option_map_or does o Misses)
found_is P does None missed found = missed
found_is P does (Some x) missed found = found x refl

pub allowed_is : (P : Effect → Type 0) (b : Bool) (e : Effect) → P Misses → P e → P (cond b e Misses)
allowed_is P true e missed found = found
allowed_is P false e missed found = missed

pub comes_is : (P : Effect → Type 0) (who : Option Who) (users : List UserItem) → P Misses → ((role : Role) → P (Comes role)) → P (comes who users)
comes_is P (Some (TheUser u)) users missed found = found_is P (λ (x : UserItem). Comes x.role) (user u users) missed (λ x is. found x.role)
comes_is P (Some (TheReporter n)) users missed found = found roles.Reporter
comes_is P None users missed found = missed

pub goes_is : (P : Effect → Type 0) (s : Presented) → P Misses → ((turn : ℕ) → P (Goes turn)) → P (goes s)
goes_is P (presented.Token turn secret) missed found = found turn
goes_is P presented.None missed found = missed
goes_is P presented.Bad missed found = missed

pub with_form_is : (P : Effect → Type 0) (does : ContextItem → FormItem → Effect) (o : Option ContextItem) (form : Option FormItem) → P Misses → ((x : ContextItem) (y : FormItem) → o ≡ Some x → form ≡ Some y → P (does x y)) → P (with_form does o form)
with_form_is P does None form missed found = missed
with_form_is P does (Some x) None missed found = missed
with_form_is P does (Some x) (Some y) missed found = found x y refl refl

pub in_open_is : (P : Effect → Type 0) (does : ContextItem → FormItem → Effect) (c : ℕ) (g : Registry) → P Misses → ((x : ContextItem) (y : FormItem) → context c g.contexts ≡ Some x → open_form (context c g.contexts) g.forms ≡ Some y → P (does x y)) → P (in_open does c g)
in_open_is P does c g missed found = with_form_is P does (context c g.contexts) (open_form (context c g.contexts) g.forms) missed found

pub identity_is : (P : Effect → Type 0) (trail : List Entry) (g : Registry) → P Misses → P (Writes (Acts acts.Identity)) → P (option_map_or (λ (form : FormItem). Writes (Acts acts.Identity)) (form_of_trail trail g.forms) Misses)
identity_is P trail g missed found = found_is P (λ (form : FormItem). Writes (Acts acts.Identity)) (form_of_trail trail g.forms) missed (λ form is. found)

pub share_is : (P : Effect → Type 0) (u : ℕ) (g : Registry) → P Misses → P (Writes (Acts (acts.Share u))) → P (cond (may_read (user u g.users)) (Writes (Acts (acts.Share u))) Misses)
share_is P u g missed found = allowed_is P (may_read (user u g.users)) (Writes (Acts (acts.Share u))) missed found

pub transfer_is : (P : Effect → Type 0) (c : ℕ) (g : Registry) → P Misses → ((x : ContextItem) → context c g.contexts ≡ Some x → P (Writes (Acts (acts.Transfer c x.is_open x.recipients)))) → P (option_map_or (λ (x : ContextItem). Writes (Acts (acts.Transfer c x.is_open x.recipients))) (context c g.contexts) Misses)
transfer_is P c g missed found = found_is P (λ (x : ContextItem). Writes (Acts (acts.Transfer c x.is_open x.recipients))) (context c g.contexts) missed found

pub decide_is : (P : Effect → Type 0) (k : ℕ) (g : Registry) (trail : List Entry) (decision : Decision) (reason : List ℕ) (withhold : Option (List ℕ)) → P Misses → ((r : AccessRequest) (y : Decision) → P (Writes (Moves (decision_move k (disablings r.by g.users) g.settings.notice_days reason withhold y)))) →
    P (option_map_or (λ (r : AccessRequest). Writes (Moves (decision_move k (disablings r.by g.users) g.settings.notice_days reason withhold decision))) (request_at k (requests trail)) Misses)
decide_is P k g trail decision reason withhold missed found = found_is P (λ (r : AccessRequest). Writes (Moves (decision_move k (disablings r.by g.users) g.settings.notice_days reason withhold decision))) (request_at k (requests trail)) missed (λ r is. found r decision)

-- ---- what a command tells of itself by what it does

-- a report begins by a submission alone, in a context of the tenant and in the form in which it asks while it is open
abbrev pub IsSubmitted : Registry → Command → Effect → Type 0
IsSubmitted g d (Submits x form) = (is_submission d ≡ true) × ((c : ℕ) × (context c g.contexts ≡ Some x) × (open_form (context c g.contexts) g.forms ≡ Some form))
IsSubmitted g d e = Unit {0}

-- what a proposal asks of its values
abbrev pub FitsProposal : Proposal → Type 0
FitsProposal (ToTenant next) = fits_settings next ≡ true
FitsProposal (ToUser u next) = fits_user next ≡ true
FitsProposal (ToContext c next) = fits_context next ≡ true
FitsProposal (ToForm f form) = fits_form form ≡ true

-- an act that gives identity answers
abbrev pub is_given : Doing → Bool
is_given (Acts acts.Identity) = true
is_given _ = false

-- what only looks or reads
abbrev pub is_look : Effect → Bool
is_look (Looks view) = true
is_look (Reads part) = true
is_look _ = false

-- what is known of a command that does this, beside that it only reads or does not
abbrev pub Tells : Registry → Presented → Command → Effect → Type 0
Tells g s d (Submits x form) = IsSubmitted g d (Submits x form)
Tells g s d (Sets t proposal) = (tenant_of d ≡ t) × (fits_command d ≡ true → FitsProposal proposal)
Tells g s d (Comes role) = is_login d ≡ true
Tells g s d (Goes turn) = (t : ℕ) × (secret : List ℕ) × (d ≡ commands.Logout t) × (s ≡ presented.Token turn secret)
Tells g s d (Reads ToReporter) = (t : ℕ) × (d ≡ commands.OwnReport t)
Tells g s d (Reads TheIdentity) = (t : ℕ) × (n : ℕ) × (d ≡ commands.ReadIdentity t n)
Tells g s d (Writes doing) = is_some (secret_of g d) ≡ is_given doing
Tells g s d e = true ≡ true

abbrev pub IsToldBy : Registry → Presented → Command → Effect → Type 0
IsToldBy g s d Misses = Unit {0}
IsToldBy g s d e = (is_read d ≡ is_look e) × Tells g s d e

decision_given : (g : Registry) (s : Presented) (t n k : ℕ) (decision : Decision) (reason : List ℕ) (withhold : Option (List ℕ)) (r : AccessRequest) (y : Decision) →
    IsToldBy g s (commands.Decide t n k decision reason withhold) (Writes (Moves (decision_move k (disablings r.by g.users) g.settings.notice_days reason withhold y)))
decision_given g s t n k decision reason withhold r decisions.Grant = (refl, refl)
decision_given g s t n k decision reason withhold r decisions.Deny = (refl, refl)
decision_given g s t n k decision reason withhold r decisions.Revoke = (refl, refl)

last_fits : (a b : Bool) → (a && b) ≡ true → b ≡ true
last_fits true b e = e
last_fits false b e = absurd (grind (arith, e))

-- each line of the table of commands does
pub told : (at : TurnContext) (g : Registry) (who : Option Who) (s : Presented) (trail : List Entry) (d : Command) → IsToldBy g s d (effect_of at g who s trail d)
told at g who (presented.Token turn secret) trail (commands.Logout t) = (refl, (t, secret, refl, refl))
told at g who presented.None trail (commands.Logout t) = tt
told at g who presented.Bad trail (commands.Logout t) = tt
told at g who s trail (commands.Submit t c answers) = in_open_is (IsToldBy g s (commands.Submit t c answers)) Submits c g tt (λ x y is form. (refl, (refl, (c, is, form))))
told at g who s trail (commands.ContextOf t c) = in_open_is (IsToldBy g s (commands.ContextOf t c)) _ c g tt (λ x y is form. (refl, refl))
told at g who s trail (commands.Login t name password) = comes_is (IsToldBy g s (commands.Login t name password)) who g.users tt (λ role. (refl, refl))
told at g who s trail (commands.ReceiptLogin t receipt) = comes_is (IsToldBy g s (commands.ReceiptLogin t receipt)) who g.users tt (λ role. (refl, refl))
told at g who s trail (commands.OwnReport t) = (refl, (t, refl))
told at g who s trail (commands.ReadIdentity t n) = (refl, (t, n, refl))
told at g who s trail (commands.GiveIdentity t answers) = identity_is (IsToldBy g s (commands.GiveIdentity t answers)) trail g tt (refl, refl)
told at g who s trail (commands.Share t n u) = share_is (IsToldBy g s (commands.Share t n u)) u g tt (refl, refl)
told at g who s trail (commands.Transfer t n c) = transfer_is (IsToldBy g s (commands.Transfer t n c)) c g tt (λ x is. (refl, refl))
told at g who s trail (commands.Decide t n k decision reason withhold) = decide_is (IsToldBy g s (commands.Decide t n k decision reason withhold)) k g trail decision reason withhold tt (decision_given g s t n k decision reason withhold)
told at g who s trail (commands.SetSettings t next) = (refl, (refl, last_fits (is_path_number t) (fits_settings next)))
told at g who s trail (commands.SetUser t u next) = (refl, (refl, last_fits (is_path_number t && is_path_number u) (fits_user next)))
told at g who s trail (commands.SetContext t c next) = (refl, (refl, last_fits (is_path_number t && is_path_number c) (fits_context next)))
told at g who s trail (commands.SetForm t f form) = (refl, (refl, last_fits (is_path_number t && is_path_number f) (fits_form form)))
told at g who s trail _ = (refl, refl)

-- what a command does hangs on no answers
pub outlined : (at : TurnContext) (g : Registry) (who : Option Who) (s : Presented) (trail : List Entry) (d : Command) → effect_of at g who s trail d ≡ effect_of at g who s trail (outline d)
outlined at g who s trail (commands.Submit t c answers) = refl
outlined at g who s trail (commands.GiveIdentity t answers) = refl
outlined at g who s trail _ = refl

pub submitted : (at : TurnContext) (g : Registry) (who : Option Who) (s : Presented) (trail : List Entry) (d : Command) → IsSubmitted g d (effect_of at g who s trail d)
submitted at g who s trail d = by (effect_of at g who s trail d) (told at g who s trail d)
  where
    by : (e : Effect) → IsToldBy g s d e → IsSubmitted g d e
    by (Submits x form) k = k.1
    by _ k = tt

-- ---- settings

pub set_is : (P : Change → Type 0) (o : Option Setting) → P Nothing → ((x : Setting) → o ≡ Some x → P (Configures x)) → P (option_map_or Configures o Nothing)
set_is P None none some = none
set_is P (Some x) none some = some x refl
