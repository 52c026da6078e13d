-- What a rule refuses is told by it: no such reply is that of a turn that is not made.
use Rattle.std.proofs.Common.{◌+◌, ℤ, ℕ, nat_le, length, Bool, true, false, cond, List, [], ◌∷◌, Option, Some, None, Ok, Err, refl}
use Rattle.std.specs.Prelude.{option_map, not}
use Rattle.std.specs.Option.{option_or}
use Rattle.json.specs.Print.{escape_byte}
use Rattle.wb_model.specs.declared.access.AccessRequest.{AccessRequest}
use Rattle.wb_model.specs.declared.access.State.{State}
use Rattle.wb_model.specs.declared.act.Act.{Act}
use Rattle.wb_model.specs.declared.act.Act.TheVariants as acts
use Rattle.wb_model.specs.declared.act.CaseFault.{CaseFault}
use Rattle.wb_model.specs.declared.act.CaseFault.TheVariants as cases
use Rattle.wb_model.specs.declared.act.CustodyFault.{CustodyFault}
use Rattle.wb_model.specs.declared.act.CustodyFault.TheVariants as custody
use Rattle.wb_model.specs.declared.act.Move.{Move}
use Rattle.wb_model.specs.declared.act.Move.TheVariants as moves
use Rattle.wb_model.specs.declared.act.Was.TheVariants as was
use Rattle.wb_model.specs.declared.body.Told.{Told}
use Rattle.wb_model.specs.declared.entry.Entry.{Entry}
use Rattle.wb_model.specs.declared.registry.UserItem.{UserItem}
use Rattle.wb_model.specs.declared.setting.AdminFault.TheVariants as admin
use Rattle.wb_model.specs.Acts.{closed, has_status, acknowledged, has_reader, not_reader, same_context, context_closed, postpone_spent, not_external, extended, full, case_fault}
use Rattle.wb_model.specs.Changes.{TurnContext}
use Rattle.wb_model.specs.Doings.{Doing, Acts, Moves, doing_fault, actor_of}
use Rattle.wb_model.specs.Access.{request_at, user_by, requests, state_now, is_waiting, is_granted}
use Rattle.wb_model.specs.Trails.{has_identity}
use Rattle.wb_model.specs.declared.command.UserSet.{UserSet}
use Rattle.wb_model.specs.Effects.{Effect, Misses, Looks, Reads as ReadsPart, ToReader, ToReporter, TheIdentity, Writes, Erases, Submits, Comes, Goes, Sets}
use Rattle.wb_model.specs.Faults.{case_told, custody_told, admin_told, trail_full}
use Rattle.wb_model.specs.Moves.{pending_from, unless_state, custody_fault}
use Rattle.wb_model.specs.OnReports.{refusal_on}
use Rattle.wb_model.specs.Pasts.{part}
use Rattle.wb_model.specs.Refusals.{refusal, turns_spent, not_found, numbers_spent, quota_spent, receipt_taken, faulty, form_faulty}
use Rattle.wb_model.specs.Refusing.{refuses_where}
use Rattle.wb_model.specs.Requests.{Outcome, Unchecked, Checked}
use Rattle.wb_model.specs.Rules.{refusal_alone}
use Rattle.wb_model.specs.Settings.{Proposal, ToTenant, ToUser, ToContext, ToForm, proposal_refusal, user_fault, name_taken, role_fixed, in_range}
use Rattle.wb_model.specs.Submissions.{Drawing, outcome_refusal, submission_refusal}
use Rattle.wb_model.specs.Tables.{Registry, Case, Who, user}
use Rattle.wb_model.proofs.TargetsServed.{Served, served_not_found}

abbrev pub RefusalServed : Option Told → Type 0
RefusalServed None = Unit {0}
RefusalServed (Some refusal) = Served refusal

pub or_served : (a b : Option Told) → RefusalServed a → RefusalServed b → RefusalServed (option_or a b)
or_served None b x y = y
or_served (Some refusal) b x y = x

pub where_served : (b : Bool) (refusal : Told) → Served refusal → RefusalServed (refuses_where b refusal)
where_served true refusal x = x
where_served false refusal x = tt

pub outcome_served : (o : Outcome) → RefusalServed (outcome_refusal o)
unfolding faulty
outcome_served Unchecked = tt
outcome_served (Checked None answers marked) = tt
outcome_served (Checked (Some fault) answers marked) = refl

pub submission_served : (quota : ℕ) (n : Drawing) (o : Outcome) → RefusalServed (submission_refusal quota n o)
unfolding numbers_spent quota_spent receipt_taken turns_spent refusal escape_byte
submission_served quota n o =
    or_served (outcome_refusal o) _ (outcome_served o)
    (or_served (refuses_where (nat_le 4_294_967_295 n.last) numbers_spent) _ (where_served (nat_le 4_294_967_295 n.last) numbers_spent refl)
    (or_served (refuses_where (nat_le quota n.today) (quota_spent quota)) _ (where_served (nat_le quota n.today) (quota_spent quota) refl) (where_served n.taken receipt_taken refl)))

-- ---- the tables of faults: none of them gives want of memory

module _ {F : Type 0} (told_of : F → Told) where
  abbrev pub FaultServed : Option F → Type 0
  FaultServed o = RefusalServed (option_map told_of o)

  pub either_served : (a b : Option F) → FaultServed a → FaultServed b → FaultServed (option_or a b)
  either_served None b x y = y
  either_served (Some fault) b x y = x

  pub fault_where : (b : Bool) (fault : F) → Served (told_of fault) → FaultServed (refuses_where b fault)
  fault_where true fault x = x
  fault_where false fault x = tt

pub acknowledged_served : (o : Option ℤ) → FaultServed case_told (option_map (λ day. cases.Already (was.Day day)) o)
unfolding case_told
acknowledged_served None = tt
acknowledged_served (Some day) = refl

pub full_served : (trail : List Entry) → FaultServed case_told (full trail)
unfolding case_told trail_full
full_served trail = fault_where case_told _ cases.TrailFull refl

pub closed_then : (trail : List Entry) (rest : Option CaseFault) → FaultServed case_told rest → FaultServed case_told (option_or (closed trail) rest)
unfolding case_told
closed_then trail rest x = either_served case_told (closed trail) rest (fault_where case_told _ cases.Closed refl) x

pub case_served : (trail : List Entry) (act : Act) → FaultServed case_told (case_fault trail act)
unfolding case_told
case_served trail (acts.Comment internal text) = closed_then trail _ (full_served trail)
case_served trail (acts.Label text) = full_served trail
case_served trail (acts.SetStatus status) = either_served case_told (has_status status trail) _ (fault_where case_told _ (cases.Already (was.Status status)) refl) (full_served trail)
case_served trail (acts.Acknowledge today) = closed_then trail _ (either_served case_told (acknowledged trail) _ (acknowledged_served _) (full_served trail))
case_served trail (acts.Feedback text) = closed_then trail _ (full_served trail)
case_served trail (acts.Share reader) = either_served case_told (has_reader reader trail) _ (fault_where case_told _ (cases.Already (was.User reader)) refl) (full_served trail)
case_served trail (acts.Unshare reader) = either_served case_told (not_reader reader trail) _ (fault_where case_told _ cases.NotReader refl) (fault_where case_told _ cases.LastReader refl)
case_served trail (acts.Transfer context is_open readers) =
    closed_then trail _ (either_served case_told (same_context context trail) _ (fault_where case_told _ cases.SameContext refl) (either_served case_told (context_closed is_open) _ (fault_where case_told _ cases.ContextClosed refl) (full_served trail)))
case_served trail (acts.Postpone today retention) = either_served case_told (postpone_spent trail) _ (fault_where case_told _ cases.PostponeSpent refl) (full_served trail)
case_served trail (acts.Extend reason external) = closed_then trail _ (either_served case_told (not_external external) _ (fault_where case_told _ cases.NotExternal refl) (either_served case_told (extended trail) _ (acknowledged_served _) (full_served trail)))
case_served trail acts.Identity = closed_then trail _ (full_served trail)

pub pending_served : (id asker stamp : ℕ) (rs : List AccessRequest) → FaultServed custody_told (pending_from id asker stamp rs)
unfolding custody_told
pending_served id asker stamp [] = tt
pending_served id asker stamp (r ∷ rs) = by _ (pending_served (id + 1) asker stamp rs)
  where
    by : (b : Bool) → FaultServed custody_told (pending_from (id + 1) asker stamp rs) → FaultServed custody_told (cond b (Some (custody.Pending id)) (pending_from (id + 1) asker stamp rs))
    by true x = refl
    by false x = x

pub state_served : (is_right : State → Bool) (fault : State → CustodyFault) (stamp : ℕ) → ((s : State) → Served (custody_told (fault s))) → (o : Option AccessRequest) → FaultServed custody_told (unless_state is_right fault stamp o)
unfolding custody_told not_found
state_served is_right fault stamp x None = refl
state_served is_right fault stamp x (Some r) = by (is_right (state_now stamp r))
  where
    by : (b : Bool) → FaultServed custody_told (cond b None (Some (fault (state_now stamp r))))
    by true = tt
    by false = x (state_now stamp r)

pub custody_served : (entries : ℕ) (mark : Bool) (rs : List AccessRequest) (asker : ℕ) (move : Move) → FaultServed custody_told (custody_fault entries mark rs asker move)
unfolding custody_told trail_full
custody_served entries mark rs asker (moves.Ask reason stamp) =
    either_served custody_told (refuses_where (not mark) custody.NoIdentity) _ (fault_where custody_told (not mark) custody.NoIdentity refl)
    (either_served custody_told (pending_from 1 asker stamp rs) _ (pending_served 1 asker stamp rs) (either_served custody_told (refuses_where (nat_le 100 (length rs)) custody.DeskFull) _ (fault_where custody_told (nat_le 100 (length rs)) custody.DeskFull refl) (fault_where custody_told _ custody.TrailFull refl)))
custody_served entries mark rs asker (moves.Grant request stamp notice_days reason withheld) =
    either_served custody_told _ _ (state_served is_waiting (λ state. custody.Decided state) stamp (λ s. refl) (request_at request rs)) (fault_where custody_told _ custody.TrailFull refl)
custody_served entries mark rs asker (moves.Deny request stamp reason) = state_served is_waiting (λ state. custody.Decided state) stamp (λ s. refl) (request_at request rs)
custody_served entries mark rs asker (moves.Revoke request stamp reason) = state_served is_granted (λ state. custody.NotGranted state) stamp (λ s. refl) (request_at request rs)

pub doing_served : (trail : List Entry) (caller : ℕ) (d : Doing) → RefusalServed (doing_fault trail caller d)
doing_served trail caller (Acts act) = case_served trail act
doing_served trail caller (Moves move) = custody_served (length trail) (has_identity trail) (requests trail) caller move

pub name_served : (o : Option UserItem) → FaultServed (admin_told 10_000) (option_map (λ (x : UserItem). admin.NameTaken x.id) o)
unfolding admin_told
name_served None = tt
name_served (Some x) = refl

pub role_served : (o : Option UserItem) (next : UserSet) → FaultServed (admin_told 10_000) (role_fixed o next)
unfolding admin_told
role_served None next = tt
role_served (Some x) next = fault_where (admin_told 10_000) _ (admin.RoleFixed x.role) refl

pub user_set_served : (users : List UserItem) (u : ℕ) (next : UserSet) → FaultServed (admin_told 10_000) (user_fault users u next)
unfolding admin_told not_found
user_set_served users u next =
    either_served (admin_told 10_000) _ _ (fault_where (admin_told 10_000) (not (in_range 256 u)) admin.NotFound refl)
    (either_served (admin_told 10_000) _ _ (fault_where (admin_told 10_000) _ admin.NoPassword refl)
    (either_served (admin_told 10_000) (name_taken u next users) _ (name_served _) (either_served (admin_told 10_000) (role_fixed (user u users) next) _ (role_served (user u users) next) (fault_where (admin_told 10_000) _ admin.Full refl))))

pub proposal_served : (g : Registry) (x : Proposal) → RefusalServed (proposal_refusal g x)
unfolding admin_told not_found form_faulty
proposal_served g (ToTenant next) = tt
proposal_served g (ToUser u next) = user_set_served g.users u next
proposal_served g (ToContext c next) = fault_where (admin_told 0) _ admin.NotFound refl
proposal_served g (ToForm f (Ok form)) = either_served (admin_told 99) _ _ (fault_where (admin_told 99) (not (in_range 16 f)) admin.NotFound refl) (fault_where (admin_told 99) _ admin.Full refl)
proposal_served g (ToForm f (Err fault)) = by (in_range 16 f)
  where
    by : (b : Bool) → Served (cond b (form_faulty fault) not_found)
    by true = refl
    by false = refl

pub alone_refused : (g : Registry) (n : Drawing) (o : Outcome) (does : Effect) → RefusalServed (refusal_alone g n o does)
alone_refused g n o (Looks view) = tt
alone_refused g n o (Submits c form) = submission_served g.settings.quota n o
alone_refused g n o (Comes role) = tt
alone_refused g n o (Goes turn) = tt
alone_refused g n o (Sets t proposal) = proposal_served g proposal
alone_refused g n o Misses = served_not_found
alone_refused g n o (ReadsPart part) = served_not_found
alone_refused g n o (Writes doing) = served_not_found
alone_refused g n o Erases = served_not_found

pub on_refused : (at : TurnContext) (g : Registry) (who : Who) (c : Case) (o : Outcome) (does : Effect) → RefusalServed (refusal_on at g who c o does)
on_refused at g who c o (ReadsPart ToReader) = tt
on_refused at g who c o (ReadsPart ToReporter) = tt
on_refused at g who c o (ReadsPart TheIdentity) = where_served _ not_found served_not_found
on_refused at g who c o (Writes doing) = or_served (outcome_refusal o) _ (outcome_served o) (doing_served c.trail (user_by (actor_of who)) doing)
on_refused at g who c o Erases = tt
on_refused at g who c o (Comes role) = tt
on_refused at g who c o (Goes turn) = tt
on_refused at g who c o Misses = served_not_found
on_refused at g who c o (Looks view) = served_not_found
on_refused at g who c o (Submits x form) = served_not_found
on_refused at g who c o (Sets t proposal) = served_not_found
