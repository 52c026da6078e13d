-- A turn that is lost by the keeper had something to keep.
use Rattle.std.proofs.Common.{◌≡◌, ◌≢◌, ◌⊎◌, inl, inr, ℕ, ◌<◌, ◌≤◌, ◌+◌, max, Bool, true, false, not, length, get_or, List, [], ◌∷◌, ◌++◌, map, Result, Ok, Err, refl, sym, ap, ◌∙◌, subst, arith}
use Rattle.std.specs.Prelude.{◌||◌}
use Rattle.std.specs.List.{list_any}
use Rattle.wb_base.specs.declared.rows.Change.{Change as RowChange}
use Rattle.wb_custody.specs.declared.sealed.SealedItem.{SealedItem}
use Rattle.wb_model.specs.declared.command.Asked.{Asked}
use Rattle.wb_model.specs.declared.command.Command.{Command}
use Rattle.wb_model.specs.declared.command.Command.TheVariants as commands
use Rattle.wb_model.specs.declared.entry.Entry.{Entry}
use Rattle.wb_model.specs.Changes.{TurnContext, Nothing}
use Rattle.wb_model.specs.Host.{Tables, purged, change_of as verdict_change, ruling, ruling_at}
use Rattle.wb_model.specs.Past.{Past}
use Rattle.wb_model.specs.Pasts.{AllOpened, standing_hosts, what_in}
use Rattle.wb_model.specs.Requests.{Frame, outline, plain_part}
use Rattle.wb_model.specs.Commands.{tenant_of, is_of_sessions, is_health}
use Rattle.wb_model.specs.Scripts.{is_kept, has_to_keep}
use Rattle.wb_model.specs.Tables.{Registry, is_live}
use Rattle.wb_model.specs.Targets.{target}
use Rattle.wb_model.specs.declared.body.Told.{Told}
use Rattle.wb_model.specs.Tenants.{Tenancy, Hosts, tenant_at, one, hosts_after}
use Rattle.wb_model.proofs.Keeping.{keeps_in}
use Rattle.wb_tables.specs.declared.turn_context.TurnContext.{TurnContext as KeptAt}
use Rattle.wb_commands.specs.declared.plan.TurnPlan.{TurnPlan}
use Rattle.wb_commands.specs.declared.mutation.Mutation.{Mutation}
use Rattle.wb_commands.specs.declared.mutation.Mutation.TheVariants as planned
use Rattle.wb_tables.specs.TurnContexts.{at_of}
use Rattle.wb_commands.specs.Plans.{PlansTurn, begins, change_of}
use Rattle.wb_tables.specs.Dead.{any_dead}
use Rattle.wb_tables.specs.Kept.{PlainTenancy, place_of, tables_of, tenancy_of, sessions_at}
use Rattle.wb_tables.specs.Places.{ArePlaces, IsAt}
use Rattle.wb_tables.specs.Standing.{hosts_of}
use Rattle.wb_tables.specs.declared.tenancy.Tenancy.{Tenancy as KeptTenancy}
use Rattle.wb_commands.specs.Puts.{first_puts, puts_of}
use Rattle.wb_desk.specs.Puts.{IsBatch}
use Rattle.wb_recovery.specs.SetUp.{AreSetUpRight}
use Rattle.wb_desk.specs.Turns.{HasToKeep, KeepsAt, IsLeft, IsTurnOfHosts, IsTurnAt, IsFrameAt, standing}
use Rattle.wb_desk.specs.declared.batch.Lost.{Lost}
use Rattle.wb_desk.specs.declared.batch.Lost.TheVariants as lost
use Rattle.wb_desk.proofs.KeptChanges.{IsKept, sessions_unkept}
use Rattle.wb_desk.proofs.Tenants.{at_turn, at_frame_is, names_tenant, found_at}

-- ---- a batch that is not empty

any_same : (now : ℕ) (items : List SealedItem) (xs : List PlainTenancy) → list_any (λ (x : Tenancy). list_any (λ c. not (is_live x.tables.plain.registry.settings now c)) x.tables.plain.cases) (map (tenancy_of items) xs) ≡ any_dead now xs
any_same now items [] = refl
any_same now items (x ∷ xs) = ap (λ b. list_any (λ c. not (is_live x.plain.registry.settings now c)) x.plain.cases || b) (any_same now items xs)

-- a purge is something to keep
pub dead_keeps : (xs : List PlainTenancy) (items : List SealedItem) (at : KeptAt) (asked : Asked) → any_dead at.time xs ≡ true → KeepsAt xs items at asked
dead_keeps xs items at asked dead = λ turns now f p. inl (any_same (max now f.moment) items xs ∙ (ap (λ m. any_dead m xs) p.time ∙ dead))

-- what is put or dropped
batch_some : (now : ℕ) (xs : List PlainTenancy) (puts batch : List RowChange) → IsBatch now xs puts batch → batch ≢ [] → (any_dead now xs ≡ true) ⊎ (puts ≢ [])
batch_some now xs puts batch b some = by (any_dead now xs) refl
  where
    by : (a : Bool) → any_dead now xs ≡ a → (any_dead now xs ≡ true) ⊎ (puts ≢ [])
    by true e = inl e
    by false e = inr (λ none. some (b.is ∙ (ap (λ l. l ++ puts) (b.none e) ∙ none)))

keeps_by : (xs : List PlainTenancy) (items : List SealedItem) (at : KeptAt) (asked : Asked) (puts : List RowChange) → puts ≡ [] → (any_dead at.time xs ≡ true) ⊎ (puts ≢ []) → KeepsAt xs items at asked
keeps_by xs items at asked puts e (inl dead) = dead_keeps xs items at asked dead
keeps_by xs items at asked puts e (inr some) = absurd (some e)

pub keeps_without : (xs : List PlainTenancy) (items : List SealedItem) (at : KeptAt) (asked : Asked) (batch : List RowChange) → IsBatch at.time xs [] batch → batch ≢ [] → KeepsAt xs items at asked
keeps_without xs items at asked batch b some = keeps_by xs items at asked [] refl (batch_some at.time xs [] batch b some)

-- the verdict of a turn's frame
ruled : (turns now : ℕ) (f : Frame) (at : KeptAt) (asked : Asked) (t : Tables) → IsFrameAt turns now f at asked → ruling_at (one turns now t) f ≡ ruling (purged at.time t) (at_of at) asked
ruled turns now f at asked t p =
    ap (λ m. ruling (purged m t) (at_turn turns now f) f.asked) p.time
    ∙ (ap (λ (a : TurnContext). ruling (purged at.time t) a f.asked) (at_frame_is turns now f at asked p) ∙ ap (λ (a : Asked). ruling (purged at.time t) (at_of at) a) p.asked_of)

-- a change whose rows are put is kept
kept_puts : (t : ℕ) (g : Registry) (x : PlainTenancy) (c : Mutation) → puts_of x c ≢ [] → IsKept (change_of t g c)
kept_puts t g x (planned.Begins o) put = by o.case.items put
  where
    by : (trail : List Entry) → first_puts x.id o.number o.numbering trail o.secret ≢ [] → IsKept (begins trail)
    by [] put = absurd (put refl)
    by (e ∷ es) put = tt
kept_puts t g x (planned.Notes n) put = tt
kept_puts t g x (planned.Deletes n) put = tt
kept_puts t g x (planned.Configures c) put = tt
kept_puts t g x _ put = absurd (put refl)

outlined : (d : Command) → is_of_sessions (outline d) ≡ is_of_sessions d
outlined (commands.Submit t c answers) = refl
outlined (commands.GiveIdentity t answers) = refl
outlined _ = refl

-- and its request is no login or logout
kept_keeps : (f : Frame) (at : KeptAt) (asked : Asked) (turns now : ℕ) (t : Tables) → IsFrameAt turns now f at asked → IsKept (verdict_change (ruling (purged at.time t) (at_of at) asked)) → (verdict_change (ruling_at (one turns now t) f) ≢ Nothing) × (is_of_sessions f.asked.command ≡ false)
kept_keeps f at asked turns now t p kept = (
  (λ none. subst IsKept (ap verdict_change (sym (ruled turns now f at asked t p)) ∙ none) kept),
  ap (λ (a : Asked). is_of_sessions a.command) p.asked_of ∙ by (is_of_sessions asked.command) refl,
)
  where
    by : (b : Bool) → is_of_sessions asked.command ≡ b → b ≡ false
    by true e = absurd (sessions_unkept (purged at.time t).plain (at_of at) (plain_part (purged at.time t).plain asked) (target (purged at.time t).plain asked.session (outline asked.command)) (outlined asked.command ∙ e) kept)
    by false e = refl

-- a change is something to keep
change_keeps : (upto t i : ℕ) (at : KeptAt) (asked : Asked) (items : List SealedItem) (ks : List KeptTenancy) (d : KeptTenancy) (plan : TurnPlan) → ArePlaces upto 0 items (map place_of ks) → IsAt t ks i → t ≡ tenant_of asked.command
    → PlansTurn (get_or ks i d).configuration.tenant (purged at.time (tables_of items (place_of (get_or ks i d)))) (at_of at) asked plan → puts_of (place_of (get_or ks i d)) plan.change ≢ [] → KeepsAt (map place_of ks) items at asked
change_keeps upto t i at asked items ks d plan all is named h put = λ turns now f p.
    let x = get_or ks i d in
    let kept = kept_keeps f at asked turns now (tables_of items (place_of x)) p (subst IsKept (sym h.change) (kept_puts x.configuration.tenant x.configuration.registry (place_of x) plan.change put)) in
    inr (record {
      tenancy = tenancy_of items (place_of x);
      named = found_at upto 0 (tenant_at f) i items ks d all is.within (is.id d ∙ names_tenant turns now t f at asked p named);
      changes = kept.0;
      other = kept.1;
    })

pub keeps_at : (upto t i : ℕ) (at : KeptAt) (asked : Asked) (items : List SealedItem) (ks : List KeptTenancy) (d : KeptTenancy) (plan : TurnPlan) (batch : List RowChange) → ArePlaces upto 0 items (map place_of ks) → IsAt t ks i → t ≡ tenant_of asked.command
    → PlansTurn (get_or ks i d).configuration.tenant (purged at.time (tables_of items (place_of (get_or ks i d)))) (at_of at) asked plan → IsBatch at.time (map place_of ks) (puts_of (place_of (get_or ks i d)) plan.change) batch → batch ≢ [] → KeepsAt (map place_of ks) items at asked
keeps_at upto t i at asked items ks d plan batch all is named h b some = by (batch_some at.time (map place_of ks) (puts_of (place_of (get_or ks i d)) plan.change) batch b some)
  where
    by : (any_dead at.time (map place_of ks) ≡ true) ⊎ (puts_of (place_of (get_or ks i d)) plan.change ≢ []) → KeepsAt (map place_of ks) items at asked
    by (inl dead) = dead_keeps (map place_of ks) items at asked dead
    by (inr put) = change_keeps upto t i at asked items ks d plan all is named h put

-- ---- a lost turn

pub lost_turn : (xs : List PlainTenancy) (items : List SealedItem) (ys : List PlainTenancy) (new : List SealedItem) (at : KeptAt) (asked : Asked) (why : Lost) → IsLeft xs items ys new → KeepsAt xs items at asked → IsTurnAt xs items at asked (Err why) ys new
lost_turn xs items ys new at asked lost.Keeper left keeps = (left, keeps)
lost_turn xs items ys new at asked lost.Memory left keeps = (left, λ health. keeps)

-- what holds of the tables after it
pub right_of : (xs : List PlainTenancy) (items : List SealedItem) (at : KeptAt) (asked : Asked) (result : Result Told Lost) (ys : List PlainTenancy) (new : List SealedItem) → IsTurnAt xs items at asked result ys new → AreSetUpRight 0 xs → AreSetUpRight 0 ys
right_of xs items at asked (Ok told) ys new turn = turn.set_up
right_of xs items at asked (Err lost.Keeper) ys new turn = subst (AreSetUpRight 0) (sym turn.0.places)
right_of xs items at asked (Err lost.Memory) ys new turn = subst (AreSetUpRight 0) (sym turn.0.places)

pub sessions_of : (xs : List PlainTenancy) (items : List SealedItem) (at : KeptAt) (asked : Asked) (result : Result Told Lost) (ys : List PlainTenancy) (new : List SealedItem) → IsTurnAt xs items at asked result ys new → sessions_at ys ≤ sessions_at xs + 1
sessions_of xs items at asked (Ok told) ys new turn = turn.sessions
sessions_of xs items at asked (Err lost.Keeper) ys new turn = let e = ap sessions_at turn.0.places in omega (arith, e)
sessions_of xs items at asked (Err lost.Memory) ys new turn = let e = ap sessions_at turn.0.places in omega (arith, e)

same_hosts : (turns now : ℕ) (xs ys : List Tenancy) → xs ≡ ys → ◌≡◌ {A = Hosts} (record { turns = turns; now = now; list = xs }) (record { turns = turns; now = now; list = ys })
same_hosts turns now xs ys e = λ i. record { turns = turns; now = now; list = e i }

left_hosts : (xs ys : List PlainTenancy) (items new : List SealedItem) → IsLeft xs items ys new → map (tenancy_of new) ys ≡ map (tenancy_of items) xs
left_hosts xs ys items new left = ap (λ l. map (tenancy_of l) ys) left.sealed ∙ ap (map (tenancy_of items)) left.places

-- the turn of a frame
pub turned_of : (turns now : ℕ) (xs : List PlainTenancy) (items : List SealedItem) (f : Frame) (at : KeptAt) (asked : Asked) (result : Result Told Lost) (ys : List PlainTenancy) (new : List SealedItem) → IsFrameAt turns now f at asked → IsTurnAt xs items at asked result ys new
    → IsTurnOfHosts (hosts_of (standing turns now xs items)) f result (hosts_of (standing (turns + 1) (max now f.moment) ys new))
turned_of turns now xs items f at asked (Ok told) ys new p turn = (turn.reply turns now f p, same_hosts (turns + 1) (max now f.moment) (map (tenancy_of new) ys) (hosts_after (hosts_of (standing turns now xs items)) f).list (turn.hosts turns now f p))
turned_of turns now xs items f at asked (Err lost.Keeper) ys new p turn = (same_hosts (turns + 1) (max now f.moment) (map (tenancy_of new) ys) (map (tenancy_of items) xs) (left_hosts xs ys items new turn.0), turn.1 turns now f p)
turned_of turns now xs items f at asked (Err lost.Memory) ys new p turn =
    (same_hosts (turns + 1) (max now f.moment) (map (tenancy_of new) ys) (map (tenancy_of items) xs) (left_hosts xs ys items new turn.0), λ health. turn.1 (ap (λ (a : Asked). is_health a.command) (sym p.asked_of) ∙ health) turns now f p)

-- who asks for the host's health names no tenant
pub names_none : (command : Command) → is_health command ≡ true → tenant_of command ≡ 0
names_none commands.Health e = refl
names_none _ e = absurd cc

-- what holds whatever tenancy is asked for out of place holds, where one is there
pub pick : {Q : Type 0} (ks : List KeptTenancy) (i : ℕ) → i < length ks → ((d : KeptTenancy) → Q) → Q
pick [] i lt f = absurd (omega arith)
pick (x ∷ ks) i lt f = f x

-- ---- the same said of a past

pub keeps_past : (past : Past AllOpened) (f : Frame) → HasToKeep (standing_hosts past) f → has_to_keep past f ≡ true
keeps_past past f (inl dead) = ap (λ b. b || is_kept (what_in past f)) dead
keeps_past past f (inr k) = ap (λ b. list_any (λ (x : Tenancy). list_any (λ c. not (is_live x.tables.plain.registry.settings (max (standing_hosts past).now f.moment) c)) x.tables.plain.cases) (standing_hosts past).list || b) (keeps_in past f k.tenancy k.named k.changes k.other) ∙ or_true _
  where
    or_true : (b : Bool) → (b || true) ≡ true
    or_true true = refl
    or_true false = refl
