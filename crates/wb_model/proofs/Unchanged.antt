-- A refused request changes nothing but time, the turn number and what fell due.
use Rattle.std.proofs.Common.{◌≡◌, ℕ, ◌+◌, Bool, true, false, cond, eqb, not, List, [], ◌∷◌, ◌++◌, Option, Some, None, refl, sym, ap, ◌∙◌, subst, arith}
use Rattle.std.specs.Prelude.{map, max, find, filter, ◌||◌}
use Rattle.std.specs.List.{list_any}
use Rattle.std.proofs.lemmas.Bool.Decides.{nat_tests}
use Rattle.wb_base.specs.AnswerList.{Answered}
use Rattle.wb_base.specs.declared.rows.Row.{Row}
use Rattle.wb_model.specs.declared.body.Told.{Told}
use Rattle.wb_model.specs.declared.registry.TenantItem.{TenantItem}
use Rattle.wb_model.specs.Tables.{Case, is_live, is_there}
use Rattle.wb_model.specs.Requests.{Frame, sealed_part}
use Rattle.wb_model.specs.Changes.{Verdict, Refused, Accepted}
use Rattle.wb_model.specs.Host.{Tables, Host, purged, changed, change_of, reply_by, time_at, purge_at, ruling_at, reply_to, host_after}
use Rattle.wb_model.specs.Alike.{is_refused}
use Rattle.wb_model.specs.Tenants.{tenant_at, Tenancy, Hosts, one, has_id, refused_in, one_after, hosts_after, OnTenant}
use Rattle.wb_model.specs.Refused.{host_unchanged, one_unchanged, hosts_unchanged}
use Rattle.wb_model.specs.Past.{Past, held}
use Rattle.wb_model.specs.Pasts.{AllOpened, part, tenants, time, held_tenancy, standing_hosts, with_turn}
use Rattle.wb_model.specs.Rows.{sealed_row, sealed_rows, trail_rows, entry_rows, answer_rows, kinds, of_tenants, of_kinds, format_row, rows_of, rows}
use Rattle.wb_model.specs.Scripts.{purges}
use Rattle.wb_model.proofs.Found.{same_number}
use Rattle.wb_model.proofs.PartLaw.{found_tenancy, turn_in_law}

-- ---- one tenant

pub refused_reply : (h : Host) (f : Frame) (told : Told) → ruling_at h f ≡ Refused told → reply_to h f ≡ told
refused_reply h f told e = ap (λ v. reply_by v (purge_at h f).sealed) e

pub refused_host : (h : Host) (f : Frame) (told : Told) → ruling_at h f ≡ Refused told → host_after h f ≡ host_unchanged h f
refused_host h f told e = λ i. record { turns = h.turns + 1; now = time_at h f; tables = changed (time_at h f) (change_of (e i)) (sealed_part (purge_at h f).plain f.asked) (purge_at h f) }

refused_is : (h : Host) (f : Frame) → is_refused (ruling_at h f) ≡ true → host_after h f ≡ host_unchanged h f
refused_is h f is = by (ruling_at h f) refl is
  where
    by : (v : Verdict) → ruling_at h f ≡ v → is_refused v ≡ true → host_after h f ≡ host_unchanged h f
    by (Refused told) e k = refused_host h f told e
    by (Accepted change answer) e k = absurd (grind (arith, k))

-- ---- all tenants

same_id : (x : Tenancy) (t u : Tables) → t ≡ u → ◌≡◌ {A = Tenancy} (record { id = x.id; tables = t }) (record { id = x.id; tables = u })
same_id x t u e = λ i. record { id = x.id; tables = e i }

one_step : (h : Hosts) (f : Frame) (x : Tenancy) → (x.id ≡ tenant_at f → is_refused (ruling_at (one h.turns h.now x.tables) f) ≡ true) → one_after h.turns h.now f x ≡ one_unchanged (max h.now f.moment) x
one_step h f x refused = same_id x _ _ (by (eqb x.id (tenant_at f)) refl)
  where
    by : (b : Bool) → eqb x.id (tenant_at f) ≡ b → cond b (host_after (one h.turns h.now x.tables) f).tables (purged (max h.now f.moment) x.tables) ≡ purged (max h.now f.moment) x.tables
    by true is = ap (λ (k : Host). k.tables) (refused_is (one h.turns h.now x.tables) f (refused (grind (arith, nat_tests, is))))
    by false is = refl

all_steps : (h : Hosts) (f : Frame) (xs : List Tenancy) → OnTenant (tenant_at f) xs (λ x. is_refused (ruling_at (one h.turns h.now x) f) ≡ true) → map (one_after h.turns h.now f) xs ≡ map (one_unchanged (max h.now f.moment)) xs
all_steps h f [] on = refl
all_steps h f (x ∷ xs) on = ap (λ y. y ∷ map (one_after h.turns h.now f) xs) (one_step h f x on.0) ∙ ap (λ ys. one_unchanged (max h.now f.moment) x ∷ ys) (all_steps h f xs on.1)

pub refused_hosts : (h : Hosts) (f : Frame) → OnTenant (tenant_at f) h.list (λ x. is_refused (ruling_at (one h.turns h.now x) f) ≡ true) → hosts_after h f ≡ hosts_unchanged h f
refused_hosts h f on = λ i. record { turns = h.turns + 1; now = max h.now f.moment; list = all_steps h f h.list on i }

-- ---- over a past

on_members : (past : Past AllOpened) (t : ℕ) (P : Tables → Type 0) (ts : List ℕ) → (list_any (λ u. eqb u t) ts ≡ true → P (held (part t past))) → OnTenant t (map (held_tenancy past) ts) P
on_members past t P [] h = tt
on_members past t P (u ∷ us) h = (
  (λ e. subst (λ v. P (held (part v past))) (sym e) (h (let k : eqb u t ≡ true = same_number u t e in grind (arith, k)))),
  on_members past t P us (λ k. h (grind (arith, k))),
)

pub refused_past : (past : Past AllOpened) (f : Frame) → refused_in (standing_hosts past) f (find (has_id (tenant_at f)) (standing_hosts past).list) ≡ true → standing_hosts (with_turn past f) ≡ hosts_unchanged (standing_hosts past) f
refused_past past f is =
    sym (turn_in_law past f)
    ∙ refused_hosts (standing_hosts past) f
    (on_members past (tenant_at f) (λ x. is_refused (ruling_at (one (standing_hosts past).turns (standing_hosts past).now x) f) ≡ true) (tenants past)
    (λ has. ap (λ b. refused_in (standing_hosts past) f (cond b (Some (held_tenancy past (tenant_at f))) None)) (sym has) ∙ (ap (refused_in (standing_hosts past) f) (sym (found_tenancy past (tenant_at f) (tenants past))) ∙ is)))

-- ---- rows, where nothing falls due

all_live : (s : TenantItem) (time : ℕ) (cs : List Case) → list_any (λ c. not (is_live s time c)) cs ≡ false → filter (is_live s time) cs ≡ cs
all_live s time [] none = refl
all_live s time (c ∷ cs) none = by (is_live s time c) none (all_live s time cs)
  where
    by : (b : Bool) → (not b || list_any (λ d. not (is_live s time d)) cs) ≡ false → (list_any (λ d. not (is_live s time d)) cs ≡ false → filter (is_live s time) cs ≡ cs) → cond b (c ∷ filter (is_live s time) cs) (filter (is_live s time) cs) ≡ c ∷ cs
    by true k ih = ap (λ ds. c ∷ ds) (ih k)
    by false k ih = absurd (grind (arith, k))

-- each report's number is there
abbrev AllThere : List Case → List Case → Type 0
AllThere ds [] = Unit {0}
AllThere ds (c ∷ cs) = (is_there c.number ds ≡ true) × AllThere ds cs

more_there : (d : Case) (ds cs : List Case) → AllThere ds cs → AllThere (d ∷ ds) cs
more_there d ds [] a = tt
more_there d ds (c ∷ cs) a = (let k : is_there c.number ds ≡ true = a.0 in grind (arith, k), more_there d ds cs a.1)

all_there : (cs : List Case) → AllThere cs cs
all_there [] = tt
all_there (c ∷ cs) = (grind (arith, nat_tests), more_there c cs cs (all_there cs))

sealed_there : (t : ℕ) (s : ℕ → Option Answered) (ds cs : List Case) → AllThere ds cs → sealed_rows t (λ n. cond (is_there n ds) (s n) None) cs ≡ sealed_rows t s cs
sealed_there t s ds [] a = refl
sealed_there t s ds (c ∷ cs) a =
    ap (λ b. sealed_row t c.number (cond b (s c.number) None) ++ sealed_rows t (λ n. cond (is_there n ds) (s n) None) cs) a.0
    ∙ ap (λ rows. sealed_row t c.number (s c.number) ++ rows) (sealed_there t s ds cs a.1)

-- nothing of this tenant falls due
abbrev StaysDue : ℕ → Tenancy → Type 0
StaysDue time x = list_any (λ c. not (is_live x.tables.plain.registry.settings time c)) x.tables.plain.cases ≡ false

-- a kind of rows is as it was
abbrev KeepsKind : (Tenancy → List Row) → Type 0
KeepsKind kind = (time : ℕ) (x : Tenancy) → StaysDue time x → kind (one_unchanged time x) ≡ kind x

entries_kept : KeepsKind entry_rows
entries_kept time x none = ap (trail_rows x.id) (all_live x.tables.plain.registry.settings time x.tables.plain.cases none)

answers_kept : KeepsKind answer_rows
answers_kept time x none =
    ap (λ cs. sealed_rows x.id (λ n. cond (is_there n cs) (x.tables.sealed n) None) cs) (all_live x.tables.plain.registry.settings time x.tables.plain.cases none)
    ∙ sealed_there x.id x.tables.sealed x.tables.plain.cases x.tables.plain.cases (all_there x.tables.plain.cases)

abbrev AllStayDue : ℕ → List Tenancy → Type 0
AllStayDue time xs = list_any (λ (x : Tenancy). list_any (λ c. not (is_live x.tables.plain.registry.settings time c)) x.tables.plain.cases) xs ≡ false

first_of : (a b : Bool) → (a || b) ≡ false → (a ≡ false) × (b ≡ false)
first_of true b e = absurd (grind (arith, e))
first_of false b e = (refl, e)

tenants_kept : (kind : Tenancy → List Row) → KeepsKind kind → (time : ℕ) (xs : List Tenancy) → AllStayDue time xs → of_tenants kind (map (one_unchanged time) xs) ≡ of_tenants kind xs
tenants_kept kind keeps time [] none = refl
tenants_kept kind keeps time (x ∷ xs) none =
    let both = first_of (list_any (λ c. not (is_live x.tables.plain.registry.settings time c)) x.tables.plain.cases) (list_any (λ (y : Tenancy). list_any (λ c. not (is_live y.tables.plain.registry.settings time c)) y.tables.plain.cases) xs) none in
    ap (λ rows. rows ++ of_tenants kind (map (one_unchanged time) xs)) (keeps time x both.0) ∙ ap (λ rows. kind x ++ rows) (tenants_kept kind keeps time xs both.1)

abbrev AllKeep : List (Tenancy → List Row) → Type 0
AllKeep [] = Unit {0}
AllKeep (kind ∷ more) = KeepsKind kind × AllKeep more

kinds_kept : (ks : List (Tenancy → List Row)) (time : ℕ) (xs : List Tenancy) → AllKeep ks → AllStayDue time xs → of_kinds ks (map (one_unchanged time) xs) ≡ of_kinds ks xs
kinds_kept [] time xs keep none = refl
kinds_kept (kind ∷ more) time xs keep none =
    ap (λ rows. rows ++ of_kinds more (map (one_unchanged time) xs)) (tenants_kept kind keep.0 time xs none) ∙ ap (λ rows. of_tenants kind xs ++ rows) (kinds_kept more time xs keep.1 none)

-- where no report falls due, the rows are as they were
pub refused_rows : (past : Past AllOpened) (f : Frame) → refused_in (standing_hosts past) f (find (has_id (tenant_at f)) (standing_hosts past).list) ≡ true → purges past (max (time past) f.moment) ≡ false → rows (with_turn past f) ≡ rows past
refused_rows past f is none =
    ap (λ (h : Hosts). rows_of h.list) (refused_past past f is)
    ∙ ap (λ l. format_row ∷ l) (kinds_kept kinds (max (time past) f.moment) (standing_hosts past).list
    ((λ time x due. refl), ((λ time x due. refl), ((λ time x due. refl), ((λ time x due. refl), ((λ time x due. refl), (entries_kept, (answers_kept, tt)))))))
    none)
