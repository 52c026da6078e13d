-- A whole turn: the purge of all tenants, and then the change of the tenant that is named.
use Rattle.std.proofs.Common.{◌≡◌, ℕ, ◌<◌, ◌≤◌, ◌+◌, false, suc, zero, List, [], ◌∷◌, length, map, find, set, get_or, None, refl, sym, ap, ◌∙◌, subst, arith}
use Rattle.std.specs.Prelude.{◌==◌}
use Rattle.std.proofs.lemmas.Bool.Decides.{nat_tests}
use Rattle.wb_custody.specs.declared.sealed.SealedItem.{SealedItem}
use Rattle.wb_model.specs.declared.command.Asked.{Asked}
use Rattle.wb_model.specs.declared.body.Told.{Told}
use Rattle.wb_model.specs.Commands.{tenant_of}
use Rattle.wb_model.specs.Tenants.{Tenancy, without_tenant}
use Rattle.wb_model.specs.Host.{purged, tables_after}
use Rattle.wb_tables.specs.declared.turn_context.TurnContext.{TurnContext as KeptAt}
use Rattle.wb_commands.specs.declared.plan.TurnPlan.{TurnPlan}
use Rattle.wb_tables.specs.declared.tenancy.Tenancy.{Tenancy as KeptTenancy}
use Rattle.wb_tables.specs.TurnContexts.{at_of}
use Rattle.wb_commands.specs.Plans.{PlansTurn}
use Rattle.wb_tables.specs.Places.{ArePlaces, IsAt, is_tenant}
use Rattle.wb_desk.specs.Ready.{IsMadeAt}
use Rattle.wb_recovery.specs.SetUp.{AreSetUpRight}
use Rattle.wb_tables.specs.Kept.{PlainTenancy, place_of, tables_of, tenancy_of, live_place, purged_tenancy, sessions_at}
use Rattle.wb_desk.specs.Turns.{IsTurnOver}
use Rattle.wb_tables.proofs.Purges.{purged_places}
use Rattle.wb_desk.proofs.Tenants.{reply_named, hosts_named, hosts_made, reply_unnamed, hosts_unnamed}
use Rattle.wb_desk.proofs.Changes.{planned_tables}
use Rattle.wb_desk.proofs.SessionCounts.{fewer_sessions}
use Rattle.wb_desk.proofs.SetUps.{right_purged}

-- the tenancy at a place of tables that are purged
pub record IsLiveAt (time i : ℕ) (ks ls : List KeptTenancy) : Type 0 where
  pub within : i < length ls
  pub place : (d : KeptTenancy) → place_of (get_or ls i d) ≡ live_place time (place_of (get_or ks i d))

pub live_at : (time i : ℕ) (ks ls : List KeptTenancy) → map place_of ls ≡ map (live_place time) (map place_of ks) → i < length ks → IsLiveAt time i ks ls
live_at time i [] ls e lt = absurd (omega arith)
live_at time i (x ∷ ks) [] e lt = absurd cc
live_at time zero (x ∷ ks) (y ∷ ls) e lt = record { within = omega arith; place = λ d. cc }
live_at time (suc i) (x ∷ ks) (y ∷ ls) e lt =
    let rest : map place_of ls ≡ map (live_place time) (map place_of ks) = cc in
    let later = live_at time i ks ls rest (omega arith) in
    record { within = omega (arith, later.within); place = later.place }

pub length_same : (i : ℕ) (ks ls : List KeptTenancy) → map place_of ls ≡ map place_of ks → i < length ks → i < length ls
length_same i [] ls e lt = absurd (omega arith)
length_same i (x ∷ ks) [] e lt = absurd cc
length_same zero (x ∷ ks) (y ∷ ls) e lt = omega arith
length_same (suc i) (x ∷ ks) (y ∷ ls) e lt =
    let rest : map place_of ls ≡ map place_of ks = cc in
    let later : i < length ls = length_same i ks ls rest (omega arith) in omega (arith, later)

-- what a purge of all tenants made
pub record IsPurge (time : ℕ) (xs : List PlainTenancy) (items : List SealedItem) (ys : List PlainTenancy) (new : List SealedItem) : Type 0 where
  pub places : ys ≡ map (live_place time) xs
  pub hosts : map (tenancy_of new) ys ≡ map (purged_tenancy time) (map (tenancy_of items) xs)

pub purge_of : (time : ℕ) (xs ys zs : List PlainTenancy) (items mid new : List SealedItem) → xs ≡ ys → items ≡ mid → zs ≡ map (live_place time) ys → map (tenancy_of new) zs ≡ map (purged_tenancy time) (map (tenancy_of mid) ys) → IsPurge time xs items zs new
purge_of time xs ys zs items mid new e s p h = record {
  places = p ∙ sym (ap (map (live_place time)) e);
  hosts = h ∙ sym (ap (λ l. map (purged_tenancy time) (map (tenancy_of mid) l)) e) ∙ sym (ap (λ l. map (purged_tenancy time) (map (tenancy_of l) xs)) s);
}

pub places_left : (turns time : ℕ) (xs : List PlainTenancy) (items : List SealedItem) (ys : List PlainTenancy) (new : List SealedItem) → ArePlaces turns 0 items xs → IsPurge time xs items ys new → ArePlaces turns 0 new ys
places_left turns time xs items ys new all h = purged_places turns time 0 items new xs ys h.places h.hosts all

right_left : (time : ℕ) (xs : List PlainTenancy) (items : List SealedItem) (ys : List PlainTenancy) (new : List SealedItem) → IsPurge time xs items ys new → AreSetUpRight 0 xs → AreSetUpRight 0 ys
right_left time xs items ys new h right = subst (AreSetUpRight 0) (sym h.places) (right_purged 0 time xs right)

-- the tables of a tenant at a place, once they are purged
pub live_tables : (time i : ℕ) (items mid : List SealedItem) (ks ls : List KeptTenancy) (d : KeptTenancy) → map (tenancy_of mid) (map place_of ls) ≡ map (purged_tenancy time) (map (tenancy_of items) (map place_of ks)) → i < length ks
    → tables_of mid (place_of (get_or ls i d)) ≡ purged time (tables_of items (place_of (get_or ks i d)))
live_tables time i items mid [] ls d e lt = absurd (omega arith)
live_tables time i items mid (x ∷ ks) [] d e lt = absurd cc
live_tables time zero items mid (x ∷ ks) (y ∷ ls) d e lt =
    let first : tenancy_of mid (place_of y) ≡ purged_tenancy time (tenancy_of items (place_of x)) = cc in
    ap (λ (z : Tenancy). z.tables) first
live_tables time (suc i) items mid (x ∷ ks) (y ∷ ls) d e lt =
    let rest : map (tenancy_of mid) (map place_of ls) ≡ map (purged_tenancy time) (map (tenancy_of items) (map place_of ks)) = cc in
    live_tables time i items mid ks ls d rest (omega arith)

-- the turn of the tenant at a place
pub turn_over : (upto t i : ℕ) (at : KeptAt) (asked : Asked) (plan : TurnPlan) (items mid new : List SealedItem) (ks ls ms : List KeptTenancy) → ArePlaces upto 0 items (map place_of ks) → IsAt t ks i → t ≡ tenant_of asked.command
    → ((d : KeptTenancy) → PlansTurn (get_or ks i d).configuration.tenant (purged at.time (tables_of items (place_of (get_or ks i d)))) (at_of at) asked plan) → IsPurge at.time (map place_of ks) items (map place_of ls) mid → IsMadeAt i at.time plan.change mid new ls ms
    → (AreSetUpRight 0 (map place_of ls) → AreSetUpRight 0 (map place_of ms)) → sessions_at (map place_of ms) ≤ sessions_at (map place_of ls) + 1
    → IsTurnOver (map place_of ks) items at asked plan.told (map place_of ms) new
turn_over upto t i at asked plan items mid new ks ls ms all is named planned_at purge made right sessions = record {
  reply = λ turns now f p. sym (planned_at made.tenancy).reply ∙ reply_named upto turns now t i f at asked items ks made.tenancy p all is named;
  hosts = λ turns now f p. ap (λ (l : List KeptTenancy). map (tenancy_of new) (map place_of l)) made.set_at ∙ hosts_made turns now f at asked (map (tenancy_of items) (map place_of ks)) (map (tenancy_of mid) (map place_of ls)) (map (tenancy_of new) (map place_of (set ls i made.tenancy))) p purge.hosts
      (hosts_named upto turns now t i f at asked mid new ls made.tenancy made.tenancy p (places_left upto at.time (map place_of ks) items (map place_of ls) mid all purge) there named (made.id made.tenancy) whole (made.others made.tenancy));
  set_up = λ was. right (right_left at.time (map place_of ks) items (map place_of ls) mid purge was);
  sessions = let fewer_now = fewer_sessions at.time (map place_of ks) in let same = ap sessions_at purge.places in omega (arith, sessions, fewer_now, same);
}
  where
    live : IsLiveAt at.time i ks ls
    live = live_at at.time i ks ls purge.places is.within

    there : IsAt t ls i
    there = record { within = live.within; id = λ d. ap (λ (x : PlainTenancy). x.id) (live.place d) ∙ is.id d }

    tables_here : tables_of mid (place_of (get_or ls i made.tenancy)) ≡ purged at.time (tables_of items (place_of (get_or ks i made.tenancy)))
    tables_here = live_tables at.time i items mid ks ls made.tenancy purge.hosts is.within

    whole : tables_of new (place_of made.tenancy) ≡ tables_after (tables_of mid (place_of (get_or ls i made.tenancy))) (at_of at) asked
    whole = planned_tables (get_or ls i made.tenancy).configuration.tenant (tables_of mid (place_of (get_or ls i made.tenancy))) (tables_of new (place_of made.tenancy)) (at_of at) asked plan
        (subst (λ n. PlansTurn n (tables_of mid (place_of (get_or ls i made.tenancy))) (at_of at) asked plan) (sym (ap (λ (x : PlainTenancy). x.id) (live.place made.tenancy)))
        (subst (λ q. PlansTurn (get_or ks i made.tenancy).configuration.tenant q (at_of at) asked plan) (sym tables_here) (planned_at made.tenancy))) (made.tables made.tenancy)

pub none_live : (time t : ℕ) (zs : List PlainTenancy) → find (is_tenant t) zs ≡ None → find (is_tenant t) (map (live_place time) zs) ≡ None
none_live time t [] e = refl
none_live time t (z ∷ zs) e =
    let ne : (z.id == t) ≡ false = grind (arith, nat_tests, e) in
    let later : find (is_tenant t) zs ≡ None = grind (arith, nat_tests, ne, e) in
    rw ne (none_live time t zs later)

-- the turn that names no tenant that is there
pub turn_without : (upto t : ℕ) (at : KeptAt) (asked : Asked) (told : Told) (items new : List SealedItem) (xs ys : List PlainTenancy) → ArePlaces upto 0 items xs → t ≡ tenant_of asked.command → find (is_tenant t) xs ≡ None → told ≡ without_tenant t → IsPurge at.time xs items ys new
    → IsTurnOver xs items at asked told ys new
turn_without upto t at asked told items new xs ys all named none e purge = record {
  reply = λ turns now f p. e ∙ reply_unnamed turns now t f at asked items xs p named none;
  hosts = λ turns now f p. hosts_made turns now f at asked (map (tenancy_of items) xs) (map (tenancy_of new) ys) (map (tenancy_of new) ys) p purge.hosts (hosts_unnamed upto turns now t f at asked new ys p (places_left upto at.time xs items ys new all purge) named gone);
  set_up = right_left at.time xs items ys new purge;
  sessions = let fewer_now = fewer_sessions at.time xs in let same = ap sessions_at purge.places in omega (arith, fewer_now, same);
}
  where
    gone : find (is_tenant t) ys ≡ None
    gone = ap (find (is_tenant t)) purge.places ∙ none_live at.time t xs none
