-- A purge leaves the room for a change.
use Rattle.std.proofs.Common.{◌≡◌, ℕ, ◌<◌, ◌≤◌, zero, suc, Bool, true, false, cond, List, [], ◌∷◌, length, map, find, get_or, Option, Some, None, refl, sym, ap, ◌∙◌, subst, arith}
use Rattle.std.specs.Prelude.{filter, is_some}
use Rattle.std.specs.Ordering.{nat_cmp}
use Rattle.wb_list.specs.Keyed.{has_key}
use Rattle.wb_model.specs.Opened.{Apart}
use Rattle.wb_model.specs.Tables.{Plain, Case, Session, has_number, is_live, is_there, report, lasts}
use Rattle.wb_model.specs.Host.{live_cases}
use Rattle.wb_model.proofs.Found.{filter_twice}
use Rattle.wb_model.proofs.Leaving.{some_filter}
use Rattle.wb_custody.specs.declared.sealed.SealedItem.{SealedItem}
use Rattle.wb_commands.specs.declared.mutation.Mutation.{Mutation}
use Rattle.wb_commands.specs.declared.mutation.Mutation.TheVariants as planned
use Rattle.wb_commands.specs.Plans.{IsDraw, IsRoomyFor}
use Rattle.wb_tables.specs.Configured.{Configured, IsReadyToSet, row_of}
use Rattle.wb_tables.specs.Kept.{PlainTenancy, case_of, place_of, plain_of, live_place, live_plain}
use Rattle.wb_tables.specs.Logins.{AreEarlier}
use Rattle.wb_tables.specs.Places.{ArePlaces, IsPurged, ArePurged}
use Rattle.wb_tables.specs.declared.tenancy.Report.{Report as KeptCase}
use Rattle.wb_tables.specs.declared.tenancy.Tenancy.{Tenancy as KeptTenancy}
use Rattle.wb_tables.proofs.Lookups.{kept, find_kept, there-found}
use Rattle.wb_tables.proofs.NotedReports.{report_is}
use Rattle.wb_tables.proofs.PlacesAt.{place_at}
use Rattle.wb_desk.proofs.Whole.{IsLiveAt, live_at, length_same}

-- ---- a report that is live is found

kept_same : {X : Type 0} (Q : X → Bool) (o : Option X) → is_some (kept Q o) ≡ true → kept Q o ≡ o
kept_same Q None e = refl
kept_same {X} Q (Some x) e = by (Q x) e
  where
    by : (b : Bool) → is_some (cond b (Some x) None) ≡ true → cond b (Some x) None ≡ Some x
    by true f = refl
    by false f = absurd (grind (arith, f))

-- where reports have different numbers, the one of a number is the live one
pub live_report : (n : ℕ) (p : Case → Bool) (cs : List Case) → Apart has_number cs → is_there n (filter p cs) ≡ true → report n (filter p cs) ≡ report n cs
live_report n p cs apart there =
    let same = find_kept has_number n p cs apart in
    same ∙ kept_same p (report n cs) (ap is_some (sym same) ∙ (sym (there-found n (filter p cs)) ∙ there))

found_lives : (n : ℕ) (p : Case → Bool) (rs : List KeptCase) (r : KeptCase) → Apart has_number (map case_of rs) → find (has_key nat_cmp (λ (x : KeptCase). x.number) n) rs ≡ Some r → is_there n (filter p (map case_of rs)) ≡ true → p (case_of r) ≡ true
found_lives n p rs r apart e there = by (p (case_of r)) (ap (kept p) (sym (report_is n rs r e)) ∙ (sym (find_kept has_number n p (map case_of rs) apart) ∙ (live_report n p (map case_of rs) apart there ∙ report_is n rs r e)))
  where
    by : (b : Bool) → cond b (Some (case_of r)) None ≡ Some (case_of r) → b ≡ true
    by true f = refl
    by false f = absurd (grind (arith, f))

-- ---- sessions

earlier_left : (turn : ℕ) (p : Session → Bool) (ss : List Session) → AreEarlier turn ss → AreEarlier turn (filter p ss)
earlier_left turn p [] all = tt
earlier_left turn p (s ∷ ss) all = by (p s) (earlier_left turn p ss all.1)
  where
    by : (b : Bool) → AreEarlier turn (filter p ss) → AreEarlier turn (cond b (s ∷ filter p ss) (filter p ss))
    by true rest = (all.0, rest)
    by false rest = rest

-- ---- the room

pub purged_at : (time i : ℕ) (ks ls : List KeptTenancy) (d : KeptTenancy) → ArePurged time ks ls → i < length ks → IsPurged time (get_or ks i d) (get_or ls i d)
purged_at time i [] ls d h lt = absurd (omega arith)
purged_at time i (x ∷ ks) [] d h lt = absurd h
purged_at time zero (x ∷ ks) (y ∷ ls) d h lt = h.0
purged_at time (suc i) (x ∷ ks) (y ∷ ls) d h lt = purged_at time i ks ls d h.1 (omega arith)

room_in : (time spare more : ℕ) (x y : KeptTenancy) (c : Mutation) → Apart has_number (plain_of x).cases → IsPurged time x y → plain_of y ≡ live_plain time (plain_of x) → spare ≤ more → IsRoomyFor time x spare c → IsRoomyFor time y more c
room_in time spare more x y (planned.Begins o) apart purged is le h =
    let wide = purged.room in
    record { fit = (subst (λ (p : Plain). IsDraw time p o) (sym is) h.fit.0, h.fit.1, h.fit.2, h.fit.3); room = (omega (arith, wide, h.room.0), omega (arith, le, h.room.1)) }
room_in time spare more x y (planned.Notes n) apart purged is le h =
    let live : Case → Bool = is_live x.configuration.registry.settings time in
    let wide = purged.room in
    let ready = h.room.0 in
    record {
      fit = subst (λ (p : Plain). is_there n.number (live_plain time p).cases ≡ true) (sym is) (ap (is_there n.number) (filter_twice live live (λ c k. k) (plain_of x).cases) ∙ h.fit);
      room = (
        record {
          report = ready.report;
          found = ap (find (has_key nat_cmp (λ (r : KeptCase). r.number) n.number)) purged.cases
              ∙ some_filter (has_key nat_cmp (λ (r : KeptCase). r.number) n.number) (λ r. live (case_of r)) x.cases.items ready.report ready.found (found_lives n.number live x.cases.items ready.report apart ready.found h.fit);
          roomy = ready.roomy;
          later = ready.later;
        },
        omega (arith, wide, h.room.1),
        omega (arith, le, h.room.2),
      );
    }
room_in time spare more x y (planned.LogsIn login) apart purged is le h =
    let wide = purged.logins in
    record { fit = subst (AreEarlier login.turn) (sym (ap (λ (p : Plain). p.sessions) is)) (earlier_left login.turn (lasts time (live_cases (plain_of x) time)) (plain_of x).sessions h.fit); room = omega (arith, wide, h.room) }
room_in time spare more x y (planned.Configures c) apart purged is le h = record {
  fit = subst (λ (z : Configured). c.row ≡ row_of z.tenant z.registry c.proposal) (sym purged.configuration) h.fit;
  room = subst (λ (z : Configured). IsReadyToSet z c.proposal) (sym purged.configuration) h.room;
}
room_in time spare more x y _ apart purged is le h = record { fit = tt; room = tt }

room_left : (turns time i spare more : ℕ) (items : List SealedItem) (ks ls : List KeptTenancy) (c : Mutation) → ArePlaces turns 0 items (map place_of ks) → ArePurged time ks ls → map place_of ls ≡ map (live_place time) (map place_of ks) → i < length ks → spare ≤ more
    → ((d : KeptTenancy) → IsRoomyFor time (get_or ks i d) spare c) → (d : KeptTenancy) → IsRoomyFor time (get_or ls i d) more c
room_left turns time i spare more items ks ls c all purged e lt le h d =
    let at : IsLiveAt time i ks ls = live_at time i ks ls e lt in
    room_in time spare more (get_or ks i d) (get_or ls i d) c (place_at turns 0 i items ks d all lt).plain.cases (purged_at time i ks ls d purged lt) (ap (λ (x : PlainTenancy). x.plain) (at.place d)) le (h d)

-- after the tables were made ready, which leaves all but the room, and purged
pub room_made : (turns time i spare more : ℕ) (items : List SealedItem) (hs ks ls : List KeptTenancy) (c : Mutation) → ArePlaces turns 0 items (map place_of hs) → map place_of ks ≡ map place_of hs → ArePurged time ks ls → map place_of ls ≡ map (live_place time) (map place_of ks) → i < length hs → spare ≤ more
    → ((d : KeptTenancy) → IsRoomyFor time (get_or ks i d) spare c) → (d : KeptTenancy) → IsRoomyFor time (get_or ls i d) more c
room_made turns time i spare more items hs ks ls c all same purged e lt le h = room_left turns time i spare more items ks ls c (subst (ArePlaces turns 0 items) (sym same) all) purged e (length_same i hs ks same lt) le h
