-- What stands of the sessions of a past: their reports are there, and their moments do not fall.
use Rattle.std.proofs.Common.{◌≡◌, inl, inr, ℕ, ◌≤◌, Bool, true, false, cond, not, List, [], ◌∷◌, ◌++◌, filter, refl, sym, subst, arith}
use Rattle.std.specs.Prelude.{◌&&◌, max}
use Rattle.wb_model.specs.declared.event.Event.{Event}
use Rattle.wb_model.specs.Tables.{Case, Session, lasts}
use Rattle.wb_model.specs.Host.{Tables, made}
use Rattle.wb_model.specs.Past.{Past, Opening, Turn, change_at, live_reports, logins, is_ended, stands, tables, now, is_lost, held}
use Rattle.wb_model.specs.Opened.{Opened}
use Rattle.wb_model.proofs.Found.{Held, held_filter}
use Rattle.wb_model.proofs.SessionsLaw.{lasts_stays, made_moment}
use Rattle.wb_tables.specs.Logins.{AreThere, NeverFall}
use Rattle.wb_tables.proofs.LateSessions.{fall_filter}

-- ---- the moments of logins

abbrev AreBy : ℕ → List Session → Type 0
AreBy time [] = Unit {0}
AreBy time (s ∷ ss) = (s.at ≤ time) × AreBy time ss

by_later : (j k : ℕ) (ss : List Session) → j ≤ k → AreBy j ss → AreBy k ss
by_later j k [] le are = tt
by_later j k (s ∷ ss) le are = (let at = are.0 in omega (arith, le, at), by_later j k ss le are.1)

by_append : (time : ℕ) (ss zs : List Session) → AreBy time ss → AreBy time zs → AreBy time (ss ++ zs)
by_append time [] zs are more = more
by_append time (s ∷ ss) zs are more = (are.0, by_append time ss zs are.1 more)

all_by : (time : ℕ) (zs : List Session) → ((s : Session) → Held s zs → s.at ≡ time) → AreBy time zs
all_by time [] on = tt
all_by time (z ∷ zs) on = (let at = on z (inl refl) in omega (arith, at), all_by time zs (λ s h. on s (inr h)))

all_rise : (k time : ℕ) (zs : List Session) → k ≤ time → ((s : Session) → Held s zs → s.at ≡ time) → NeverFall k zs
all_rise k time [] le on = tt
all_rise k time (z ∷ zs) le on = let at = on z (inl refl) in (omega (arith, le, at), all_rise z.at time zs (omega (arith, at)) (λ s h. on s (inr h)))

rise_append : (k time : ℕ) (ss zs : List Session) → NeverFall k ss → AreBy time ss → k ≤ time → ((s : Session) → Held s zs → s.at ≡ time) → NeverFall k (ss ++ zs)
rise_append k time [] zs rise are le on = all_rise k time zs le on
rise_append k time (s ∷ ss) zs rise are le on = (rise.0, rise_append s.at time ss zs rise.1 are.1 are.0 on)

record LoginsRise (past : Past Opened) : Type 0 where
  moments : NeverFall 0 (logins past)
  so_far : AreBy (now past) (logins past)

rise_more : (past : Past Opened) (e : Event) → LoginsRise past → LoginsRise (Turn e past)
rise_more past e before = record {
  moments = rise_append 0 time (logins past) more before.moments earlier (omega arith) on;
  so_far = by_append time (logins past) more earlier (all_by time more on);
}
  where
    time : ℕ
    time = max (now past) e.moment

    more : List Session
    more = filter (lasts time (live_reports past time)) (made (change_at past e))

    earlier : AreBy time (logins past)
    earlier = by_later (now past) time (logins past) (omega arith) before.so_far

    on : (s : Session) → Held s more → s.at ≡ time
    on s h = made_moment past e s (held_filter (lasts time (live_reports past time)) (made (change_at past e)) s h).0

logins_rise : (past : Past Opened) → LoginsRise past
logins_rise (Opening o) = record { moments = subst (NeverFall 0) (sym o.sound.sessions) tt; so_far = subst (AreBy (now (Opening o))) (sym o.sound.sessions) tt }
logins_rise (Turn e past) = rise_more past e (logins_rise past)

-- ---- what stands

pub either : (P : Tables → Type 0) (b : Bool) (x y : Tables) → P x → P y → P (cond b x y)
either P true x y left right = left
either P false x y left right = right

pub moments_held : (past : Past Opened) → NeverFall 0 (held past).plain.sessions
moments_held (Opening o) = subst (NeverFall 0) (sym o.sound.sessions) tt
moments_held (Turn e past) =
    either (λ t. NeverFall 0 t.plain.sessions) (is_lost e.what) (held past) (tables (Turn e past) (now (Turn e past)))
    (moments_held past) (fall_filter 0 (stands (Turn e past) (now (Turn e past))) (logins (Turn e past)) (logins_rise (Turn e past)).moments)

all_there : (time : ℕ) (cases : List Case) (is_ended : Session → Bool) (ss : List Session) → AreThere cases (filter (λ s. lasts time cases s && not (is_ended s)) ss)
all_there time cases is_ended [] = tt
all_there time cases is_ended (s ∷ ss) = by (lasts time cases s) (not (is_ended s)) refl (all_there time cases is_ended ss)
  where
    rest : List Session
    rest = filter (λ s. lasts time cases s && not (is_ended s)) ss

    by : (a b : Bool) → lasts time cases s ≡ a → AreThere cases rest → AreThere cases (cond (a && b) (s ∷ rest) rest)
    by true true e more = (lasts_stays time cases s e, more)
    by true false e more = more
    by false b e more = more

pub there_held : (past : Past Opened) → AreThere (held past).plain.cases (held past).plain.sessions
there_held (Opening o) = subst (AreThere o.tables.plain.cases) (sym o.sound.sessions) tt
there_held (Turn e past) =
    either (λ t. AreThere t.plain.cases t.plain.sessions) (is_lost e.what) (held past) (tables (Turn e past) (now (Turn e past)))
    (there_held past) (all_there (now (Turn e past)) (live_reports (Turn e past) (now (Turn e past))) (is_ended (Turn e past)) (logins (Turn e past)))
