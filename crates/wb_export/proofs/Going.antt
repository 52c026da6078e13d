-- What goes in a turn that changes nothing is what expires by its day, which is what is forecast.
use Rattle.std.proofs.Common.{◌≡◌, ◌≤◌, ℕ, ℤ, Bool, true, false, List, [], ◌∷◌, length, max, refl, sym, ap, ◌∙◌, arith}
use Rattle.std.proofs.lemmas.Bool.Decides.{nat_tests}
use Rattle.std.specs.Prelude.{◌&&◌, ◌||◌, ◌==◌, not, int_lt, filter, map, if◌then◌else◌}
use Rattle.std.specs.List.{list_any}
use Rattle.std.specs.Ordering.{int_eq}
use Rattle.wb_base.specs.Days.{day_of}
use Rattle.wb_model.specs.declared.entry.Entry.{Entry}
use Rattle.wb_model.specs.declared.event.What.TheVariants.{Idle}
use Rattle.wb_model.specs.declared.registry.TenantItem.{TenantItem}
use Rattle.wb_model.specs.Host.{Tables, purged}
use Rattle.wb_model.specs.Legal.{Reckoning, AreLegal, is_legal, reckoning}
use Rattle.wb_model.specs.Opened.{Opened}
use Rattle.wb_model.specs.Past.{Past, Opening, Turn, held, now, registry, tables, case_of, numbers, is_lost}
use Rattle.wb_model.specs.Requests.{Frame}
use Rattle.wb_model.specs.Tables.{Case, is_live}
use Rattle.wb_model.specs.Trails.{expires}
use Rattle.wb_model.proofs.HeldTables.{held_now}
use Rattle.wb_model.proofs.TurnLaw.{event, idle_law}
use Rattle.wb_export.specs.Forecasts.{IsForecast, after_idle, day_at, expires_by, expires_on, expiring, names, without}
use Rattle.wb_export.specs.declared.forecasts.Expiring.{Expiring}

-- ---- each report that is held has an entry

abbrev has_begun : Case → Bool
has_begun c = not (length c.trail == 0)

abbrev HaveBegun : List Case → Type 0
HaveBegun [] = Unit {0}
HaveBegun (c ∷ cs) = (has_begun c ≡ true) × HaveBegun cs

legal_begun : (days : Reckoning) (at : ℕ) (cs : List Case) → AreLegal days at cs → HaveBegun cs
legal_begun days at [] legal = tt
legal_begun days at (c ∷ cs) legal = (by c.trail legal.0.0, legal_begun days at cs legal.1)
  where
    by : (trail : List Entry) → is_legal days trail ≡ true → not (length trail == 0) ≡ true
    by [] e = absurd cc
    by (x ∷ xs) e = grind (arith, nat_tests)

live_begun : (settings : TenantItem) (time : ℕ) (cs : List Case) → HaveBegun (filter (is_live settings time) cs)
live_begun settings time [] = tt
live_begun settings time (c ∷ cs) = by (is_live settings time c) refl (live_begun settings time cs)
  where
    first : (a b : Bool) → (a && b) ≡ true → a ≡ true
    first true b e = refl
    first false b e = e

    by : (b : Bool) → is_live settings time c ≡ b → HaveBegun (filter (is_live settings time) cs) → HaveBegun (if b then c ∷ filter (is_live settings time) cs else filter (is_live settings time) cs)
    by true e rest = (first (has_begun c) (int_lt (day_of time settings.offset) (expires c.trail)) e, rest)
    by false e rest = rest

held_begun : (past : Past Opened) → HaveBegun (held past).plain.cases
held_begun (Opening o) = legal_begun (reckoning o.tables.plain.registry.settings) o.at o.tables.plain.cases o.sound.legal
held_begun (Turn e past) = by (is_lost e.what) (held_begun past)
  where
    by : (b : Bool) → HaveBegun (held past).plain.cases → HaveBegun (if b then held past else tables (Turn e past) (now (Turn e past))).plain.cases
    by true before = before
    by false before = live_begun (registry (Turn e past)).settings (now (Turn e past)) (map (case_of (Turn e past)) (numbers (Turn e past)))

-- so it lives while it does not expire by the day
all_live : (settings : TenantItem) (time : ℕ) (cs : List Case) → HaveBegun cs → filter (is_live settings time) cs ≡ filter (λ c. not (expires_by (day_of time settings.offset) c)) cs
all_live settings time [] begun = refl
all_live settings time (c ∷ cs) begun = rw (lives (has_begun c) (int_lt (day_of time settings.offset) (expires c.trail)) begun.0, all_live settings time cs begun.1) refl
  where
    lives : (a b : Bool) → a ≡ true → (a && b) ≡ not (not b)
    lives true true e = refl
    lives true false e = refl
    lives false b e = absurd cc

-- ---- a forecast names what expires by its day

abbrev rows : ℤ → List Case → List Expiring
rows day cases = map expiring (filter (expires_by day) cases)

-- of a forecast, those of its own day may name a report
named_that_day : (c : Case) (found : List Expiring) → list_any (names c) found ≡ list_any (names c) (filter (expires_on (expires c.trail)) found)
named_that_day c [] = refl
named_that_day c (x ∷ xs) = by (expires_on (expires c.trail) x) refl (named_that_day c xs)
  where
    ys : List Expiring
    ys = filter (expires_on (expires c.trail)) xs

    other : (a b q : Bool) → b ≡ false → ((a && b) || q) ≡ q
    other true b q e = ap (λ p. p || q) e
    other false b q e = refl

    by : (b : Bool) → expires_on (expires c.trail) x ≡ b → list_any (names c) xs ≡ list_any (names c) ys → (names c x || list_any (names c) xs) ≡ list_any (names c) (if b then x ∷ ys else ys)
    by true e rest = ap (λ q. names c x || q) rest
    by false e rest = other (x.number == c.number) (expires_on (expires c.trail) x) (list_any (names c) xs) e ∙ rest

-- a report that expires later is not named
later_unnamed : (day : ℤ) (c : Case) (cases : List Case) → expires_by day c ≡ false → list_any (names c) (rows day cases) ≡ false
later_unnamed day c [] later = refl
later_unnamed day c (d ∷ ds) later = by (expires_by day d) refl (later_unnamed day c ds later)
  where
    apart : (a b : ℤ) (k l : ℕ) → not (int_lt day a) ≡ true → not (int_lt day b) ≡ false → ((k == l) && int_eq a b) ≡ false
    apart a b k l one other = grind (arith, one, other)

    neither : (p q : Bool) → p ≡ false → q ≡ false → (p || q) ≡ false
    neither true q e rest = e
    neither false q e rest = rest

    by : (b : Bool) → expires_by day d ≡ b → list_any (names c) (rows day ds) ≡ false → list_any (names c) (map expiring (if b then d ∷ filter (expires_by day) ds else filter (expires_by day) ds)) ≡ false
    by true e rest = neither (names c (expiring d)) (list_any (names c) (rows day ds)) (apart (expires d.trail) (expires c.trail) d.number c.number e later) rest
    by false e rest = rest

-- one that expires by the day is
abbrev Named : ℤ → List Case → List Case → Type 0
Named day all [] = Unit {0}
Named day all (c ∷ cs) = (expires_by day c ≡ true → list_any (names c) (rows day all) ≡ true) × Named day all cs

more_named : (day : ℤ) (c : Case) (all cs : List Case) → Named day all cs → Named day (c ∷ all) cs
more_named day c all [] named = tt
more_named day c all (d ∷ ds) named = ((λ by_day. by (expires_by day c) (named.0 by_day)), more_named day c all ds named.1)
  where
    after : (p : Bool) {q : Bool} → q ≡ true → (p || q) ≡ true
    after true e = refl
    after false e = e

    by : (b : Bool) → list_any (names d) (rows day all) ≡ true → list_any (names d) (map expiring (if b then c ∷ filter (expires_by day) all else filter (expires_by day) all)) ≡ true
    by true e = after (names d (expiring c)) e
    by false e = e

all_named : (day : ℤ) (cs : List Case) → Named day cs cs
all_named day [] = tt
all_named day (c ∷ cs) = ((λ by_day. by (expires_by day c) by_day), more_named day c cs cs (all_named day cs))
  where
    itself : (k : ℕ) (d : ℤ) → ((k == k) && int_eq d d) ≡ true
    itself k d = grind (arith, nat_tests)

    by : (b : Bool) → b ≡ true → list_any (names c) (map expiring (if b then c ∷ filter (expires_by day) cs else filter (expires_by day) cs)) ≡ true
    by true e = ap (λ p. p || list_any (names c) (rows day cs)) (itself c.number (expires c.trail))
    by false e = absurd cc

-- so what a forecast does not name is what does not expire by its day
left_by : (day : ℤ) (found : List Expiring) (all cs : List Case) → ((c : Case) → list_any (names c) found ≡ list_any (names c) (rows day all)) → Named day all cs → filter (λ c. not (expires_by day c)) cs ≡ without found cs
left_by day found all [] same named = refl
left_by day found all (c ∷ cs) same named = rw (tells (expires_by day c) refl, left_by day found all cs same named.1) refl
  where
    tells : (b : Bool) → expires_by day c ≡ b → list_any (names c) found ≡ b
    tells true e = same c ∙ named.0 e
    tells false e = same c ∙ later_unnamed day c all e

later : (a b : ℕ) → a ≤ b → max a b ≡ b
later a b le = omega (arith, le)

pub goes : (past : Past Opened) (f : Frame) (found : List Expiring) → now past ≤ f.moment → IsForecast (day_at past f) (held past).plain.cases found →
    (held (after_idle past f)).plain.cases ≡ without found (held past).plain.cases
goes past f found le forecast =
    let settings = (held past).plain.registry.settings in
    let cases = (held past).plain.cases in
    let day = day_at past f in
    let purged_is : purged (max (now past) f.moment) (held past) ≡ held (Turn (event f Idle) past) = held_now past f ∙ sym (idle_law past f) in
    let left : filter (is_live settings (max (now past) f.moment)) cases ≡ (held (Turn (event f Idle) past)).plain.cases = ap (λ (x : Tables). x.plain.cases) purged_is in
    let same : (c : Case) → list_any (names c) found ≡ list_any (names c) (rows day cases) = λ c. named_that_day c found ∙ (ap (list_any (names c)) (forecast.of_each_day (expires c.trail)) ∙ sym (named_that_day c (rows day cases))) in
    sym left ∙ (ap (λ time. filter (is_live settings time) cases) (later (now past) f.moment le) ∙ (all_live settings f.moment cases (held_begun past) ∙ left_by day found cases cases same (all_named day cases)))
