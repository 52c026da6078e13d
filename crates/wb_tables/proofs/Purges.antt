-- A purge of what is not live, in one tenant and in all.
use Rattle.std.proofs.Common.{◌≡◌, ◌≢◌, ◌⊎◌, inl, inr, ℕ, suc, ◌<◌, ◌≤◌, length, ℤ, Bool, true, false, cond, not, List, [], ◌∷◌, map, find, Option, Some, None, refl, sym, ap, ◌∙◌, subst, arith}
use mathlib.Core.Path.{fun_ext}
use Rattle.std.specs.Prelude.{filter, ◌==◌, ◌&&◌, ◌||◌, if◌then◌else◌}
use Rattle.std.specs.List.{list_any}
use Rattle.std.proofs.lemmas.Bool.Decides.{nat_tests}
use Rattle.wb_base.specs.AnswerList.{Answered}
use Rattle.wb_model.specs.Tables.{Case, Session, has_number, has_receipt, is_live, is_there, lasts}
use Rattle.wb_model.specs.Opened.{Ascend, AtMost, AreWithin, IsWithin, Apart, has_turn}
use Rattle.wb_model.specs.Host.{Tables, live_cases, purged}
use Rattle.wb_model.specs.Tenants.{Tenancy}
use Rattle.wb_model.proofs.Leaving.{apart_filter}
use Rattle.wb_list.specs.Room.{Room}
use Rattle.wb_custody.specs.declared.sealed.SealedItem.{SealedItem}
use Rattle.wb_custody.specs.SealedAnswers.{answers_of}
use Rattle.wb_tables.specs.Indexed.{IsTakenOut, AreFewRequests}
use Rattle.wb_tables.specs.Lives.{AreEarly}
use Rattle.wb_tables.specs.Kept.{PlainTenancy, case_of, place_of, tables_of, tenancy_of, sealed_of, live_place, purged_tenancy, lives_on}
use Rattle.wb_tables.specs.Places.{IsPlace, ArePlaces, is_tenant, is_dead, gone_under}
use Rattle.wb_tables.specs.declared.tenancy.Report.{Report as KeptCase}
use Rattle.wb_tables.specs.declared.tenancy.Tenancy.{Tenancy as KeptTenancy}
use Rattle.wb_tables.proofs.LateSessions.{there_filter, fall_filter}

-- ---- lists

-- what is left where what does not pass is dropped
pub dropped : {X Y : Type 0} (f : X → Y) (q : Y → Bool) (xs : List X) → map f (filter (λ x. not (not (q (f x)))) xs) ≡ filter q (map f xs)
dropped f q [] = refl
dropped {X} {Y} f q (x ∷ xs) = by (dropped f q xs) (q (f x)) refl
  where
    by : map f (filter (λ x. not (not (q (f x)))) xs) ≡ filter q (map f xs) → (b : Bool) → q (f x) ≡ b → map f (cond (not (not b)) (x ∷ filter (λ x. not (not (q (f x)))) xs) (filter (λ x. not (not (q (f x)))) xs)) ≡ cond b (f x ∷ filter q (map f xs)) (filter q (map f xs))
    by rest true e = ap (λ ys. f x ∷ ys) rest
    by rest false e = rest

-- numbers that ascend from above one ascend from above any that is no greater
ascend_lower : (j k : ℕ) (cs : List Case) → j ≤ k → Ascend k cs → Ascend j cs
ascend_lower j k [] le up = tt
ascend_lower j k (c ∷ cs) le up = (omega (arith, le, up.0), up.1)

ascend_filter : (k : ℕ) (p : Case → Bool) (cs : List Case) → Ascend k cs → Ascend k (filter p cs)
ascend_filter k p [] up = tt
ascend_filter k p (c ∷ cs) up = by (p c) (ascend_filter c.number p cs up.1)
  where
    by : (b : Bool) → Ascend c.number (filter p cs) → Ascend k (cond b (c ∷ filter p cs) (filter p cs))
    by true rest = (up.0, rest)
    by false rest = ascend_lower k c.number (filter p cs) (omega (arith, up.0)) rest

most_cond : (last : ℕ) (b : Bool) (c : Case) (cs : List Case) → c.number ≤ last → AtMost last cs → AtMost last (cond b (c ∷ cs) cs)
most_cond last true c cs h all = (h, all)
most_cond last false c cs h all = all

most_filter : (last : ℕ) (p : Case → Bool) (cs : List Case) → AtMost last cs → AtMost last (filter p cs)
most_filter last p [] all = tt
most_filter last p (c ∷ cs) all = most_cond last (p c) c (filter p cs) all.0 (most_filter last p cs all.1)

-- ---- identity answers

none_dead : (n : ℕ) (today : ℤ) (cs : List Case) → find (has_number n) cs ≡ None → is_dead n today cs ≡ false
none_dead n today [] e = refl
none_dead n today (c ∷ cs) e = by (none_dead n today cs) (has_number n c) refl e
  where
    by : (find (has_number n) cs ≡ None → is_dead n today cs ≡ false) → (h : Bool) → has_number n c ≡ h → cond h (Some c) (find (has_number n) cs) ≡ None → ((h && not (lives_on today c)) || is_dead n today cs) ≡ false
    by rest true is f = absurd (grind (arith, f))
    by rest false is f = rest f

none_there : (n : ℕ) (p : Case → Bool) (cs : List Case) → find (has_number n) cs ≡ None → is_there n (filter p cs) ≡ false
none_there n p [] e = refl
none_there n p (c ∷ cs) e = by (none_there n p cs) (has_number n c) refl (p c) e
  where
    by : (find (has_number n) cs ≡ None → is_there n (filter p cs) ≡ false) → (h : Bool) → has_number n c ≡ h → (b : Bool) → cond h (Some c) (find (has_number n) cs) ≡ None → is_there n (cond b (c ∷ filter p cs) (filter p cs)) ≡ false
    by rest true is b f = absurd (grind (arith, f))
    by rest false is true f = rw is (rest f)
    by rest false is false f = rest f

-- where answers stand only under reports that are there, those that are left stand under reports that live
pub gone_is : (n : ℕ) (today : ℤ) (cs : List Case) (a : Option Answered) → Apart has_number cs → (is_there n cs ≡ false → a ≡ None) → gone_under n today cs a ≡ (if is_there n (filter (lives_on today) cs) then a else None)
gone_is n today [] a apart none = none refl
gone_is n today (c ∷ cs) a apart none = by (gone_is n today cs a apart.1) (has_number n c) refl (lives_on today c) refl
  where
    by : ((is_there n cs ≡ false → a ≡ None) → gone_under n today cs a ≡ (if is_there n (filter (lives_on today) cs) then a else None)) → (h : Bool) → has_number n c ≡ h → (l : Bool) → lives_on today c ≡ l → cond ((h && not l) || is_dead n today cs) None a ≡ (if is_there n (cond l (c ∷ filter (lives_on today) cs) (filter (lives_on today) cs)) then a else None)
    by rest true e true l = rw (e, none_dead n today cs (apart.0 n e)) refl
    by rest true e false l = rw (none_there n (lives_on today) cs (apart.0 n e)) refl
    by rest false e true l = rw e (rest (λ t. none (rw (e, t) refl)))
    by rest false e false l = rest (λ t. none (rw (e, t) refl))

-- the identity answers of a report are removed
pub record IsRemoved (t number : ℕ) (old new : Room SealedItem) : Type 0 where
  pub here : answers_of new.items t number ≡ None
  pub others : (u n : ℕ) → (u ≢ t) ⊎ (n ≢ number) → answers_of new.items u n ≡ answers_of old.items u n
  pub room : old.spare ≤ new.spare

-- some of the reports that do not live were taken out, with their identity answers
pub record IsPurging (t : ℕ) (today : ℤ) (all now : List Case) (old new : Room SealedItem) : Type 0 where
  pub live : filter (lives_on today) now ≡ filter (lives_on today) all
  pub here : (n : ℕ) → gone_under n today now (answers_of new.items t n) ≡ gone_under n today all (answers_of old.items t n)
  pub others : (u n : ℕ) → u ≢ t → answers_of new.items u n ≡ answers_of old.items u n
  pub room : old.spare ≤ new.spare

none_both : (b : Bool) → cond {A = Option Answered} b None None ≡ None
none_both true = refl
none_both false = refl

dead_without : (n m : ℕ) (today : ℤ) (cs : List Case) → n ≢ m → is_dead n today (filter (λ c. not (has_number m c)) cs) ≡ is_dead n today cs
dead_without n m today [] ne = refl
dead_without n m today (c ∷ cs) ne = by (dead_without n m today cs ne) (has_number m c) refl
  where
    by : is_dead n today (filter (λ c. not (has_number m c)) cs) ≡ is_dead n today cs → (b : Bool) → has_number m c ≡ b
        → is_dead n today (cond (not b) (c ∷ filter (λ c. not (has_number m c)) cs) (filter (λ c. not (has_number m c)) cs)) ≡ ((has_number n c && not (lives_on today c)) || is_dead n today cs)
    by rest true is =
        let same : c.number ≡ m = grind (arith, nat_tests, is) in
        let other : has_number n c ≡ false = grind (arith, nat_tests, same, ne) in
        rw other rest
    by rest false is = ap (λ b. (has_number n c && not (lives_on today c)) || b) rest

pub purging_next : (t : ℕ) (today : ℤ) (m : ℕ) (all now next : List Case) (old mid new : Room SealedItem) → IsPurging t today all now old mid → IsTakenOut today m now next → IsRemoved t m mid new → IsPurging t today all next old new
purging_next t today m all now next old mid new h taken gone = record {
  live = taken.live ∙ h.live;
  here = λ n. by n (n == m) refl ∙ h.here n;
  others = λ u n ne. gone.others u n (inl ne) ∙ h.others u n ne;
  room = omega (arith, h.room, gone.room);
}
  where
    by : (n : ℕ) (b : Bool) → (n == m) ≡ b → gone_under n today next (answers_of new.items t n) ≡ gone_under n today now (answers_of mid.items t n)
    by n true e =
        let same : n ≡ m = grind (arith, nat_tests, e) in
        let dead : is_dead n today now ≡ true = ap (λ k. is_dead k today now) same ∙ taken.dead in
        ap (gone_under n today next) (ap (answers_of new.items t) same ∙ gone.here) ∙ (none_both (is_dead n today next) ∙ rw dead refl)
    by n false e =
        let other : n ≢ m = λ same. absurd (grind (arith, nat_tests, e, same)) in
        ap (gone_under n today next) (gone.others t n (inr other)) ∙ ap (λ b. if b then None else answers_of mid.items t n) (ap (is_dead n today) taken.left ∙ dead_without n m today now other)

-- where all that are left live, all is purged
all_kept : (today : ℤ) (cs : List Case) → list_any (λ c. not (lives_on today c)) cs ≡ false → filter (lives_on today) cs ≡ cs
all_kept today [] e = refl
all_kept today (c ∷ cs) e = by (λ g. all_kept today cs g) (lives_on today c) e
  where
    by : (list_any (λ c. not (lives_on today c)) cs ≡ false → filter (lives_on today) cs ≡ cs) → (b : Bool) → (not b || list_any (λ c. not (lives_on today c)) cs) ≡ false → cond b (c ∷ filter (lives_on today) cs) (filter (lives_on today) cs) ≡ c ∷ cs
    by rest true f = ap (λ ds. c ∷ ds) (rest f)
    by rest false f = absurd (grind (arith, f))

none_of : (n : ℕ) (today : ℤ) (cs : List Case) → list_any (λ c. not (lives_on today c)) cs ≡ false → is_dead n today cs ≡ false
none_of n today [] e = refl
none_of n today (c ∷ cs) e = by (λ g. none_of n today cs g) (has_number n c) (lives_on today c) e
  where
    by : (list_any (λ c. not (lives_on today c)) cs ≡ false → is_dead n today cs ≡ false) → (h l : Bool) → (not l || list_any (λ c. not (lives_on today c)) cs) ≡ false → ((h && not l) || is_dead n today cs) ≡ false
    by rest true true f = rest f
    by rest false true f = rest f
    by rest h false f = absurd (grind (arith, f))

pub purging_cases : (t : ℕ) (today : ℤ) (all now : List Case) (old new : Room SealedItem) → IsPurging t today all now old new → list_any (λ c. not (lives_on today c)) now ≡ false → now ≡ filter (lives_on today) all
purging_cases t today all now old new h live = sym (all_kept today now live) ∙ h.live

reports_kept : (today : ℤ) (ks : List KeptCase) → list_any (λ c. not (lives_on today c)) (map case_of ks) ≡ false → filter (λ k. lives_on today (case_of k)) ks ≡ ks
reports_kept today [] e = refl
reports_kept today (k ∷ ks) e = by (λ g. reports_kept today ks g) (lives_on today (case_of k)) e
  where
    by : (list_any (λ c. not (lives_on today c)) (map case_of ks) ≡ false → filter (λ k. lives_on today (case_of k)) ks ≡ ks) → (b : Bool) → (not b || list_any (λ c. not (lives_on today c)) (map case_of ks)) ≡ false
        → cond b (k ∷ filter (λ k. lives_on today (case_of k)) ks) (filter (λ k. lives_on today (case_of k)) ks) ≡ k ∷ ks
    by rest true f = ap (λ ds. k ∷ ds) (rest f)
    by rest false f = absurd (grind (arith, f))

pub purging_reports : (today : ℤ) (now all : List KeptCase) → list_any (λ c. not (lives_on today c)) (map case_of now) ≡ false → filter (λ k. lives_on today (case_of k)) now ≡ filter (λ k. lives_on today (case_of k)) all → now ≡ filter (λ k. lives_on today (case_of k)) all
purging_reports today now all live same = sym (reports_kept today now live) ∙ same

pub purging_here : (t : ℕ) (today : ℤ) (all now : List Case) (old new : Room SealedItem) → IsPurging t today all now old new → list_any (λ c. not (lives_on today c)) now ≡ false → (n : ℕ) → answers_of new.items t n ≡ gone_under n today all (answers_of old.items t n)
purging_here t today all now old new h live n = sym (ap (λ b. if b then None else answers_of new.items t n) (none_of n today now live)) ∙ h.here n

-- fewer are left
fewer_at_most : (m : ℕ) (cs : List Case) → length (filter (λ c. not (has_number m c)) cs) ≤ length cs
fewer_at_most m [] = omega arith
fewer_at_most m (c ∷ cs) = by (has_number m c) (fewer_at_most m cs)
  where
    by : (b : Bool) → length (filter (λ c. not (has_number m c)) cs) ≤ length cs → length (cond (not b) (c ∷ filter (λ c. not (has_number m c)) cs) (filter (λ c. not (has_number m c)) cs)) ≤ suc (length cs)
    by true le = omega (arith, le)
    by false le = omega (arith, le)

pub fewer : (today : ℤ) (m : ℕ) (cs : List Case) → is_dead m today cs ≡ true → length (filter (λ c. not (has_number m c)) cs) < length cs
fewer today m [] e = absurd (grind (arith, e))
fewer today m (c ∷ cs) e = by (λ g. fewer today m cs g) (has_number m c) (not (lives_on today c)) e
  where
    by : (is_dead m today cs ≡ true → length (filter (λ c. not (has_number m c)) cs) < length cs) → (h d : Bool) → ((h && d) || is_dead m today cs) ≡ true → length (cond (not h) (c ∷ filter (λ c. not (has_number m c)) cs) (filter (λ c. not (has_number m c)) cs)) < suc (length cs)
    by rest true d f = omega (arith, fewer_at_most m cs)
    by rest false d f = omega (arith, rest f)

pub same_tables : (t u : Tables) → t.plain ≡ u.plain → ((n : ℕ) → t.sealed n ≡ u.sealed n) → t ≡ u
same_tables t u p s = λ i. record { plain = p i; sealed = fun_ext s i }

-- ---- one tenant

within_cond : (turns last : ℕ) (b : Bool) (x : Session) (ss : List Session) → (x.turn ≤ turns) × IsWithin last x.who → AreWithin turns last ss → AreWithin turns last (cond b (x ∷ ss) ss)
within_cond turns last true x ss h all = (h, all)
within_cond turns last false x ss h all = all

within_filter : (turns last : ℕ) (p : Session → Bool) (ss : List Session) → AreWithin turns last ss → AreWithin turns last (filter p ss)
within_filter turns last p [] all = tt
within_filter turns last p (x ∷ ss) all = within_cond turns last (p x) x (filter p ss) all.0 (within_filter turns last p ss all.1)

few_filter : (p : Case → Bool) (cs : List Case) → AreFewRequests cs → AreFewRequests (filter p cs)
few_filter p [] h = tt
few_filter p (c ∷ cs) h = by (p c) (few_filter p cs h.1)
  where
    by : (b : Bool) → AreFewRequests (filter p cs) → AreFewRequests (cond b (c ∷ filter p cs) (filter p cs))
    by true rest = (h.0, rest)
    by false rest = rest

early_filter : (p : Case → Bool) (cs : List Case) → AreEarly cs → AreEarly (filter p cs)
early_filter p [] h = tt
early_filter p (c ∷ cs) h = by (p c) (early_filter p cs h.1)
  where
    by : (b : Bool) → AreEarly (filter p cs) → AreEarly (cond b (c ∷ filter p cs) (filter p cs))
    by true rest = (h.0, rest)
    by false rest = rest

-- what holds of the place after it
pub purged_is_place : (turns time : ℕ) (items new : List SealedItem) (x : PlainTenancy) → IsPlace turns items x → ((n : ℕ) → answers_of new x.id n ≡ (purged time (tables_of items x)).sealed n) → IsPlace turns new (live_place time x)
purged_is_place turns time items new x h here = record {
  id = h.id;
  plain = record {
    registry = h.plain.registry;
    cases = apart_filter has_number (is_live x.plain.registry.settings time) x.plain.cases h.plain.cases;
    receipts = apart_filter has_receipt (is_live x.plain.registry.settings time) x.plain.cases h.plain.receipts;
    logins = apart_filter has_turn (lasts time (live_cases x.plain time)) x.plain.sessions h.plain.logins;
  };
  drawn = h.drawn;
  ascend = ascend_filter 0 (is_live x.plain.registry.settings time) x.plain.cases h.ascend;
  most = most_filter x.plain.numbering.last (is_live x.plain.registry.settings time) x.plain.cases h.most;
  sessions = within_filter turns x.plain.numbering.last (lasts time (live_cases x.plain time)) x.plain.sessions h.sessions;
  there = there_filter time (live_cases x.plain time) x.plain.sessions;
  moments = fall_filter 0 (lasts time (live_cases x.plain time)) x.plain.sessions h.moments;
  requests = few_filter (is_live x.plain.registry.settings time) x.plain.cases h.requests;
  days = early_filter (is_live x.plain.registry.settings time) x.plain.cases h.days;
  unsealed = λ n absent. here n ∙ ap (λ b. if b then sealed_of items x.id n else None) absent;
}

-- ---- all tenants

abbrev pub AreOthers : List SealedItem → List SealedItem → ℕ → Type 0
AreOthers items new t = (u n : ℕ) → u ≢ t → answers_of new u n ≡ answers_of items u n

same_tenancy : (x y : Tenancy) → x.id ≡ y.id → x.tables ≡ y.tables → x ≡ y
same_tenancy x y i t = λ k. record { id = i k; tables = t k }

pub same_place : (turns : ℕ) (items new : List SealedItem) (x : PlainTenancy) → IsPlace turns items x → ((n : ℕ) → answers_of new x.id n ≡ answers_of items x.id n) → IsPlace turns new x
same_place turns items new x h same = record { id = h.id; plain = h.plain; drawn = h.drawn; ascend = h.ascend; most = h.most; sessions = h.sessions; there = h.there; moments = h.moments; requests = h.requests; days = h.days; unsealed = λ n e. same n ∙ h.unsealed n e }

pub places_above : (turns k t : ℕ) (items new : List SealedItem) (xs : List PlainTenancy) → t ≤ k → ArePlaces turns k items xs → AreOthers items new t → ArePlaces turns k new xs
places_above turns k t items new [] le all others = tt
places_above turns k t items new (x ∷ xs) le all others =
    let ne : x.id ≢ t = λ is. absurd (omega (arith, is, all.0.0)) in
    ((all.0.0, same_place turns items new x all.0.1 (λ n. others x.id n ne)), places_above turns x.id t items new xs (omega (arith, all.0.0)) all.1 others)

pub tenancies_above : (turns k t : ℕ) (items new : List SealedItem) (xs : List PlainTenancy) → t ≤ k → ArePlaces turns k items xs → AreOthers items new t → map (tenancy_of new) xs ≡ map (tenancy_of items) xs
tenancies_above turns k t items new [] le all others = refl
tenancies_above turns k t items new (x ∷ xs) le all others =
    let ne : x.id ≢ t = λ is. absurd (omega (arith, is, all.0.0)) in
    ap (λ y. y ∷ map (tenancy_of new) xs) (same_tenancy (tenancy_of new x) (tenancy_of items x) refl (same_tables (tables_of new x) (tables_of items x) refl (λ n. others x.id n ne)))
    ∙ ap (λ ys. tenancy_of items x ∷ ys) (tenancies_above turns x.id t items new xs (omega (arith, all.0.0)) all.1 others)

-- a tenant below all others is not one of them
pub absent_below : (turns k t : ℕ) (items : List SealedItem) (xs : List PlainTenancy) → t ≤ k → ArePlaces turns k items xs → find (is_tenant t) xs ≡ None
absent_below turns k t items [] le all = refl
absent_below turns k t items (x ∷ xs) le all =
    let ne : (x.id == t) ≡ false = grind (arith, nat_tests, le, all.0.0) in
    rw ne (absent_below turns x.id t items xs (omega (arith, le, all.0.0)) all.1)

-- the first tenant, and then the others
pub purged_first : (time : ℕ) (items new : List SealedItem) (x y : PlainTenancy) → y ≡ live_place time x → ((n : ℕ) → answers_of new x.id n ≡ (purged time (tables_of items x)).sealed n) → tenancy_of new y ≡ purged_tenancy time (tenancy_of items x)
purged_first time items new x y e here =
    ap (tenancy_of new) e ∙ same_tenancy (tenancy_of new (live_place time x)) (purged_tenancy time (tenancy_of items x)) refl (same_tables (tables_of new (live_place time x)) (purged time (tables_of items x)) refl here)

-- the others, once the first is purged
pub rest_places : (turns k : ℕ) (items mid : List SealedItem) (ks : List KeptTenancy) (x : KeptTenancy) (rest : List KeptTenancy) → ks ≡ x ∷ rest → ArePlaces turns k items (map place_of ks) → AreOthers items mid x.configuration.tenant → ArePlaces turns x.configuration.tenant mid (map place_of rest)
rest_places turns k items mid ks x rest e all others =
    let split : ArePlaces turns k items (place_of x ∷ map place_of rest) = subst (λ (l : List KeptTenancy). ArePlaces turns k items (map place_of l)) e all in
    places_above turns x.configuration.tenant x.configuration.tenant items mid (map place_of rest) (omega arith) split.1 others

pub all_purged : (turns time k : ℕ) (items mid new : List SealedItem) (ks : List KeptTenancy) (x : KeptTenancy) (rest : List KeptTenancy) (y : PlainTenancy) (zs : List PlainTenancy) → ks ≡ x ∷ rest → ArePlaces turns k items (map place_of ks) → y ≡ live_place time (place_of x)
    → ((n : ℕ) → answers_of mid x.configuration.tenant n ≡ (purged time (tables_of items (place_of x))).sealed n) → AreOthers items mid x.configuration.tenant
    → ((t n : ℕ) → find (is_tenant t) (map place_of rest) ≡ None → answers_of new t n ≡ answers_of mid t n) → map (tenancy_of new) zs ≡ map (purged_tenancy time) (map (tenancy_of mid) (map place_of rest))
    → tenancy_of new y ∷ map (tenancy_of new) zs ≡ map (purged_tenancy time) (map (tenancy_of items) (map place_of ks))
all_purged turns time k items mid new ks x rest y zs e all first here others kept made =
    let split : ArePlaces turns k items (place_of x ∷ map place_of rest) = subst (λ (l : List KeptTenancy). ArePlaces turns k items (map place_of l)) e all in
    let absent = absent_below turns x.configuration.tenant x.configuration.tenant items (map place_of rest) (omega arith) split.1 in
    let head : tenancy_of new y ≡ purged_tenancy time (tenancy_of items (place_of x)) = purged_first time items new (place_of x) y first (λ n. kept x.configuration.tenant n absent ∙ here n) in
    let tail : map (tenancy_of new) zs ≡ map (purged_tenancy time) (map (tenancy_of items) (map place_of rest)) =
    made ∙ ap (map (purged_tenancy time)) (tenancies_above turns x.configuration.tenant x.configuration.tenant items mid (map place_of rest) (omega arith) split.1 others) in
    ap (λ t. t ∷ map (tenancy_of new) zs) head
    ∙ (ap (λ ts. purged_tenancy time (tenancy_of items (place_of x)) ∷ ts) tail
    ∙ sym (ap (λ (l : List KeptTenancy). map (purged_tenancy time) (map (tenancy_of items) (map place_of l))) e))

-- the places after it
pub purged_places : (turns time k : ℕ) (items new : List SealedItem) (xs ys : List PlainTenancy) → ys ≡ map (live_place time) xs → map (tenancy_of new) ys ≡ map (purged_tenancy time) (map (tenancy_of items) xs) → ArePlaces turns k items xs → ArePlaces turns k new ys
purged_places turns time k items new xs ys e made all = rw e (by k xs (ap (map (tenancy_of new)) (sym e) ∙ made) all)
  where
    by : (k : ℕ) (xs : List PlainTenancy) → map (tenancy_of new) (map (live_place time) xs) ≡ map (purged_tenancy time) (map (tenancy_of items) xs) → ArePlaces turns k items xs → ArePlaces turns k new (map (live_place time) xs)
    by k [] made all = tt
    by k (x ∷ xs) made all =
        let first : tenancy_of new (live_place time x) ≡ purged_tenancy time (tenancy_of items x) = cc in
        let rest : map (tenancy_of new) (map (live_place time) xs) ≡ map (purged_tenancy time) (map (tenancy_of items) xs) = cc in
        ((all.0.0, purged_is_place turns time items new x all.0.1 (λ n. ap (λ (z : Tenancy). z.tables.sealed n) first)), by x.id xs rest all.1)
