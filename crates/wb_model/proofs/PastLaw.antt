-- The tables of one tenant's past with one more turn are the tables of the past after one step.
use Rattle.std.proofs.Common.{◌≡◌, ◌≢◌, ◌⊎◌, inl, inr, ℕ, ◌+◌, ◌≤◌, Bool, true, false, cond, eqb, List, [], ◌∷◌, ◌++◌, Option, Some, None, refl, sym, ap, ◌∙◌, subst, arith}
use Rattle.std.specs.Prelude.{nat_lt, not, filter, map, ◌&&◌, ◌||◌}
use Rattle.std.proofs.lemmas.Bool.Decides.{nat_tests}
use Rattle.std.proofs.lemmas.List.Elements.{filter-append}
use Rattle.std.proofs.lemmas.List.{map-append}
use mathlib.Core.Path.{fun_ext}
use Rattle.jiff_core.proofs.SignedLemmas.{signed_arith}
use Rattle.std.specs.Prelude.{length, ◌==◌, ℤ, int_lt, ◌<ℤ◌}
use Rattle.std.proofs.lemmas.Int.{ints}
use Rattle.wb_base.specs.Days.{day_of}
use Rattle.wb_model.specs.Trails.{expires}
use Rattle.wb_base.specs.AnswerList.{Answered}
use Rattle.wb_model.specs.declared.entry.Entry.{Entry}
use Rattle.wb_model.specs.declared.registry.TenantItem.{TenantItem}
use Rattle.wb_model.specs.Tables.{Plain, Case, Session, Who, TheUser, TheReporter, is_there, is_live, stays, lasts, others}
use Rattle.wb_model.specs.Changes.{TurnContext, Change, Draws, Begins, Notes, Deletes}
use Rattle.wb_model.specs.Host.{Sealed, Tables, purged, is_draw, noted, cases_after, sealed_under, sealed_after}
use Rattle.wb_model.specs.Past.{Past, Opening, Turn, registry, alone_at, at_of, about, trail_of, change_at, has_report, last, numbers_after, numbers, grown, lives_at, trail, live, newer, given, sealed, case_of, live_reports, logins, is_ended, stands, standing_sessions, plain, tables}
use Rattle.wb_model.specs.Opened.{AtMost, Opened}
use Rattle.wb_model.proofs.Found.{decide, same_number, other_number, filter_twice, filter_after, filter_same, filter_both}
use Rattle.wb_model.proofs.Fitting.{Fits}
use Rattle.wb_model.proofs.Agreeing.{Agree, alone_agrees}
use Rattle.wb_model.proofs.Leaving.{filter_swap, there_others}
use Rattle.std.specs.List.{list_any}

-- ---- a later purge

pub same_tables : (t u : Tables) → t.plain ≡ u.plain → ((n : ℕ) → t.sealed n ≡ u.sealed n) → t ≡ u
same_tables t u p s = λ i. record { plain = p i; sealed = fun_ext s i }

pub same_plain : (a b : Plain) → a.registry ≡ b.registry → a.numbering ≡ b.numbering → a.cases ≡ b.cases → a.sessions ≡ b.sessions → a ≡ b
same_plain a b g n c s = λ i. record { registry = g i; numbering = n i; cases = c i; sessions = s i }

pub there_before : (p : Case → Bool) (q : ℕ) (cs : List Case) → is_there q (filter p cs) ≡ true → is_there q cs ≡ true
there_before p q [] e = e
there_before p q (c ∷ cs) e = grind (arith, there_before p q cs, e)

pub both_hold : (a b : Bool) → a ≡ true → b ≡ true → (a && b) ≡ true
both_hold a b x y = grind (arith, x, y)

pub int_test : (a b : ℤ) → int_lt a b ≡ true → a <ℤ b
int_test a b e = grind (arith, ints)

pub int_holds : (a b : ℤ) → a <ℤ b → int_lt a b ≡ true
int_holds a b h = grind (arith, ints)

pub day_before : (m n : ℕ) (offset day : ℤ) → m ≤ n → int_lt (day_of n offset) day ≡ true → int_lt (day_of m offset) day ≡ true
day_before m n offset day le e = int_holds (day_of m offset) day (let later : day_of n offset <ℤ day = int_test (day_of n offset) day e in omega (arith, signed_arith, le, later))

-- what is not live stays so
pub live_earlier : (settings : TenantItem) (m n : ℕ) (c : Case) → m ≤ n → is_live settings n c ≡ true → is_live settings m c ≡ true
live_earlier settings m n c le e =
    let trail : not (length c.trail == 0) ≡ true = grind (arith, e) in
    let later : int_lt (day_of n settings.offset) (expires c.trail) ≡ true = grind (arith, e) in
    both_hold (not (length c.trail == 0)) (int_lt (day_of m settings.offset) (expires c.trail)) trail (day_before m n settings.offset (expires c.trail) le later)

pub live_twice : (settings : TenantItem) (m n : ℕ) → m ≤ n → (cs : List Case) → filter (is_live settings n) (filter (is_live settings m) cs) ≡ filter (is_live settings n) cs
live_twice settings m n le cs = filter_twice (is_live settings m) (is_live settings n) (λ c. live_earlier settings m n c le) cs

pub kept_then : (a b : Bool) (o : Option Answered) → (b ≡ true → a ≡ true) → cond b (cond a o None) None ≡ cond b o None
kept_then a true o up = ap (λ x. cond x o None) (up refl)
kept_then a false o up = refl

pub stays_more : (cs ds : List Case) (w : Who) → ((q : ℕ) → is_there q cs ≡ true → is_there q ds ≡ true) → stays cs w ≡ true → stays ds w ≡ true
stays_more cs ds (TheUser u) up e = refl
stays_more cs ds (TheReporter n) up e = up n e

pub lasts_more : (m n : ℕ) (cs ds : List Case) (s : Session) → m ≤ n → ((q : ℕ) → is_there q cs ≡ true → is_there q ds ≡ true) → lasts n cs s ≡ true → lasts m ds s ≡ true
lasts_more m n cs ds s le up e =
    let here : stays cs s.who ≡ true = grind (arith, e) in
    let more : stays ds s.who ≡ true = stays_more cs ds s.who up here in
    let time : nat_lt n (s.at + 14_400) ≡ true = grind (arith, e) in
    grind (arith, nat_tests, more, time)

pub still_stands : (before after ended : Bool) → (after ≡ true → before ≡ true) → ((before && not ended) && after) ≡ (after && not ended)
still_stands true true ended up = grind arith
still_stands true false ended up = grind arith
still_stands false true ended up = absurd (let bad : false ≡ true = up refl in grind (arith, bad))
still_stands false false ended up = refl

-- what a purge leaves of the tables at an earlier time
pub purged_tables : (past : Past Opened) (m n : ℕ) → m ≤ n → purged n (tables past m) ≡ tables past n
purged_tables past m n le =
    let settings : TenantItem = (registry past).settings in
    let cs : List Case = map (case_of past) (numbers past) in
    let twice : filter (is_live settings n) (filter (is_live settings m) cs) ≡ filter (is_live settings n) cs = live_twice settings m n le cs in
    let up : (q : ℕ) → is_there q (filter (is_live settings n) cs) ≡ true → is_there q (filter (is_live settings m) cs) ≡ true = λ q e. there_before (is_live settings n) q (filter (is_live settings m) cs) (ap (is_there q) twice ∙ e) in
    same_tables _ _
    (same_plain _ _ refl refl twice
    (ap (λ ds. filter (lasts n ds) (standing_sessions past m)) twice
    ∙ (filter_both (stands past m) (lasts n (filter (is_live settings n) cs)) (logins past)
    ∙ filter_same _ (stands past n) (λ s. still_stands (lasts m (filter (is_live settings m) cs) s) (lasts n (filter (is_live settings n) cs) s) (is_ended past s) (λ e. lasts_more m n (filter (is_live settings n) cs) (filter (is_live settings m) cs) s le up e)) (logins past))))
    (λ q. ap (λ ds. cond (is_there q ds) (cond (is_there q (filter (is_live settings m) cs)) (sealed past q) None) None) twice
    ∙ kept_then (is_there q (filter (is_live settings m) cs)) (is_there q (filter (is_live settings n) cs)) (sealed past q) (up q))

-- ---- the reports after a change

pub same_case : (n : ℕ) (t u : List Entry) → t ≡ u → ◌≡◌ {A = Case} (record { number = n; trail = t }) (record { number = n; trail = u })
same_case n t u e = λ i. record { number = n; trail = e i }

abbrev pub Below : ℕ → List ℕ → Type 0
Below k [] = Unit {0}
Below k (n ∷ ns) = (n ≤ k) × Below k ns

pub below_more : (k : ℕ) (ns : List ℕ) → Below k ns → Below (k + 1) ns
below_more k [] b = tt
below_more k (n ∷ ns) b = (omega arith, below_more k ns b.1)

pub below_push : (k : ℕ) (ns : List ℕ) → Below k ns → Below (k + 1) (ns ++ (k + 1) ∷ [])
below_push k [] b = (omega arith, tt)
below_push k (n ∷ ns) b = (omega arith, below_push k ns b.1)

below_but : (k n : ℕ) (ns : List ℕ) → Below k ns → Below k (filter (λ m. not (eqb m n)) ns)
below_but k n [] b = tt
below_but k n (m ∷ ns) b = by (eqb m n) (below_but k n ns b.1)
  where
    by : (is : Bool) → Below k (filter (λ j. not (eqb j n)) ns) → Below k (cond (not is) (m ∷ filter (λ j. not (eqb j n)) ns) (filter (λ j. not (eqb j n)) ns))
    by true rest = rest
    by false rest = (b.0, rest)

pub below_change : (ch : Change) (k : ℕ) (ns : List ℕ) → Below k ns → Below (cond (is_draw ch) (k + 1) k) (numbers_after ch k ns)
below_change Draws k ns b = below_more k ns b
below_change (Begins e) k ns b = below_push k ns b
below_change (Deletes n) k ns b = below_but k n ns b
below_change _ k ns b = b

pub at_most_below : (k : ℕ) (cs : List Case) → AtMost k cs → Below k (map (λ c. c.number) cs)
at_most_below k [] b = tt
at_most_below k (c ∷ cs) b = (b.0, at_most_below k cs b.1)

-- no report has a number above the last one drawn
pub numbers_below : (past : Past Opened) → Below (last past) (numbers past)
numbers_below (Opening o) = at_most_below o.tables.plain.numbering.last o.tables.plain.cases o.sound.most
numbers_below (Turn e past) =
    let same : Agree (alone_at past e) (change_at past e) = alone_agrees e.what (at_of past e) (registry past) (trail_of (about e.what) (trail past)) in
    subst (λ b. Below (cond b (last past + 1) (last past)) (numbers (Turn e past))) (sym same.drawing) (below_change (change_at past e) (last past) (numbers past) (numbers_below past))

pub map_below : (f g : ℕ → Case) (k : ℕ) → ((q : ℕ) → q ≤ k → g q ≡ f q) → (ns : List ℕ) → Below k ns → map g ns ≡ map f ns
map_below f g k same [] b = refl
map_below f g k same (n ∷ ns) b = ap (λ c. c ∷ map g ns) (same n b.0) ∙ ap (λ cs. f n ∷ cs) (map_below f g k same ns b.1)

pub below_in : (past : Past Opened) (k q : ℕ) (ns : List ℕ) → Below k ns → is_there q (map (case_of past) ns) ≡ true → q ≤ k
below_in past k q [] b e = absurd (grind (arith, e))
below_in past k q (n ∷ ns) b e = grind (arith, nat_tests, below_in past k q ns b.1, b.0, e)

pub below_there : (past : Past Opened) (time q : ℕ) → is_there q (live_reports past time) ≡ true → q ≤ last past
below_there past time q e = below_in past (last past) q (numbers past) (numbers_below past) (there_before (is_live (registry past).settings time) q (map (case_of past) (numbers past)) e)

-- the report of a number after a change
abbrev pub case_after : Past Opened → ℕ → Change → ℕ → Case
case_after past time ch q = record { number = q; trail = grown ch (last past) q (lives_at (registry past) time q (trail past q)) (trail past q) }

pub opens_same : (past : Past Opened) (time q : ℕ) (e : Entry) → q ≤ last past → case_after past time (Begins e) q ≡ case_of past q
opens_same past time q e le = same_case q _ _ (grind (arith, nat_tests))

pub opens_last : (past : Past Opened) (time : ℕ) (e : Entry) → ((n : ℕ) → is_live (registry past).settings time (record { number = n; trail = e ∷ [] }) ≡ true) → filter (is_live (registry past).settings time) (case_after past time (Begins e) (last past + 1) ∷ []) ≡ record { number = last past + 1; trail = e ∷ [] } ∷ []
opens_last past time e lives =
    let new : case_after past time (Begins e) (last past + 1) ≡ record { number = last past + 1; trail = e ∷ [] } = same_case (last past + 1) _ _ (ap (λ b. cond b (e ∷ []) (trail past (last past + 1))) (same_number (last past + 1) (last past + 1) refl)) in
    ap (λ c. filter (is_live (registry past).settings time) (c ∷ [])) new
    ∙ ap (λ b. cond b (record { number = last past + 1; trail = e ∷ [] } ∷ []) []) (lives (last past + 1))

pub noted_here : (past : Past Opened) (time n q : ℕ) (e : Entry) → n ≡ q → lives_at (registry past) time q (trail past q) ≡ true → case_after past time (Notes n e) q ≡ record { number = q; trail = trail past q ++ e ∷ [] }
noted_here past time n q e here lives = same_case q _ _ (ap (λ b. cond (b && lives_at (registry past) time q (trail past q)) (trail past q ++ e ∷ []) (trail past q)) (same_number n q here) ∙ ap (λ b. cond b (trail past q ++ e ∷ []) (trail past q)) lives)

pub noted_away : (past : Past Opened) (time n q : ℕ) (e : Entry) → n ≢ q → case_after past time (Notes n e) q ≡ case_of past q
noted_away past time n q e ne = same_case q _ _ (ap (λ b. cond (b && lives_at (registry past) time q (trail past q)) (trail past q ++ e ∷ []) (trail past q)) (other_number n q ne))

pub note_case : (n q : ℕ) (e : Entry) (t : List Entry) → n ≡ q → ◌≡◌ {A = Case} (record { number = q; trail = t ++ e ∷ [] }) (noted n e (record { number = q; trail = t }))
note_case n q e t here = same_case q _ _ (ap (λ b. cond b (t ++ e ∷ []) t) (sym (same_number q n (sym here))))

pub away_case : (n q : ℕ) (e : Entry) (t : List Entry) → n ≢ q → ◌≡◌ {A = Case} (record { number = q; trail = t }) (noted n e (record { number = q; trail = t }))
away_case n q e t ne = same_case q _ _ (ap (λ b. cond b (t ++ e ∷ []) t) (sym (other_number q n (λ k. ne (sym k)))))

pub note_on : (past : Past Opened) (time n q : ℕ) (e : Entry) → ((k : ℕ) (t : List Entry) → lives_at (registry past) time k t ≡ true → lives_at (registry past) time k (t ++ e ∷ []) ≡ true) → (n ≡ q) ⊎ (n ≢ q) → lives_at (registry past) time q (trail past q) ≡ true
    → (is_live (registry past).settings time (case_after past time (Notes n e) q) ≡ true) × (case_after past time (Notes n e) q ≡ noted n e (case_of past q))
note_on past time n q e leaves (inl here) lives =
    (ap (is_live (registry past).settings time) (noted_here past time n q e here lives) ∙ leaves q (trail past q) lives, noted_here past time n q e here lives ∙ note_case n q e (trail past q) here)
note_on past time n q e leaves (inr ne) lives =
    (ap (is_live (registry past).settings time) (noted_away past time n q e ne) ∙ lives, noted_away past time n q e ne ∙ away_case n q e (trail past q) ne)

pub and_false : (b : Bool) → (b && false) ≡ false
and_false true = refl
and_false false = refl

pub note_out : (past : Past Opened) (time n q : ℕ) (e : Entry) → lives_at (registry past) time q (trail past q) ≡ false → is_live (registry past).settings time (case_after past time (Notes n e) q) ≡ false
note_out past time n q e out =
    ap (λ b. is_live (registry past).settings time (record { number = q; trail = cond (eqb n q && b) (trail past q ++ e ∷ []) (trail past q) })) out
    ∙ (ap (λ b. is_live (registry past).settings time (record { number = q; trail = cond b (trail past q ++ e ∷ []) (trail past q) })) (and_false (eqb n q)) ∙ out)

map_gone : (past : Past Opened) (n : ℕ) (ns : List ℕ) → map (case_of past) (filter (λ k. not (eqb k n)) ns) ≡ others n (map (case_of past) ns)
map_gone past n [] = refl
map_gone past n (m ∷ ns) = by (eqb m n) (map_gone past n ns)
  where
    left : List ℕ
    left = filter (λ k. not (eqb k n)) ns

    by : (is : Bool) → map (case_of past) left ≡ others n (map (case_of past) ns) → map (case_of past) (cond (not is) (m ∷ left) left) ≡ cond (not is) (case_of past m ∷ others n (map (case_of past) ns)) (others n (map (case_of past) ns))
    by true ih = ih
    by false ih = ap (λ cs. case_of past m ∷ cs) ih

-- the live reports after a change that fits
pub cases_law : (past : Past Opened) (at : TurnContext) (ch : Change) → Fits at (plain past at.time) ch
    → filter (is_live (registry past).settings at.time) (map (case_after past at.time ch) (numbers_after ch (last past) (numbers past))) ≡ cases_after ch (last past) (live_reports past at.time)
cases_law past at (Begins e) fits =
    let g : ℕ → Case = case_after past at.time (Begins e) in
    let p : Case → Bool = is_live (registry past).settings at.time in
    ap (filter p) (map-append g (numbers past) ((last past + 1) ∷ []))
    ∙ (filter-append p (map g (numbers past)) (g (last past + 1) ∷ [])
    ∙ (ap (λ cs. filter p cs ++ filter p (g (last past + 1) ∷ [])) (map_below (case_of past) g (last past) (λ q le. opens_same past at.time q e le) (numbers past) (numbers_below past))
    ∙ ap (λ cs. live_reports past at.time ++ cs) (opens_last past at.time e fits)))
cases_law past at (Notes n e) fits =
    filter_after (is_live (registry past).settings at.time) (case_of past) (case_after past at.time (Notes n e)) (noted n e) (λ q. note_on past at.time n q e fits.0 (decide n q)) (λ q. note_out past at.time n q e) (numbers past)
cases_law past at (Deletes n) fits = ap (filter (is_live (registry past).settings at.time)) (map_gone past n (numbers past)) ∙ filter_swap (is_live (registry past).settings at.time) _ (map (case_of past) (numbers past))
cases_law past at _ fits = refl

-- ---- the sessions after a change

pub pushed : (q : ℕ) (cs : List Case) (c : Case) → is_there q (cs ++ c ∷ []) ≡ (is_there q cs || eqb c.number q)
pushed q [] c = grind arith
pushed q (d ∷ cs) c = grind (arith, pushed q cs c)

pub there_noted : (q n : ℕ) (e : Entry) (cs : List Case) → is_there q (map (noted n e) cs) ≡ is_there q cs
there_noted q n e [] = refl
there_noted q n e (c ∷ cs) = grind (arith, there_noted q n e cs)

-- ---- the identity answers after a change

pub opens_sealed : (k q : ℕ) (there : Bool) (secret before : Option Answered) (sealed : Sealed) → (there ≡ true → q ≤ k) → sealed q ≡ cond there before None
    → cond (there || eqb (k + 1) q) (cond (eqb (k + 1) q) secret before) None ≡ sealed_under (k + 1) secret sealed q
opens_sealed k q true None before sealed le is = let at_most : q ≤ k = le refl in grind (arith, nat_tests, is, at_most)
opens_sealed k q false None before sealed le is = grind (arith, nat_tests, is)
opens_sealed k q true (Some z) before sealed le is = let at_most : q ≤ k = le refl in grind (arith, nat_tests, is, at_most)
opens_sealed k q false (Some z) before sealed le is = grind (arith, nat_tests, is)

pub notes_sealed : (n q : ℕ) (there lives : Bool) (secret before : Option Answered) (sealed : Sealed) → (n ≡ q → there ≡ true) → (there ≡ true → lives ≡ true) → sealed q ≡ cond there before None
    → cond there (cond (eqb n q && lives) (newer secret before) before) None ≡ sealed_under n secret sealed q
notes_sealed n q true false secret before sealed here up is = absurd (let bad : false ≡ true = up refl in grind (arith, bad))
notes_sealed n q true true None before sealed here up is = grind (arith, nat_tests, is)
notes_sealed n q true true (Some z) before sealed here up is = grind (arith, nat_tests, is)
notes_sealed n q false lives None before sealed here up is = grind (arith, nat_tests, is)
notes_sealed n q false lives (Some z) before sealed here up is = let ne : n ≢ q = λ e. (let bad : false ≡ true = here e in grind (arith, bad)) in grind (arith, nat_tests, is, ne)

-- what is there is before its expiry
pub there_lives : (past : Past Opened) (time q : ℕ) (ns : List ℕ) → is_there q (filter (is_live (registry past).settings time) (map (case_of past) ns)) ≡ true → lives_at (registry past) time q (trail past q) ≡ true
there_lives past time q [] e = absurd (grind (arith, e))
there_lives past time q (n ∷ ns) e = by (lives_at (registry past) time n (trail past n)) (decide n q) refl e (there_lives past time q ns)
  where
    by : (b : Bool) → (n ≡ q) ⊎ (n ≢ q) → lives_at (registry past) time n (trail past n) ≡ b → is_there q (cond b (case_of past n ∷ filter (is_live (registry past).settings time) (map (case_of past) ns)) (filter (is_live (registry past).settings time) (map (case_of past) ns))) ≡ true →
        (is_there q (filter (is_live (registry past).settings time) (map (case_of past) ns)) ≡ true → lives_at (registry past) time q (trail past q) ≡ true) → lives_at (registry past) time q (trail past q) ≡ true
    by true (inl here) is f ih = subst (λ j. lives_at (registry past) time j (trail past j) ≡ true) here is
    by true (inr ne) is f ih = ih (grind (arith, nat_tests, f, ne))
    by false d is f ih = ih f

pub either : (a b c : Bool) → (a || b) ≡ true → (b ≡ true → c ≡ true) → (a || c) ≡ true
either true b c is up = refl
either false b c is up = up is

pub or_later : (a c : Bool) → c ≡ true → (a || c) ≡ true
or_later true c is = refl
or_later false c is = is

any_there : (past : Past Opened) (p : Case → Bool) (q : ℕ) (ns : List ℕ) → is_there q (filter p (map (case_of past) ns)) ≡ true → list_any (λ k. eqb k q) ns ≡ true
any_there past p q [] is = absurd (grind (arith, is))
any_there past p q (n ∷ ns) is = by (p (case_of past n)) is (any_there past p q ns)
  where
    by : (b : Bool) → is_there q (cond b (case_of past n ∷ filter p (map (case_of past) ns)) (filter p (map (case_of past) ns))) ≡ true → (is_there q (filter p (map (case_of past) ns)) ≡ true → list_any (λ k. eqb k q) ns ≡ true) → (eqb n q || list_any (λ k. eqb k q) ns) ≡ true
    by true k up = either (eqb n q) (is_there q (filter p (map (case_of past) ns))) (list_any (λ j. eqb j q) ns) k up
    by false k up = or_later (eqb n q) (list_any (λ j. eqb j q) ns) (up k)

-- and live
pub there_live : (past : Past Opened) (time q : ℕ) → is_there q (live_reports past time) ≡ true → live past q time ≡ true
there_live past time q is =
    both_hold (has_report past q) (lives_at (registry past) time q (trail past q)) (any_there past (is_live (registry past).settings time) q (numbers past) is) (there_lives past time q (numbers past) is)

pub sealed_off : (same there : Bool) (o : Option Answered) → cond (there && not same) o None ≡ cond same None (cond there o None)
sealed_off true true o = refl
sealed_off true false o = refl
sealed_off false true o = refl
sealed_off false false o = refl

pub sealed_law : (past : Past Opened) (at : TurnContext) (ch : Change) (secret : Option Answered) (q : ℕ) → Fits at (plain past at.time) ch
    → cond (is_there q (cases_after ch (last past) (live_reports past at.time))) (given ch (last past) q (lives_at (registry past) at.time q (trail past q)) secret (sealed past q)) None ≡ sealed_after ch (last past) secret (tables past at.time).sealed q
sealed_law past at (Begins e) secret q fits =
    ap (λ b. cond b (given (Begins e) (last past) q (lives_at (registry past) at.time q (trail past q)) secret (sealed past q)) None) (pushed q (live_reports past at.time) (record { number = last past + 1; trail = e ∷ [] }))
    ∙ opens_sealed (last past) q (is_there q (live_reports past at.time)) secret (sealed past q) (tables past at.time).sealed (below_there past at.time q) refl
sealed_law past at (Notes n e) secret q fits =
    ap (λ b. cond b (given (Notes n e) (last past) q (lives_at (registry past) at.time q (trail past q)) secret (sealed past q)) None) (there_noted q n e (live_reports past at.time))
    ∙ notes_sealed n q (is_there q (live_reports past at.time)) (lives_at (registry past) at.time q (trail past q)) secret (sealed past q) (tables past at.time).sealed
    (λ here. subst (λ j. is_there j (live_reports past at.time) ≡ true) here fits.1) (there_lives past at.time q (numbers past)) refl
sealed_law past at (Deletes n) secret q fits = ap (λ b. cond b (sealed past q) None) (there_others n q (live_reports past at.time)) ∙ sealed_off (eqb q n) (is_there q (live_reports past at.time)) (sealed past q)
sealed_law past at _ secret q fits = refl
