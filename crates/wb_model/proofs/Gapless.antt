-- Two pasts of one tenant, of which the second has all facts of the first but those of one report.
use Rattle.std.proofs.Common.{◌≡◌, ◌≢◌, ◌⊎◌, inl, inr, ℕ, ◌+◌, ◌≤◌, ◌<◌, Bool, true, false, cond, not, eqb, List, [], ◌∷◌, ◌++◌, Option, None, refl, sym, ap, ◌∙◌, subst, arith, ℤ, int_eq}
use Rattle.std.specs.Prelude.{filter, map, max, ◌&&◌}
use Rattle.std.proofs.lemmas.Bool.Decides.{nat_tests}
use Rattle.wb_base.specs.AnswerList.{Answered}
use Rattle.wb_model.specs.declared.entry.Entry.{Entry}
use Rattle.wb_model.specs.declared.event.Event.{Event}
use Rattle.wb_model.specs.declared.event.What.{What}
use Rattle.wb_model.specs.Tables.{Registry, Case, is_there, is_live, lasts, Session, others, sessions_but}
use Rattle.wb_model.specs.Changes.{Change}
use Rattle.wb_model.specs.Host.{registry_after, made, remaining}
use Rattle.wb_model.specs.Past.{Past, Turn, turns, now, at_of, about, change_in, secret_in, registry, alone_at, drew, last, drawn_at, day, drawn, numbers_after, numbers, grown, lives_at, trail_of, trail, change_at, live, given, sealed, case_of, live_reports, recent, standing_sessions, tables}
use Rattle.wb_model.specs.Opened.{Opened}
use Rattle.wb_model.specs.Absence.{without}
use Rattle.wb_model.proofs.Found.{decide, same_number, other_number}
use Rattle.wb_model.proofs.Leaving.{filter_swap, there_others, others_all, purge_sessions, sessions_none}
use Rattle.wb_model.proofs.RecentSessions.{recent_stand}
use Rattle.wb_model.proofs.PastLaw.{same_tables, same_plain, same_case, numbers_below, below_there, there_live, sealed_off}
use Rattle.wb_model.proofs.Agreeing.{Agree, alone_agrees}
use Rattle.wb_model.proofs.TurnLaw.{same_numbering}
use Rattle.wb_model.proofs.GapSteps.{GapStep, WhatStep, what_steps, but, but_below, step_draw, step_registry, step_numbers, step_trail, step_sealed, step_recent}

-- ---- changes and events

-- ---- all facts of a past without r

pub record Gapless (r : ℕ) (past other : Past Opened) : Type 0 where
  pub moments : now other ≡ now past
  pub counts : turns other ≡ turns past
  pub registries : registry other ≡ registry past
  pub days : (m : ℕ) → day other m ≡ day past m
  pub lasts_drawn : last other ≡ last past
  pub draw_times : drawn_at other ≡ drawn_at past
  pub draws_of : (d : ℤ) → drawn other d ≡ drawn past d
  pub list : numbers other ≡ but r (numbers past)
  pub trails : (q : ℕ) → q ≢ r → trail other q ≡ trail past q
  pub secrets : (q : ℕ) → q ≢ r → sealed other q ≡ sealed past q
  pub recents : (time : ℕ) → now past ≤ time → filter (lasts time (live_reports other time)) (recent other) ≡ sessions_but r (filter (lasts time (live_reports past time)) (recent past))

map_one : (r n : ℕ) (past other : Past Opened) (ns : List ℕ) (cs : List Case) (b : Bool) → ((q : ℕ) → q ≢ r → trail other q ≡ trail past q) → eqb n r ≡ b → map (case_of other) ns ≡ cs → map (case_of other) (cond (not b) (n ∷ ns) ns) ≡ cond (not b) (case_of past n ∷ cs) cs
map_one r n past other ns cs true same e ih = ih
map_one r n past other ns cs false same e ih = ap (λ c. c ∷ map (case_of other) ns) (same_case n _ _ (same n (grind (arith, nat_tests, e)))) ∙ ap (λ ds. case_of past n ∷ ds) ih

map_but : (r : ℕ) (past other : Past Opened) (ns : List ℕ) → ((q : ℕ) → q ≢ r → trail other q ≡ trail past q) → map (case_of other) (but r ns) ≡ others r (map (case_of past) ns)
map_but r past other [] same = refl
map_but r past other (n ∷ ns) same = map_one r n past other (but r ns) (others r (map (case_of past) ns)) (eqb n r) same refl (map_but r past other ns same)

cases_without : (r time : ℕ) (past other : Past Opened) → registry other ≡ registry past → numbers other ≡ but r (numbers past) → ((q : ℕ) → q ≢ r → trail other q ≡ trail past q) → live_reports other time ≡ others r (live_reports past time)
cases_without r time past other g ns tr =
    ap (λ (x : Registry). filter (is_live x.settings time) (map (case_of other) (numbers other))) g
    ∙ (ap (λ ms. filter (is_live (registry past).settings time) (map (case_of other) ms)) ns
    ∙ (ap (filter (is_live (registry past).settings time)) (map_but r past other (numbers past) tr) ∙ filter_swap (is_live (registry past).settings time) _ (map (case_of past) (numbers past))))

-- a report that is to come is not there
pub not_yet : (r time : ℕ) (past : Past Opened) → last past < r → is_there r (live_reports past time) ≡ false
not_yet r time past lt = by (is_there r (live_reports past time)) refl
  where
    by : (b : Bool) → is_there r (live_reports past time) ≡ b → b ≡ false
    by true k = absurd (let le : r ≤ last past = below_there past time r k in omega (arith, le))
    by false k = refl

-- a past is the past without a report that is to come
pub gapless_start : (r : ℕ) (past : Past Opened) → last past < r → Gapless r past past
gapless_start r past lt = record {
  moments = refl;
  counts = refl;
  registries = refl;
  lasts_drawn = refl;
  draw_times = refl;
  draws_of = λ d. refl;
  list = sym (but_below r (last past) (numbers past) (numbers_below past) lt);
  trails = λ q ne. refl;
  secrets = λ q ne. refl;
  days = λ m. refl;
  recents = λ time le. sym (sessions_none r time (live_reports past time) (recent past) (not_yet r time past lt));
}

abbrev pub with_what : Event → What → Event
with_what e v = record e { what = v }

same_at : (r : ℕ) (past other : Past Opened) (e : Event) (v : What) → Gapless r past other → at_of other (with_what e v) ≡ at_of past e
same_at r past other e v g = λ i. record { time = max (g.moments i) e.moment; turn = g.counts i + 1; words = e.words }

step_here : (r : ℕ) (past other : Past Opened) (e : Event) (v : What) → Gapless r past other → WhatStep r (last past) (at_of past e) (registry past) e.what v →
    GapStep r (last past) (change_at past e) (change_at other (with_what e v)) (secret_in e.what (registry past)) (secret_in v (registry other))
step_here r past other e v g step =
    let tr : ℕ → List Entry = trail other in
    subst (λ x. GapStep r (last past) (change_at past e) (change_in v x (registry other) (trail_of (about v) tr)) (secret_in e.what (registry past)) (secret_in v (registry other))) (sym (same_at r past other e v g))
    (subst (λ x. GapStep r (last past) (change_at past e) (change_in v (at_of past e) x (trail_of (about v) tr)) (secret_in e.what (registry past)) (secret_in v x)) (sym g.registries)
    (what_steps r (last past) (at_of past e) (registry past) e.what v (trail past) tr g.trails step))

same_lives : (r q time : ℕ) (past other : Past Opened) (e : Event) → q ≢ r → Gapless r past other → lives_at (registry other) (max (now other) e.moment) q (trail other q) ≡ lives_at (registry past) (max (now past) e.moment) q (trail past q)
same_lives r q time past other e ne g =
    ap (λ x. lives_at x (max (now other) e.moment) q (trail other q)) g.registries
    ∙ (ap (λ n. lives_at (registry past) (max n e.moment) q (trail other q)) g.moments ∙ ap (lives_at (registry past) (max (now past) e.moment) q) (g.trails q ne))

-- a step keeps the facts
pub gapless_turn : (r : ℕ) (past other : Past Opened) (e : Event) (v : What) → Gapless r past other → WhatStep r (last past) (at_of past e) (registry past) e.what v → Gapless r (Turn e past) (Turn (with_what e v) other)
gapless_turn r past other e v g what =
    let f : Event = with_what e v in
    let step = step_here r past other e v g what in
    let ch : Change = change_at past e in
    let new : Change = change_at other f in
    let was : Agree (alone_at past e) ch = alone_agrees e.what (at_of past e) (registry past) (trail_of (about e.what) (trail past)) in
    let is : Agree (alone_at other f) new = alone_agrees v (at_of other f) (registry other) (trail_of (about v) (trail other)) in
    let time : ℕ = max (now past) e.moment in
    let same_time : max (now other) e.moment ≡ time = ap (λ n. max n e.moment) g.moments in
    let draw : drew other f ≡ drew past e = is.drawing ∙ (step_draw r (last past) ch new _ _ step ∙ sym was.drawing) in
    let set : registry (Turn f other) ≡ registry (Turn e past) =
    is.setting (registry other) ∙ (ap (registry_after new) g.registries ∙ (step_registry r (last past) ch new _ _ (registry past) step ∙ sym (was.setting (registry past)))) in
    let listed : numbers (Turn f other) ≡ but r (numbers (Turn e past)) =
    ap (λ n. numbers_after new n (numbers other)) g.lasts_drawn
    ∙ (ap (numbers_after new (last past)) g.list
    ∙ step_numbers r (last past) ch new _ _ (numbers past) step) in
    let grows : (q : ℕ) → q ≢ r → trail (Turn f other) q ≡ trail (Turn e past) q = λ q ne.
    ap (λ n. grown new n q (lives_at (registry other) (max (now other) e.moment) q (trail other q)) (trail other q)) g.lasts_drawn
    ∙ (ap (λ b. grown new (last past) q b (trail other q)) (same_lives r q time past other e ne g)
    ∙ (ap (grown new (last past) q (lives_at (registry past) time q (trail past q))) (g.trails q ne) ∙ step_trail r (last past) q (lives_at (registry past) time q (trail past q)) ch new _ _ (trail past q) ne step)) in
    record {
      moments = same_time;
      counts = ap (λ n. n + 1) g.counts;
      registries = set;
      lasts_drawn = ap (λ b. cond b (last other + 1) (last other)) draw ∙ ap (λ n. cond (drew past e) (n + 1) n) g.lasts_drawn;
      draw_times = ap (λ b. cond b (max (now other) e.moment) (drawn_at other)) draw ∙ (ap (λ n. cond (drew past e) n (drawn_at other)) same_time ∙ ap (cond (drew past e) time) g.draw_times);
      draws_of = λ d.
          ap (λ b. cond (b && int_eq (day other (max (now other) e.moment)) d) (drawn other d + 1) (drawn other d)) draw
          ∙ (ap (λ n. cond (drew past e && int_eq (day other n) d) (drawn other d + 1) (drawn other d)) same_time
          ∙ (ap (λ x. cond (drew past e && int_eq x d) (drawn other d + 1) (drawn other d)) (g.days time)
          ∙ ap (λ n. cond (drew past e && int_eq (day past time) d) (n + 1) n) (g.draws_of d)));
      list = listed;
      trails = grows;
      secrets = λ q ne.
          ap (λ n. given new n q (lives_at (registry other) (max (now other) e.moment) q (trail other q)) (secret_in v (registry other)) (sealed other q)) g.lasts_drawn
          ∙ (ap (λ b. given new (last past) q b (secret_in v (registry other)) (sealed other q)) (same_lives r q time past other e ne g)
          ∙ (ap (given new (last past) q (lives_at (registry past) time q (trail past q)) (secret_in v (registry other))) (g.secrets q ne)
          ∙ step_sealed r (last past) q (lives_at (registry past) time q (trail past q)) ch new _ _ (sealed past q) ne step));
      days = g.days;
      recents = λ at le.
          let before : List Session = filter (lasts time (live_reports past time)) (recent past) in
          let before_other : List Session = filter (lasts time (live_reports other time)) (recent other) in
          let standing : before_other ≡ sessions_but r before = g.recents time (omega arith) in
          let step_cases : live_reports other time ≡ others r (live_reports past time) = cases_without r time past other g.registries g.list g.trails in
          ap (λ (cs : List Case). filter (lasts at cs) (recent (Turn f other))) (cases_without r at (Turn e past) (Turn f other) set listed grows)
          ∙ (ap (filter (lasts at (others r (live_reports (Turn e past) at))))
          (ap (λ n. remaining new (filter (lasts n (live_reports other n)) (recent other)) ++ filter (lasts n (live_reports other n)) (made new)) same_time
          ∙ (ap (λ ss. remaining new ss ++ filter (lasts time (live_reports other time)) (made new)) standing
          ∙ (ap (λ cs. remaining new (sessions_but r before) ++ filter (lasts time cs) (made new)) step_cases
          ∙ step_recent r (last past) time (live_reports past time) ch new _ _ before step)))
          ∙ purge_sessions r at (live_reports (Turn e past) at) (remaining ch before ++ filter (lasts time (live_reports past time)) (made ch)));
    }

-- ---- the tables without r

off_sealed : (b : Bool) (o : Option Answered) → cond (b && not true) o None ≡ None
off_sealed true o = refl
off_sealed false o = refl

other_sealed : (r q : ℕ) (b : Bool) (past other : Past Opened) → Gapless r past other → (q ≡ r) ⊎ (q ≢ r) → cond (b && not (eqb q r)) (sealed other q) None ≡ cond (eqb q r) None (cond b (sealed past q) None)
other_sealed r q b past other g (inl e) = let k : eqb q r ≡ true = same_number q r e in rw k (off_sealed b (sealed other q))
other_sealed r q b past other g (inr ne) = ap (λ o. cond (b && not (eqb q r)) o None) (g.secrets q ne) ∙ sealed_off (eqb q r) b (sealed past q)

cases_gapless : (r time : ℕ) (past other : Past Opened) → Gapless r past other → live_reports other time ≡ others r (live_reports past time)
cases_gapless r time past other g = cases_without r time past other g.registries g.list g.trails

same_days : (r : ℕ) (past other : Past Opened) → Gapless r past other → day other (drawn_at other) ≡ day past (drawn_at past)
same_days r past other g = g.days (drawn_at other) ∙ ap (day past) g.draw_times

same_sessions : (r time : ℕ) (past other : Past Opened) → now past ≤ time → Gapless r past other → standing_sessions other time ≡ sessions_but r (standing_sessions past time)
same_sessions r time past other le g = sym (recent_stand other time (let k : now other ≡ now past = g.moments in omega (arith, le, k))) ∙ (g.recents time le ∙ ap (sessions_but r) (recent_stand past time le))

-- the tables of the past without r are the tables, without r
pub gapless_tables : (r time : ℕ) (past other : Past Opened) → now past ≤ time → Gapless r past other → tables other time ≡ without r (tables past time)
gapless_tables r time past other le g =
    same_tables _ _
    (same_plain _ _ g.registries (same_numbering _ _ g.draw_times (ap (drawn other) (same_days r past other g) ∙ g.draws_of (day past (drawn_at past))) g.lasts_drawn) (cases_gapless r time past other g) (same_sessions r time past other le g))
    (λ q.
    ap (λ (cs : List Case). cond (is_there q cs) (sealed other q) None) (cases_gapless r time past other g)
    ∙ (ap (λ b. cond b (sealed other q) None) (there_others r q (live_reports past time))
    ∙ other_sealed r q (is_there q (live_reports past time)) past other g (decide q r)))

-- where r is not there, the tables without it are the tables
pub without_none : (r time : ℕ) (past : Past Opened) → now past ≤ time → is_there r (live_reports past time) ≡ false → without r (tables past time) ≡ tables past time
without_none r time past le none =
    same_tables _ _
    (same_plain _ _ refl refl (others_all r (live_reports past time) none)
    (ap (sessions_but r) (sym (recent_stand past time le)) ∙ (sessions_none r time (live_reports past time) (recent past) none ∙ recent_stand past time le)))
    (λ q. by q (decide q r))
  where
    by : (q : ℕ) → (q ≡ r) ⊎ (q ≢ r) → cond (eqb q r) None (cond (is_there q (live_reports past time)) (sealed past q) None) ≡ cond (is_there q (live_reports past time)) (sealed past q) None
    by q (inl here) = let k : eqb q r ≡ true = same_number q r here in let n : is_there q (live_reports past time) ≡ false = ap (λ j. is_there j (live_reports past time)) here ∙ none in rw (k, n) refl
    by q (inr ne) = let k : eqb q r ≡ false = other_number q r ne in rw k refl

pub not_live : (r time : ℕ) (past : Past Opened) → live past r time ≡ false → is_there r (live_reports past time) ≡ false
not_live r time past dead = by (is_there r (live_reports past time)) refl
  where
    by : (b : Bool) → is_there r (live_reports past time) ≡ b → b ≡ false
    by true k = absurd (let bad : true ≡ false = sym (there_live past time r k) ∙ dead in grind (arith, bad))
    by false k = refl

-- absence on one past: where r is not live the tables are those of the past without it
pub gapless_same : (r time : ℕ) (past other : Past Opened) → now past ≤ time → Gapless r past other → live past r time ≡ false → tables other time ≡ tables past time
gapless_same r time past other le g dead = gapless_tables r time past other le g ∙ without_none r time past le (not_live r time past dead)
