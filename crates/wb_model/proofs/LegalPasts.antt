-- The live trails of a past that verdicts made are legal.
use Rattle.std.proofs.Common.{◌≡◌, ◌≢◌, ◌⊎◌, inl, inr, ℕ, ◌+◌, ◌≤◌, Bool, true, false, cond, List, [], ◌∷◌, ◌++◌, refl, sym, ap, ◌∙◌, subst, arith}
use Rattle.std.specs.Prelude.{◌<◌, map, filter, not, ◌==◌}
use Rattle.wb_model.specs.declared.command.Asked.{Asked}
use Rattle.wb_model.specs.declared.event.Event.{Event}
use Rattle.wb_model.specs.declared.event.What.{What}
use Rattle.wb_model.specs.declared.event.What.TheVariants.{Did, Gap, Idle, Lost}
use Rattle.wb_model.specs.Commands.{fits_command, is_read}
use Rattle.wb_model.specs.Tables.{Plain, Case, is_live}
use Rattle.wb_model.specs.Targets.{Target, Nobody, Alone, On}
use Rattle.wb_model.specs.Requests.{Frame, outline, plain_part}
use Rattle.wb_model.specs.Changes.{TurnContext, Change, Begins, Deletes, Verdict, Refused, Accepted}
use Rattle.wb_model.specs.Host.{Tables, tables_after}
use Rattle.wb_model.specs.Past.{Past, Opening, Turn, now, registry, alone_at, change_at, last, numbers_after, numbers, case_of, live_reports, held, tables}
use Rattle.wb_model.specs.PastTurns.{at_frame, did, what_by, what_at, verdict_at, target_at}
use Rattle.wb_model.specs.Opened.{Ascend, Opened}
use Rattle.wb_model.specs.Pasts.{AllOpened, seen, part, has_tenant, what_in, with_turn}
use Rattle.wb_model.specs.Tenants.{tenant_at}
use Rattle.wb_model.specs.Readings.{Reading, Asks, Refuses}
use Rattle.wb_model.specs.Scripts.{Place, Loss, NotLost, ByKeeper, ByMemory, Unread, frame_of, play_asked, play_by, play, past_after}
use Rattle.wb_model.specs.Legal.{Reckoning, reckoning, IsSound, AreLegal}
use Rattle.wb_model.specs.ByVerdicts.{IsByVerdict, AreByVerdicts, AsksInRange, AskInRange}
use Rattle.wb_model.proofs.Found.{decide}
use Rattle.wb_model.proofs.Fitting.{target_held}
use Rattle.wb_model.proofs.PastLaw.{Below, live_twice, numbers_below}
use Rattle.wb_model.proofs.HeldTables.{opened_back}
use Rattle.wb_model.proofs.TurnLaw.{event, turn_tables}
use Rattle.wb_model.proofs.Drawn.{reckoning_kept}
use Rattle.wb_model.proofs.LegalTurns.{filtered_legal, turn_legal}
use Rattle.wb_model.proofs.SoundRegistries.{turn_sound}
use Rattle.wb_model.proofs.Receipts.{idle_unless}
use Rattle.wb_model.proofs.Leaving.{truth}
use Rattle.wb_model.proofs.PartLaw.{others_turn, own_turn}

-- ---- numbers ascend

abbrev Rise : ℕ → List ℕ → Type 0
Rise k [] = Unit {0}
Rise k (n ∷ ns) = (k < n) × Rise n ns

opened_rise : (k : ℕ) (cs : List Case) → Ascend k cs → Rise k (map (λ (c : Case). c.number) cs)
opened_rise k [] up = tt
opened_rise k (c ∷ cs) up = (up.0, opened_rise c.number cs up.1)

pushed_rise : (k l : ℕ) (ns : List ℕ) → k ≤ l → Below l ns → Rise k ns → Rise k (ns ++ (l + 1) ∷ [])
pushed_rise k l [] le below up = (omega (arith, le), tt)
pushed_rise k l (n ∷ ns) le below up = (up.0, pushed_rise n l ns below.0 below.1 up.1)

low_rise : (j k : ℕ) (ns : List ℕ) → j ≤ k → Rise k ns → Rise j ns
low_rise j k [] le up = tt
low_rise j k (n ∷ ns) le up = (omega (arith, le, up.0), up.1)

passed_rise : (p : ℕ → Bool) (k : ℕ) (ns : List ℕ) → Rise k ns → Rise k (filter p ns)
passed_rise p k [] up = tt
passed_rise p k (n ∷ ns) up = by (p n) (passed_rise p n ns up.1)
  where
    by : (b : Bool) → Rise n (filter p ns) → Rise k (cond b (n ∷ filter p ns) (filter p ns))
    by true ih = (up.0, ih)
    by false ih = low_rise k n (filter p ns) (omega (arith, up.0)) ih

changed_rise : (ch : Change) (l : ℕ) (ns : List ℕ) → Below l ns → Rise 0 ns → Rise 0 (numbers_after ch l ns)
changed_rise (Begins e) l ns below up = pushed_rise 0 l ns (omega arith) below up
changed_rise (Deletes n) l ns below up = passed_rise (λ m. not (m == n)) 0 ns up
changed_rise _ l ns below up = up

numbers_rise : (past : Past Opened) → Rise 0 (numbers past)
numbers_rise (Opening o) = opened_rise 0 o.tables.plain.cases o.sound.ascend
numbers_rise (Turn e past) = changed_rise (change_at past e) (last past) (numbers past) (numbers_below past) (numbers_rise past)

lower : (j k : ℕ) (cs : List Case) → j ≤ k → Ascend k cs → Ascend j cs
lower j k [] le up = tt
lower j k (c ∷ cs) le up = (omega (arith, le, up.0), up.1)

filtered_up : (p : Case → Bool) (k : ℕ) (cs : List Case) → Ascend k cs → Ascend k (filter p cs)
filtered_up p k [] up = tt
filtered_up p k (c ∷ cs) up = by (p c) (filtered_up p c.number cs up.1)
  where
    by : (b : Bool) → Ascend c.number (filter p cs) → Ascend k (cond b (c ∷ filter p cs) (filter p cs))
    by true ih = (up.0, ih)
    by false ih = lower k c.number (filter p cs) (omega (arith, up.0)) ih

cases_up : (past : Past Opened) (k : ℕ) (ns : List ℕ) → Rise k ns → Ascend k (map (case_of past) ns)
cases_up past k [] up = tt
cases_up past k (n ∷ ns) up = (up.0, cases_up past n ns up.1)

-- the live reports' numbers ascend
pub live_up : (past : Past Opened) (time : ℕ) → Ascend 0 (live_reports past time)
live_up past time = filtered_up (is_live (registry past).settings time) 0 (map (case_of past) (numbers past)) (cases_up past 0 (numbers past) (numbers_rise past))

-- ---- legal trails stay so

later_legal : (days : Reckoning) (m n : ℕ) (cs : List Case) → m ≤ n → AreLegal days m cs → AreLegal days n cs
later_legal days m n [] le legal = tt
later_legal days m n (c ∷ cs) le legal = ((legal.0.0, omega (arith, le, legal.0.1)), later_legal days m n cs le legal.1)

-- what holds of a past: its registry is in its ranges, and its live trails are legal
record IsLegal (past : Past Opened) : Type 0 where
  sound : IsSound (registry past)
  trails : AreLegal (reckoning (registry past).settings) (now past) (live_reports past (now past))

live_legal : (past : Past Opened) (time : ℕ) → now past ≤ time → IsLegal past → AreLegal (reckoning (registry past).settings) time (live_reports past time)
live_legal past time le is =
    subst (AreLegal (reckoning (registry past).settings) time) (live_twice (registry past).settings (now past) time le (map (case_of past) (numbers past)))
    (filtered_legal (is_live (registry past).settings time) (reckoning (registry past).settings) time (live_reports past (now past)) (later_legal (reckoning (registry past).settings) (now past) time (live_reports past (now past)) le is.trails))

opening_legal : (o : Opened) → IsLegal (Opening o)
opening_legal o =
    let live : Case → Bool = is_live o.tables.plain.registry.settings o.at in
    record {
      sound = o.sound.sound;
      trails = subst (λ cs. AreLegal (reckoning o.tables.plain.registry.settings) o.at (filter live cs)) (sym (opened_back 0 o.tables.plain.cases o.sound.ascend)) (filtered_legal live (reckoning o.tables.plain.registry.settings) o.at o.tables.plain.cases o.sound.legal);
    }

-- a request's turn
request_legal : (t : ℕ) (past : Past Opened) (f : Frame) → fits_command f.asked.command ≡ true → IsLegal past → IsLegal (Turn (event f (what_at t past f)) past)
request_legal t past f fits is =
    let at : TurnContext = at_frame past f in
    let p : Plain = plain_of past at.time in
    let e : Event = event f (what_at t past f) in
    let legal : AreLegal (reckoning (registry past).settings) at.time (live_reports past at.time) = live_legal past at.time (omega arith) is in
    let after : AreLegal (reckoning (registry past).settings) at.time (tables_after (tables past at.time) at f.asked).plain.cases =
    turn_legal p at (plain_part p f.asked) is.sound (λ who c e. target_held p f.asked.session (outline f.asked.command) who c e) (live_up past at.time) legal in
    let cases : AreLegal (reckoning (registry past).settings) at.time (live_reports (Turn e past) at.time) = subst (AreLegal (reckoning (registry past).settings) at.time) (sym (ap (λ (x : Tables). x.plain.cases) (turn_tables t past f))) after in
    record {
      sound = subst IsSound (sym (ap (λ (x : Tables). x.plain.registry) (turn_tables t past f))) (turn_sound p at (plain_part p f.asked) f.asked.command refl fits is.sound);
      trails = subst (λ days. AreLegal days at.time (live_reports (Turn e past) at.time)) (sym (reckoning_kept (alone_at past e) (registry past))) cases;
    }
  where
    plain_of : Past Opened → ℕ → Plain
    plain_of past time = (tables past time).plain

turned_legal : (t : ℕ) (past : Past Opened) (e : Event) → IsByVerdict t past e e.what → IsLegal past → IsLegal (Turn e past)
turned_legal t past e made is = by e.what made
  where
    by : (w : What) → IsByVerdict t past e w → IsLegal (Turn (record { moment = e.moment; words = e.words; what = w }) past)
    by (Did asked who) h = subst (λ w. IsLegal (Turn (record { moment = e.moment; words = e.words; what = w }) past)) h.1 (request_legal t past (record { moment = e.moment; words = e.words; asked = asked }) h.0 is)
    by (Gap u) h = record { sound = is.sound; trails = live_legal past (now (Turn e past)) (omega arith) is }
    by Idle h = record { sound = is.sound; trails = live_legal past (now (Turn e past)) (omega arith) is }
    by Lost h = record { sound = is.sound; trails = live_legal past (now (Turn e past)) (omega arith) is }

past_legal : (t : ℕ) (past : Past Opened) → AreByVerdicts t past → IsLegal past
past_legal t (Opening o) made = opening_legal o
past_legal t (Turn e past) made = turned_legal t past e made.0 (past_legal t past made.1)

pub registries_sound : (t : ℕ) (past : Past Opened) → AreByVerdicts t past → IsSound (registry past)
registries_sound t past made = (past_legal t past made).sound

pub trails_legal : (t time : ℕ) (past : Past Opened) → AreByVerdicts t past → now past ≤ time → AreLegal (reckoning (registry past).settings) time (live_reports past time)
trails_legal t time past made le = live_legal past time le (past_legal t past made)

-- what the host holds
pub held_legal : (t : ℕ) (past : Past Opened) → AreByVerdicts t past → AreLegal (reckoning (registry past).settings) (now past) (held past).plain.cases
held_legal t (Opening o) made = o.sound.legal
held_legal t (Turn e past) made = by e.what (trails_legal t (now (Turn e past)) (Turn e past) made (omega arith)) (held_legal t past made.1)
  where
    by : (w : What) → AreLegal (reckoning (registry (Turn (record { moment = e.moment; words = e.words; what = w }) past)).settings) (now (Turn e past)) (live_reports (Turn (record { moment = e.moment; words = e.words; what = w }) past) (now (Turn e past))) → AreLegal (reckoning (registry past).settings) (now past) (held past).plain.cases →
        AreLegal (reckoning (registry (Turn (record { moment = e.moment; words = e.words; what = w }) past)).settings) (now (Turn e past)) (held (Turn (record { moment = e.moment; words = e.words; what = w }) past)).plain.cases
    by (Did asked who) h ih = h
    by (Gap u) h ih = h
    by Idle h ih = h
    by Lost h ih = later_legal (reckoning (registry past).settings) (now past) (now (Turn e past)) (held past).plain.cases (omega arith) ih

-- ---- scripts make such pasts

-- the event is of the request itself
abbrev IsOwn : Asked → What → Type 0
IsOwn a (Did asked by) = asked ≡ a
IsOwn a _ = Unit {0}

own_did : (t : ℕ) (on : Target) (a : Asked) → IsOwn a (did t on a)
own_did t (Nobody x) a = tt
own_did t (Alone who) a = refl
own_did t (On who c) a = refl

own_what : (t : ℕ) (v : Verdict) (on : Target) (a : Asked) → IsOwn a (what_by v t on a)
own_what t (Refused x) on a = tt
own_what t (Accepted ch answer) on a = by (is_read a.command)
  where
    by : (b : Bool) → IsOwn a (cond b Idle (did t on a))
    by true = tt
    by false = own_did t on a

stands : (t : ℕ) (past : Past Opened) (f : Frame) (w : What) → fits_command f.asked.command ≡ true → what_at t past f ≡ w → IsOwn f.asked w → IsByVerdict t past (event f w) w
stands t past f (Did asked by) fits is own = subst (λ (a : Asked). (fits_command a.command ≡ true) × (what_at t past (record { moment = f.moment; words = f.words; asked = a }) ≡ Did asked by)) (sym own) (fits, is)
stands t past f _ fits is own = tt

made_turn : (t : ℕ) (past : Past AllOpened) (f : Frame) → fits_command f.asked.command ≡ true → AreByVerdicts t (part t past) → AreByVerdicts t (part t (with_turn past f))
made_turn t past f fits made = by (decide t (tenant_at f)) (truth (has_tenant past (tenant_at f)))
  where
    seeing : (w : What) → (seen t (what_in past f)) ≡ w → IsByVerdict t (part t past) (event f w) w → AreByVerdicts t (part t (with_turn past f))
    seeing w e h = (subst (λ x. IsByVerdict t (part t past) (event f x) x) (sym e) h, made)

    by : (t ≡ tenant_at f) ⊎ (t ≢ tenant_at f) → (has_tenant past (tenant_at f) ≡ true) ⊎ (has_tenant past (tenant_at f) ≡ false) → AreByVerdicts t (part t (with_turn past f))
    by (inr away) has = seeing Idle (others_turn past f t away) tt
    by (inl e) (inr has) = seeing Idle (idle_unless t (has_tenant past (tenant_at f)) (what_at (tenant_at f) (part (tenant_at f) past) f) has) tt
    by (inl e) (inl has) = seeing (what_at t (part t past) f) (ap (λ v. seen v (what_in past f)) e ∙ (own_turn past f has ∙ ap (λ v. what_at v (part v past) f) (sym e)))
        (stands t (part t past) f (what_at t (part t past) f) fits refl (own_what t (verdict_at (part t past) f) (target_at (part t past) f) f.asked))

made_asked : (t : ℕ) (past : Past AllOpened) (f : Frame) (loss : Loss) → fits_command f.asked.command ≡ true → AreByVerdicts t (part t past) → AreByVerdicts t (part t (play_asked past f loss).past)
made_asked t past f NotLost fits made = made_turn t past f fits made
made_asked t past f ByKeeper fits made = (tt, made)
made_asked t past f ByMemory fits made = (tt, made)
made_asked t past f (Unread close) fits made = made

made_place : (t : ℕ) (past : Past AllOpened) (p : Place) → AsksInRange p.reading → AreByVerdicts t (part t past) → AreByVerdicts t (part t (play past p).past)
made_place t past p fits made = by p.reading fits
  where
    by : (reading : Reading) → AsksInRange reading → AreByVerdicts t (part t (play_by past p reading).past)
    by (Asks asked) h = made_asked t past (frame_of p asked) p.loss h made
    by (Refuses fault close) h = made

-- a script's past is made by verdicts where that before it was
pub made_script : (t : ℕ) (past : Past AllOpened) (places : List Place) → AskInRange places → AreByVerdicts t (part t past) → AreByVerdicts t (part t (past_after past places))
made_script t past [] fits made = made
made_script t past (p ∷ ps) fits made = made_script t (play past p).past ps fits.1 (made_place t past p fits.0 made)
