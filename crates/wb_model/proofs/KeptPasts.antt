-- What a past that verdicts made keeps of its reports, and that a host may be opened with it again.
use Rattle.std.proofs.Common.{◌≡◌, ℕ, ◌≤◌, Bool, true, false, cond, eqb, List, [], ◌∷◌, ◌++◌, None, refl, sym, ap, ◌∙◌, subst, arith}
use Rattle.std.specs.Prelude.{map, filter, max, is_some}
use Rattle.std.proofs.lemmas.Bool.Decides.{nat_tests}
use Rattle.wb_model.specs.declared.entry.Entry.{Entry}
use Rattle.wb_model.specs.declared.event.Event.{Event}
use Rattle.wb_model.specs.declared.event.What.{What}
use Rattle.wb_model.specs.declared.event.What.TheVariants.{Did, Gap, Idle, Lost}
use Rattle.wb_model.specs.Trails.{has_identity}
use Rattle.wb_model.specs.Requests.{Frame, plain_part}
use Rattle.wb_model.specs.Tables.{Plain, Case, has_receipt, is_live, is_there, report}
use Rattle.wb_model.specs.Changes.{TurnContext}
use Rattle.wb_model.specs.Host.{Tables, change_of, ruling}
use Rattle.wb_model.specs.Legal.{Reckoning, reckoning, last_at, AreLegal}
use Rattle.wb_model.specs.Opened.{AtMost, HaveForms, AreBegunBy, Apart, entries_of, AreOpened, Opened}
use Rattle.wb_model.specs.Past.{Past, Opening, Turn, now, registry, last, drawn_at, numbers, case_of, trail, sealed, live_reports, plain, tables, held}
use Rattle.wb_model.specs.PastTurns.{at_frame, target_at, what_at}
use Rattle.wb_model.specs.ByVerdicts.{IsByVerdict, AreByVerdicts}
use Rattle.wb_model.specs.Reopened.{entry_moments, moments, latest, without_sessions}
use Rattle.wb_model.proofs.PastLaw.{Below, live_twice, numbers_below}
use Rattle.wb_model.proofs.Drawn.{reached}
use Rattle.wb_model.proofs.HeldTables.{opened_back}
use Rattle.wb_model.proofs.TurnLaw.{event, turn_tables}
use Rattle.wb_model.proofs.Leaving.{apart_filter}
use Rattle.wb_model.proofs.Receipts.{Receipts, later_receipts, receipts_request}
use Rattle.wb_model.proofs.LegalPasts.{live_up, trails_legal, registries_sound}
use Rattle.wb_model.proofs.Marked.{marked}
use Rattle.wb_model.proofs.Numberings.{numbered}
use Rattle.wb_model.proofs.InOrder.{past_ordered}
use Rattle.wb_model.proofs.KeptForms.{filtered_forms, filtered_begun, later_begun, AreMade, change_made, verdict_made}

-- ---- what passes

pub below_filtered : (p : Case → Bool) (past : Past Opened) (k : ℕ) (ns : List ℕ) → Below k ns → AtMost k (filter p (map (case_of past) ns))
below_filtered p past k [] all = tt
below_filtered p past k (n ∷ ns) all = by (p (case_of past n)) (below_filtered p past k ns all.1)
  where
    by : (b : Bool) → AtMost k (filter p (map (case_of past) ns)) → AtMost k (cond b (case_of past n ∷ filter p (map (case_of past) ns)) (filter p (map (case_of past) ns)))
    by true ih = (all.0, ih)
    by false ih = ih

-- ---- each past that verdicts made

-- the live reports of a past are made, and their receipts are apart
record IsKept (past : Past Opened) : Type 0 where
  made : AreMade (plain past (now past))
  receipts : Receipts past

later_made : (past : Past Opened) (time : ℕ) → now past ≤ time → AreMade (plain past (now past)) → AreMade (plain past time)
later_made past time le made =
    let live = is_live (registry past).settings in
    let twice = live_twice (registry past).settings (now past) time le (map (case_of past) (numbers past)) in
    record {
      versions = made.versions;
      forms = subst (HaveForms (registry past).forms) twice (filtered_forms (live time) (registry past).forms (live_reports past (now past)) made.forms);
      begun = subst (AreBegunBy (drawn_at past)) twice (filtered_begun (live time) (drawn_at past) (live_reports past (now past)) made.begun);
    }

opening_kept : (o : Opened) → IsKept (Opening o)
opening_kept o =
    let cs : List Case = o.tables.plain.cases in
    let lives : Case → Bool = is_live o.tables.plain.registry.settings o.at in
    let back = sym (opened_back 0 cs o.sound.ascend) in
    record {
      made = record {
        versions = o.sound.versions;
        forms = subst (λ ds. HaveForms o.tables.plain.registry.forms (filter lives ds)) back (filtered_forms lives o.tables.plain.registry.forms cs o.sound.forms);
        begun = subst (λ ds. AreBegunBy o.tables.plain.numbering.at (filter lives ds)) back (filtered_begun lives o.tables.plain.numbering.at cs o.sound.begun);
      };
      receipts = subst (λ ds. Apart has_receipt (filter lives ds)) back (apart_filter has_receipt lives cs o.sound.receipts);
    }

request_kept : (t : ℕ) (past : Past Opened) (f : Frame) → AreByVerdicts t past → IsKept past → IsKept (Turn (event f (what_at t past f)) past)
request_kept t past f verdicts is =
    let at : TurnContext = at_frame past f in
    let p : Plain = plain past at.time in
    record {
      made = subst AreMade (sym (ap (λ (x : Tables). x.plain) (turn_tables t past f)))
          (change_made at.time p (change_of (ruling (tables past at.time) at f.asked)) (verdict_made p at (plain_part p f.asked) (target_at past f)) (let r : drawn_at past ≤ now past = reached past in omega (arith, r)) (trails_legal t at.time past verdicts (omega arith)) (later_made past at.time (omega arith) is.made));
      receipts = receipts_request t past f is.receipts;
    }

turned_kept : (t : ℕ) (past : Past Opened) (e : Event) → IsByVerdict t past e e.what → AreByVerdicts t past → IsKept past → IsKept (Turn e past)
turned_kept t past e made verdicts is = by e.what made
  where
    time : ℕ
    time = now (Turn e past)

    later : AreMade (plain past time)
    later = later_made past time (omega arith) is.made

    by : (w : What) → IsByVerdict t past e w → IsKept (Turn (record { moment = e.moment; words = e.words; what = w }) past)
    by (Did asked who) h = subst (λ w. IsKept (Turn (record { moment = e.moment; words = e.words; what = w }) past)) h.1 (request_kept t past (record { moment = e.moment; words = e.words; asked = asked }) verdicts is)
    by (Gap u) h = record {
      made = record { versions = later.versions; forms = later.forms; begun = later_begun (drawn_at past) time (live_reports past time) (let r : drawn_at past ≤ now past = reached past in omega (arith, r)) later.begun };
      receipts = later_receipts past time (omega arith) is.receipts;
    }
    by Idle h = record { made = record { versions = later.versions; forms = later.forms; begun = later.begun }; receipts = later_receipts past time (omega arith) is.receipts }
    by Lost h = record { made = record { versions = later.versions; forms = later.forms; begun = later.begun }; receipts = later_receipts past time (omega arith) is.receipts }

past_kept : (t : ℕ) (past : Past Opened) → AreByVerdicts t past → IsKept past
past_kept t (Opening o) made = opening_kept o
past_kept t (Turn e past) made = turned_kept t past e made.0 made.1 (past_kept t past made.1)

-- ---- identity answers of what is live

live_marks : (past : Past Opened) (p : Case → Bool) (r : ℕ) (ns : List ℕ) →
    is_some (cond (is_there r (filter p (map (case_of past) ns))) (sealed past r) None) ≡ has_identity (entries_of (report r (filter p (map (case_of past) ns))))
live_marks past p r [] = refl
live_marks past p r (n ∷ ns) = by (p (case_of past n)) (eqb n r) refl (live_marks past p r ns)
  where
    by : (b d : Bool) → eqb n r ≡ d → is_some (cond (is_there r (filter p (map (case_of past) ns))) (sealed past r) None) ≡ has_identity (entries_of (report r (filter p (map (case_of past) ns)))) →
        is_some (cond (is_there r (cond b (case_of past n ∷ filter p (map (case_of past) ns)) (filter p (map (case_of past) ns)))) (sealed past r) None) ≡ has_identity (entries_of (report r (cond b (case_of past n ∷ filter p (map (case_of past) ns)) (filter p (map (case_of past) ns)))))
    by false d is ih = ih
    by true false is ih = rw is ih
    by true true is ih = let here : r ≡ n = grind (arith, nat_tests, is) in rw is (marked past r ∙ ap (λ k. has_identity (trail past k)) here)

-- ---- moments

pub latest_first : (ms ns : List ℕ) → latest ms ≤ latest (ms ++ ns)
latest_first [] ns = omega arith
latest_first (m ∷ ms) ns = let ih : latest ms ≤ latest (ms ++ ns) = latest_first ms ns in omega (arith, ih)

pub latest_rest : (ms ns : List ℕ) → latest ns ≤ latest (ms ++ ns)
latest_rest [] ns = omega arith
latest_rest (m ∷ ms) ns = let ih : latest ns ≤ latest (ms ++ ns) = latest_rest ms ns in omega (arith, ih)

-- the last entry's moment is one of all
last_latest : (time : ℕ) (es : List Entry) → last_at time es ≤ max time (latest (map (λ (e : Entry). e.at) es))
last_latest time [] = omega arith
last_latest time (e ∷ es) = let ih : last_at e.at es ≤ max e.at (latest (map (λ (x : Entry). x.at) es)) = last_latest e.at es in omega (arith, ih)

done_by : (days : Reckoning) (m at : ℕ) (cs : List Case) → latest (entry_moments cs) ≤ at → AreLegal days m cs → AreLegal days at cs
done_by days m at [] le legal = tt
done_by days m at (c ∷ cs) le legal =
    let here : latest (map (λ (e : Entry). e.at) c.trail) ≤ latest (entry_moments (c ∷ cs)) = latest_first (map (λ (e : Entry). e.at) c.trail) (entry_moments cs) in
    let rest : latest (entry_moments cs) ≤ latest (entry_moments (c ∷ cs)) = latest_rest (map (λ (e : Entry). e.at) c.trail) (entry_moments cs) in
    let last : last_at 0 c.trail ≤ max 0 (latest (map (λ (e : Entry). e.at) c.trail)) = last_latest 0 c.trail in
    ((legal.0.0, omega (arith, here, last, le)), done_by days m at cs (omega (arith, rest, le)) legal.1)

-- ---- the opening

tables_opened : (t at : ℕ) (past : Past Opened) → AreByVerdicts t past → latest (moments (tables past (now past))) ≤ at → AreOpened at (without_sessions (tables past (now past)))
tables_opened t at past verdicts le =
    let is = past_kept t past verdicts in
    let cs : List Case = live_reports past (now past) in
    record {
      sound = registries_sound t past verdicts;
      versions = is.made.versions;
      ordered = past_ordered past;
      numbering = numbered past;
      drawn = omega (arith, le);
      ascend = live_up past (now past);
      most = below_filtered (is_live (registry past).settings (now past)) past (last past) (numbers past) (numbers_below past);
      begun = is.made.begun;
      legal = done_by (reckoning (registry past).settings) (now past) at cs (omega (arith, le)) (trails_legal t (now past) past verdicts (omega arith));
      forms = is.made.forms;
      receipts = is.receipts;
      marks = λ r. live_marks past (is_live (registry past).settings (now past)) r (numbers past);
      sessions = refl;
    }

-- what is held of a past that verdicts made is what a host may be opened with, from its greatest moment on
pub held_opened : (t at : ℕ) (past : Past Opened) → AreByVerdicts t past → latest (moments (held past)) ≤ at → AreOpened at (without_sessions (held past))
held_opened t at (Opening o) verdicts le = record {
  sound = o.sound.sound;
  versions = o.sound.versions;
  ordered = o.sound.ordered;
  numbering = o.sound.numbering;
  drawn = omega (arith, le);
  ascend = o.sound.ascend;
  most = o.sound.most;
  begun = o.sound.begun;
  legal = done_by (reckoning o.tables.plain.registry.settings) o.at at o.tables.plain.cases (omega (arith, le)) o.sound.legal;
  forms = o.sound.forms;
  receipts = o.sound.receipts;
  marks = o.sound.marks;
  sessions = refl;
}
held_opened t at (Turn e past) verdicts le = by e.what (held_opened t at past verdicts.1) (tables_opened t at (Turn e past) verdicts) le
  where
    by : (w : What) → (latest (moments (held past)) ≤ at → AreOpened at (without_sessions (held past))) →
        (latest (moments (tables (Turn (record { moment = e.moment; words = e.words; what = w }) past) (now (Turn e past)))) ≤ at → AreOpened at (without_sessions (tables (Turn (record { moment = e.moment; words = e.words; what = w }) past) (now (Turn e past))))) →
        latest (moments (held (Turn (record { moment = e.moment; words = e.words; what = w }) past))) ≤ at → AreOpened at (without_sessions (held (Turn (record { moment = e.moment; words = e.words; what = w }) past)))
    by Lost before after le = before le
    by (Did asked who) before after le = after le
    by (Gap u) before after le = after le
    by Idle before after le = after le
