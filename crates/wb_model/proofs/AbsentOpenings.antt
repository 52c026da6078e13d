-- Absence over openings: scripts over an opening with a report and over one without it, and what their hosts leave.
use Rattle.std.proofs.Common.{zero, suc, ◌≡◌, ◌≢◌, ◌⊎◌, inl, inr, ℕ, ◌+◌, ◌≤◌, Bool, true, false, cond, eqb, not, List, [], ◌∷◌, ◌++◌, Some, refl, sym, ap, ◌∙◌, subst, arith}
use Rattle.std.specs.Prelude.{map, max, ◌||◌, ◌&&◌}
use Rattle.std.specs.List.{list_any}
use Rattle.wb_model.specs.declared.entry.Entry.{Entry}
use Rattle.wb_model.specs.declared.event.What.{What}
use Rattle.wb_model.specs.declared.event.What.TheVariants.{Did, Gap, Idle, Lost}
use Rattle.wb_model.specs.Tables.{Case, others}
use Rattle.wb_model.specs.Requests.{Frame}
use Rattle.wb_model.specs.Host.{Tables}
use Rattle.wb_model.specs.Legal.{ascends, AreLegal, Reckoning, reckoning}
use Rattle.wb_model.specs.Opened.{AreOpened, Opened}
use Rattle.wb_model.specs.Openings.{no_settings, empty_tables}
use Rattle.wb_model.specs.Tenants.{tenant_at, Hosts}
use Rattle.wb_model.specs.Past.{Past, Opening, Turn, registry, last, held, at_of, alone_in}
use Rattle.wb_model.specs.PastTurns.{what_at}
use Rattle.wb_model.specs.Pasts.{AllOpened, seen, part, tenants, has_tenant, held_tenancy, standing_hosts, what_in}
use Rattle.wb_model.specs.Readings.{Reading, Asks, Refuses}
use Rattle.wb_model.specs.Scripts.{Loss, NotLost, ByKeeper, ByMemory, Unread, Place, frame_of, play_asked, play_by, play, script_replies, past_after}
use Rattle.wb_model.specs.ScriptsAlike.{is_made}
use Rattle.wb_model.specs.Reopened.{entry_moments, moments, all_moments, latest, left_time, without_sessions, left_tables, reopening}
use Rattle.wb_model.specs.Absence.{AreApart, AllDrawAnother, DrawOthersAfter, is_beginning, BeginsAt, begins_here, without, without_place, past_with, later_replies, purges_here, is_purged, replies_purged, lives_here, holds}
use Rattle.wb_model.specs.Rows.{rows_of, rows}
use Rattle.wb_model.proofs.RowsLeft.{AllWithout, rows_left}
use Rattle.wb_model.specs.OtherOpenings.{rows_without, IsOpenedWithout, StartTogether}
use Rattle.wb_model.proofs.Found.{decide, same_number, other_number}
use Rattle.wb_model.proofs.AllTenants.{same_alike}
use Rattle.wb_model.proofs.AlikeOpenings.{alike_at}
use Rattle.wb_model.proofs.KeptPasts.{latest_first, latest_rest}
use Rattle.wb_model.proofs.LeftTimes.{latest_both}
use Rattle.wb_model.proofs.AbsentTurns.{event_in, same_has}
use Rattle.wb_model.proofs.AbsentScripts.{Lacks, opened_tenant, absent_pasts}
use Rattle.wb_model.proofs.Gapless.{with_what}
use Rattle.wb_model.proofs.Receipts.{idle_unless}
use Rattle.wb_model.proofs.WithoutOpenings.{pick, opening_lacks, without_opened, without_live, without_replies, without_past, without_hosts, without_tables, without_unheld}
use Rattle.wb_model.proofs.OneHost.{StandAlike, same_replies, same_end, StartAlike, is_turn, takes_turn, take_turns, meet_replies, meet_end, meet_list}

-- ---- an opening at a later moment

legal_later : (days : Reckoning) (m n : ℕ) (cs : List Case) → m ≤ n → AreLegal days m cs → AreLegal days n cs
legal_later days m n [] le a = tt
legal_later days m n (c ∷ cs) le a = ((a.0.0, omega (arith, le, a.0.1)), legal_later days m n cs le a.1)

later_opened : (m n : ℕ) (t : Tables) → m ≤ n → AreOpened m t → AreOpened n t
later_opened m n t le s = record {
  sound = s.sound;
  versions = s.versions;
  ordered = s.ordered;
  numbering = s.numbering;
  drawn = omega (arith, le, s.drawn);
  ascend = s.ascend;
  most = s.most;
  begun = s.begun;
  legal = legal_later (reckoning t.plain.registry.settings) m n t.plain.cases le s.legal;
  forms = s.forms;
  receipts = s.receipts;
  marks = s.marks;
  sessions = s.sessions;
}

abbrev raised : (at : ℕ) (p : AllOpened) → p.at ≤ at → AllOpened
raised at p le = record { at = at; tenants = p.tenants; ids = p.ids; tables = p.tables; sound = λ u. later_opened p.at at (p.tables u) le (p.sound u) }

raised_without : (t r : ℕ) (o p : AllOpened) (w : IsOpenedWithout t r o p) → IsOpenedWithout t r o (raised o.at p w.at)
raised_without t r o p w = record { at = omega arith; tenants = w.tenants; others = w.others; own = w.own; drawn = w.drawn }

raised_lacks : (t r : ℕ) (o p : AllOpened) (w : IsOpenedWithout t r o p) → Lacks t r (Opening o) (Opening (raised o.at p w.at))
raised_lacks t r o p w = opening_lacks t r o (raised o.at p w.at) refl (raised_without t r o p w)

raised_same : (at : ℕ) (p : AllOpened) (le : p.at ≤ at) → p.at ≡ at → StandAlike (Opening (raised at p le)) (Opening p)
raised_same at p le e = λ i. record { turns = 0; now = (sym e) i; list = map (held_tenancy (Opening p)) p.tenants }

raised_start : (at : ℕ) (p : AllOpened) (le : p.at ≤ at) → StartAlike at (Opening (raised at p le)) (Opening p)
raised_start at p le = record { turns = refl; list = refl; first = omega arith; second = le }

raised_replies : (o p : AllOpened) (le : p.at ≤ o.at) (ps : List Place) → StartTogether o p ps → script_replies (Opening (raised o.at p le)) ps ≡ script_replies (Opening p) ps
raised_replies o p le ps (inl e) = same_replies (Opening (raised o.at p le)) (Opening p) ps (raised_same o.at p le e)
raised_replies o p le ps (inr late) = meet_replies o.at (Opening (raised o.at p le)) (Opening p) ps late (raised_start o.at p le)

raised_end : (o p : AllOpened) (le : p.at ≤ o.at) (ps : List Place) → StartTogether o p ps → take_turns ps ≡ true → StandAlike (past_after (Opening (raised o.at p le)) ps) (past_after (Opening p) ps)
raised_end o p le ps (inl e) is = same_end (Opening (raised o.at p le)) (Opening p) ps (raised_same o.at p le e)
raised_end o p le ps (inr late) is = meet_end o.at (Opening (raised o.at p le)) (Opening p) ps late (raised_start o.at p le) is

raised_list : (o p : AllOpened) (le : p.at ≤ o.at) (ps : List Place) → StartTogether o p ps → (standing_hosts (past_after (Opening (raised o.at p le)) ps)).list ≡ (standing_hosts (past_after (Opening p) ps)).list
raised_list o p le ps (inl e) = ap (λ (h : Hosts). h.list) (same_end (Opening (raised o.at p le)) (Opening p) ps (raised_same o.at p le e))
raised_list o p le ps (inr late) = meet_list o.at (Opening (raised o.at p le)) (Opening p) ps late (raised_start o.at p le)

-- ---- scripts

second : (a b : Bool) → (a && b) ≡ true → b ≡ true
second true b e = e
second false b e = absurd (grind (arith, e))

-- a script in which a report is purged has a turn
made_turn : (loss : Loss) (b : Bool) → (is_made loss && b) ≡ true → is_turn loss ≡ true
made_turn NotLost b e = refl
made_turn ByKeeper b e = refl
made_turn ByMemory b e = refl
made_turn (Unread close) b e = absurd (grind (arith, e))

purging_takes : (t r : ℕ) (past : Past AllOpened) (p : Place) (reading : Reading) → purges_here t r past p reading ≡ true → takes_turn reading p.loss ≡ true
purging_takes t r past p (Asks asked) e = made_turn p.loss (not (lives_here t r past p)) e
purging_takes t r past p (Refuses fault close) e = absurd (grind (arith, e))

purged_takes : (t r : ℕ) (past : Past AllOpened) (ps : List Place) → is_purged t r past ps ≡ true → take_turns ps ≡ true
purged_takes t r past [] is = absurd (grind (arith, is))
purged_takes t r past (p ∷ ps) is = by (purges_here t r past p p.reading) refl is (purged_takes t r (play past p).past ps)
  where
    by : (b : Bool) → purges_here t r past p p.reading ≡ b → (b || is_purged t r (play past p).past ps) ≡ true → (is_purged t r (play past p).past ps ≡ true → take_turns ps ≡ true) → (takes_turn p.reading p.loss || take_turns ps) ≡ true
    by true here k ih = let e : takes_turn p.reading p.loss ≡ true = purging_takes t r past p p.reading here in ap (λ b. b || take_turns ps) e
    by false here k ih = let e : take_turns ps ≡ true = ih k in grind (arith, e)

-- each opening has one without the report
abbrev tables_without : ℕ → ℕ → AllOpened → ℕ → Tables
tables_without t r o u = cond (eqb u t) (without r (o.tables u)) (o.tables u)

opened_without : (t r u : ℕ) (o : AllOpened) → AreOpened o.at (tables_without t r o u)
opened_without t r u o = by (eqb u t)
  where
    by : (b : Bool) → AreOpened o.at (cond b (without r (o.tables u)) (o.tables u))
    by true = without_opened r o.at (o.tables u) (o.sound u)
    by false = o.sound u

abbrev opening_without : ℕ → ℕ → AllOpened → AllOpened
opening_without t r o = record { at = o.at; tenants = o.tenants; ids = o.ids; tables = tables_without t r o; sound = λ u. opened_without t r u o }

pub absent_there : (t r : ℕ) (o : AllOpened) → r ≤ (o.tables t).plain.numbering.last → (p : AllOpened) × IsOpenedWithout t r o p
absent_there t r o drawn = (
  opening_without t r o,
  record {
    at = omega arith;
    tenants = refl;
    others = λ u ne. ap (λ b. cond b (without r (o.tables u)) (o.tables u)) (other_number u t ne);
    own = ap (λ b. cond b (without r (o.tables t)) (o.tables t)) (same_number t t refl);
    drawn = drawn;
  },
)

pub absent_live : (t r : ℕ) (o p : AllOpened) (ps : List Place) → IsOpenedWithout t r o p → StartTogether o p ps → AllDrawAnother t r (Opening o) ps → later_replies t r (Opening o) ps (map Some (script_replies (Opening o) ps)) ≡ later_replies t r (Opening o) ps (map Some (script_replies (Opening p) ps))
absent_live t r o p ps w start draw =
    without_live t r (Opening o) (Opening (raised o.at p w.at)) ps (raised_lacks t r o p w) draw
    ∙ ap (λ xs. later_replies t r (Opening o) ps (map Some xs)) (raised_replies o p w.at ps start)

pub absent_replies : (t r : ℕ) (o p : AllOpened) (ps : List Place) → IsOpenedWithout t r o p → StartTogether o p ps → AllDrawAnother t r (Opening o) ps → replies_purged t r (Opening o) ps (map Some (script_replies (Opening o) ps)) ≡ replies_purged t r (Opening o) ps (map Some (script_replies (Opening p) ps))
absent_replies t r o p ps w start draw =
    without_replies t r (Opening o) (Opening (raised o.at p w.at)) ps (raised_lacks t r o p w) draw
    ∙ ap (λ xs. replies_purged t r (Opening o) ps (map Some xs)) (raised_replies o p w.at ps start)

pub absent_hosts : (t r : ℕ) (o p : AllOpened) (ps : List Place) → IsOpenedWithout t r o p → StartTogether o p ps → AllDrawAnother t r (Opening o) ps → is_purged t r (Opening o) ps ≡ true → standing_hosts (past_after (Opening p) ps) ≡ standing_hosts (past_after (Opening o) ps)
absent_hosts t r o p ps w start draw is =
    sym (raised_end o p w.at ps start (purged_takes t r (Opening o) ps is))
    ∙ without_hosts t r (Opening o) (Opening (raised o.at p w.at)) ps (raised_lacks t r o p w) draw is

-- where the hosts at the end do not hold it, they hold the same
pub absent_tables : (t r : ℕ) (o p : AllOpened) (ps : List Place) → IsOpenedWithout t r o p → StartTogether o p ps → AllDrawAnother t r (Opening o) ps → holds t r (past_after (Opening o) ps) ≡ false → (standing_hosts (past_after (Opening p) ps)).list ≡ (standing_hosts (past_after (Opening o) ps)).list
absent_tables t r o p ps w start draw none =
    sym (raised_list o p w.at ps start)
    ∙ ap (λ (h : Hosts). h.list) (without_tables t r (Opening o) (Opening (raised o.at p w.at)) ps (raised_lacks t r o p w) draw none)

pub absent_unheld : (t r : ℕ) (o p : AllOpened) (ps : List Place) → IsOpenedWithout t r o p → AllDrawAnother t r (Opening o) ps → is_purged t r (Opening o) ps ≡ true → holds t r (past_after (Opening o) ps) ≡ false
absent_unheld t r o p ps w draw is = without_unheld t r (Opening o) (Opening (raised o.at p w.at)) ps (raised_lacks t r o p w) draw is

-- ---- what the hosts leave

-- what is left of the second past is what is left of the first, without report r of tenant t
record LeftWithout (t r : ℕ) (past other : Past AllOpened) : Type 0 where
  at : left_time other ≤ left_time past
  same : tenants other ≡ tenants past
  others : (u : ℕ) → u ≢ t → left_tables other u ≡ left_tables past u
  own : left_tables other t ≡ without r (left_tables past t)
  drawn : r ≤ (left_tables past t).plain.numbering.last

entries_less : (r : ℕ) (cs : List Case) → latest (entry_moments (others r cs)) ≤ latest (entry_moments cs)
entries_less r [] = omega arith
entries_less r (c ∷ cs) =
    let ih : latest (entry_moments (others r cs)) ≤ latest (entry_moments cs) = entries_less r cs in
    let own : List ℕ = map (λ (e : Entry). e.at) c.trail in
    let rest : latest (entry_moments cs) ≤ latest (own ++ entry_moments cs) = latest_rest own (entry_moments cs) in
    let first : latest own ≤ latest (own ++ entry_moments cs) = latest_first own (entry_moments cs) in
    let both : latest (own ++ entry_moments (others r cs)) ≤ max (latest own) (latest (entry_moments (others r cs))) = latest_both own (entry_moments (others r cs)) in
    pick (not (eqb c.number r)) (λ ds. latest (entry_moments ds) ≤ latest (entry_moments (c ∷ cs))) c (others r cs) (omega (arith, ih, rest, first, both)) (omega (arith, ih, rest))

moments_less : (r : ℕ) (t : Tables) → latest (moments (without r t)) ≤ latest (moments t)
moments_less r t = let k : latest (entry_moments (others r t.plain.cases)) ≤ latest (entry_moments t.plain.cases) = entries_less r t.plain.cases in omega (arith, k)

tenant_less : (t r u : ℕ) (past other : Past AllOpened) → Lacks t r past other → latest (moments (held (part u other))) ≤ latest (moments (held (part u past)))
tenant_less t r u past other l = by (decide u t)
  where
    by : (u ≡ t) ⊎ (u ≢ t) → latest (moments (held (part u other))) ≤ latest (moments (held (part u past)))
    by (inl e) = subst (λ v. latest (moments (held (part v other))) ≤ latest (moments (held (part v past)))) (sym e) (subst (λ x. latest (moments x) ≤ latest (moments (held (part t past)))) (sym l.held_without) (moments_less r (held (part t past))))
    by (inr ne) = subst (λ x. latest (moments (held x)) ≤ latest (moments (held (part u past)))) (sym (l.facts.rest u ne)) (omega arith)

all_less : (t r : ℕ) (past other : Past AllOpened) (ts : List ℕ) → Lacks t r past other → latest (all_moments (map (held_tenancy other) ts)) ≤ latest (all_moments (map (held_tenancy past) ts))
all_less t r past other [] l = omega arith
all_less t r past other (u ∷ us) l =
    let here : latest (moments (held (part u other))) ≤ latest (moments (held (part u past))) = tenant_less t r u past other l in
    let ih : latest (all_moments (map (held_tenancy other) us)) ≤ latest (all_moments (map (held_tenancy past) us)) = all_less t r past other us l in
    let both : latest (moments (held (part u other)) ++ all_moments (map (held_tenancy other) us)) ≤ max (latest (moments (held (part u other)))) (latest (all_moments (map (held_tenancy other) us))) = latest_both (moments (held (part u other))) (all_moments (map (held_tenancy other) us)) in
    let first : latest (moments (held (part u past))) ≤ latest (moments (held (part u past)) ++ all_moments (map (held_tenancy past) us)) = latest_first (moments (held (part u past))) (all_moments (map (held_tenancy past) us)) in
    let rest : latest (all_moments (map (held_tenancy past) us)) ≤ latest (moments (held (part u past)) ++ all_moments (map (held_tenancy past) us)) = latest_rest (moments (held (part u past))) (all_moments (map (held_tenancy past) us)) in
    omega (arith, here, ih, both, first, rest)

-- the last number that is held is the last that was drawn
held_last : (past : Past Opened) → (held past).plain.numbering.last ≡ last past
held_last (Opening o) = refl
held_last (Turn e past) = by e.what (held_last past)
  where
    by : (w : What) → (held past).plain.numbering.last ≡ last past → (held (Turn (record { moment = e.moment; words = e.words; what = w }) past)).plain.numbering.last ≡ last (Turn (record { moment = e.moment; words = e.words; what = w }) past)
    by Lost before = before
    by (Did asked who) before = refl
    by (Gap u) before = refl
    by Idle before = refl

no_tables : ℕ → Tables
no_tables t = empty_tables (record { settings = no_settings t; users = []; forms = []; contexts = [] })

left_lacks : (t r : ℕ) (past other : Past AllOpened) → Lacks t r past other → has_tenant past t ≡ true → LeftWithout t r past other
unfolding no_tables
left_lacks t r past other l there = record {
  at = subst (λ ts. latest (all_moments (map (held_tenancy other) ts)) ≤ left_time past) (sym l.facts.same_tenants) (all_less t r past other (tenants past) l);
  same = l.facts.same_tenants;
  others = λ u ne. ap (λ b. cond b (without_sessions (held (part u other))) (no_tables u)) (same_has t r u past other l.facts) ∙ ap (λ x. cond (has_tenant past u) (without_sessions (held x)) (no_tables u)) (l.facts.rest u ne);
  own =
      ap (λ b. cond b (without_sessions (held (part t other))) (no_tables t)) (same_has t r t past other l.facts ∙ there)
      ∙ (ap without_sessions l.held_without
      ∙ sym (ap (λ b. without r (cond b (without_sessions (held (part t past))) (no_tables t))) there));
  drawn = subst (λ b. r ≤ (cond b (without_sessions (held (part t past))) (no_tables t)).plain.numbering.last) (sym there) (subst (λ n. r ≤ n) (sym (held_last (part t past))) l.drawn);
}

-- what is left is told by what is held
same_list_left : (past other : Past AllOpened) (u : ℕ) → (standing_hosts past).list ≡ (standing_hosts other).list → tenants past ≡ tenants other → left_tables past u ≡ left_tables other u
unfolding no_tables
same_list_left past other u e same = by (has_tenant past u) refl ∙ ap (λ b. cond b (without_sessions (held (part u other))) (no_tables u)) (ap (list_any (λ v. eqb v u)) same)
  where
    by : (b : Bool) → has_tenant past u ≡ b → cond b (without_sessions (held (part u past))) (no_tables u) ≡ cond b (without_sessions (held (part u other))) (no_tables u)
    by false is = refl
    by true is =
        let all : Rattle.wb_model.specs.Tenants.AllAlike (u + 1) 0 (map (held_tenancy past) (tenants past)) (map (held_tenancy other) (tenants past)) =
        subst (λ ts. Rattle.wb_model.specs.Tenants.AllAlike (u + 1) 0 (map (held_tenancy past) (tenants past)) (map (held_tenancy other) ts)) (sym same)
        (subst (Rattle.wb_model.specs.Tenants.AllAlike (u + 1) 0 (map (held_tenancy past) (tenants past))) e (same_alike (u + 1) 0 (standing_hosts past)).list) in
        ap without_sessions (subst (λ c. Rattle.wb_model.specs.Tenants.AlikeWhere c 0 (held (part u past)) (held (part u other))) (other_number u (u + 1) (omega arith)) (alike_at (u + 1) 0 u past other (tenants past) all is))

left_moved : (t r : ℕ) (past other third : Past AllOpened) → LeftWithout t r past other → (standing_hosts other).list ≡ (standing_hosts third).list → tenants other ≡ tenants third → LeftWithout t r past third
left_moved t r past other third w e same = record {
  at = subst (λ xs. latest (all_moments xs) ≤ left_time past) e w.at;
  same = sym same ∙ w.same;
  others = λ u ne. sym (same_list_left other third u e same) ∙ w.others u ne;
  own = sym (same_list_left other third t e same) ∙ w.own;
  drawn = w.drawn;
}

left_opens : (t r : ℕ) (past other : Past AllOpened) → LeftWithout t r past other → (ids : ascends (tenants past) ≡ true) (sound : (u : ℕ) → AreOpened (left_time past) (left_tables past u)) →
    (other_ids : ascends (tenants other) ≡ true) (other_sound : (u : ℕ) → AreOpened (left_time other) (left_tables other u)) → IsOpenedWithout t r (reopening past ids sound) (reopening other other_ids other_sound)
left_opens t r past other w ids sound other_ids other_sound = record { at = w.at; tenants = w.same; others = w.others; own = w.own; drawn = w.drawn }

same_tenants_asked : (past : Past AllOpened) (f : Frame) (loss : Loss) → tenants (play_asked past f loss).past ≡ tenants past
same_tenants_asked past f NotLost = refl
same_tenants_asked past f ByKeeper = refl
same_tenants_asked past f ByMemory = refl
same_tenants_asked past f (Unread close) = refl

same_tenants_play : (past : Past AllOpened) (p : Place) → tenants (play past p).past ≡ tenants past
same_tenants_play past p = by p.reading
  where
    by : (reading : Reading) → tenants (play_by past p reading).past ≡ tenants past
    by (Asks asked) = same_tenants_asked past (frame_of p asked) p.loss
    by (Refuses fault close) = refl

same_tenants_after : (past : Past AllOpened) (ps : List Place) → tenants (past_after past ps) ≡ tenants past
same_tenants_after past [] = refl
same_tenants_after past (p ∷ ps) = same_tenants_after (play past p).past ps ∙ same_tenants_play past p

-- over openings
pub absent_reopened : (t r : ℕ) (o p : AllOpened) (ps : List Place) → has_tenant (Opening o) t ≡ true → IsOpenedWithout t r o p → StartTogether o p ps → AllDrawAnother t r (Opening o) ps →
    (ids : ascends (tenants (past_after (Opening o) ps)) ≡ true) (sound : (u : ℕ) → AreOpened (left_time (past_after (Opening o) ps)) (left_tables (past_after (Opening o) ps) u)) →
    (other_ids : ascends (tenants (past_after (Opening p) ps)) ≡ true) (other_sound : (u : ℕ) → AreOpened (left_time (past_after (Opening p) ps)) (left_tables (past_after (Opening p) ps) u)) →
    IsOpenedWithout t r (reopening (past_after (Opening o) ps) ids sound) (reopening (past_after (Opening p) ps) other_ids other_sound)
absent_reopened t r o p ps there w start draw =
    left_opens t r (past_after (Opening o) ps) (past_after (Opening p) ps)
    (left_moved t r (past_after (Opening o) ps) (past_after (Opening (raised o.at p w.at)) ps) (past_after (Opening p) ps)
    (left_lacks t r (past_after (Opening o) ps) (past_after (Opening (raised o.at p w.at)) ps) (without_past t r (Opening o) (Opening (raised o.at p w.at)) ps (raised_lacks t r o p w) draw)
    (ap (list_any (λ v. eqb v t)) (same_tenants_after (Opening o) ps) ∙ there))
    (raised_list o p w.at ps start)
    (same_tenants_after (Opening (raised o.at p w.at)) ps ∙ sym (same_tenants_after (Opening p) ps)))

-- after the run in which the report was submitted

begins_tenant : (t r : ℕ) (past : Past AllOpened) (p : Place) (reading : Reading) → begins_here t r past p reading ≡ true → has_tenant past t ≡ true
begins_tenant t r past p (Refuses fault close) is = absurd (grind (arith, is))
begins_tenant t r past p (Asks asked) is = by (has_tenant past (tenant_at (frame_of p asked))) refl
  where
    opens : (is_beginning (alone_in (seen t (what_in past (frame_of p asked))) (at_of (part t past) (with_what (event_in past (frame_of p asked)) (seen t (what_in past (frame_of p asked))))) (registry (part t past))) && eqb (last (part t past) + 1) r) ≡ true
    opens = second (is_made p.loss) _ is

    named : tenant_at (frame_of p asked) ≡ t
    named = opened_tenant t past (frame_of p asked) (at_of (part t past) (with_what (event_in past (frame_of p asked)) (seen t (what_in past (frame_of p asked))))) (registry (part t past)) (eqb (last (part t past) + 1) r) opens

    by : (b : Bool) → has_tenant past (tenant_at (frame_of p asked)) ≡ b → has_tenant past t ≡ true
    by true has = subst (λ n. has_tenant past n ≡ true) named has
    by false has =
        absurd (let idle : seen t (what_in past (frame_of p asked)) ≡ Idle = idle_unless t (has_tenant past (tenant_at (frame_of p asked))) (what_at (tenant_at (frame_of p asked)) (part (tenant_at (frame_of p asked)) past) (frame_of p asked)) has in
        let bad : false ≡ true = ap (λ w. is_beginning (alone_in w (at_of (part t past) (with_what (event_in past (frame_of p asked)) (seen t (what_in past (frame_of p asked))))) (registry (part t past))) && eqb (last (part t past) + 1) r) (sym idle) ∙ opens in
        grind (arith, bad))

begins_there : (i t r : ℕ) (past : Past AllOpened) (ps : List Place) → BeginsAt i t r past ps → has_tenant past t ≡ true
begins_there i t r past [] o = absurd o
begins_there zero t r past (p ∷ ps) o = begins_tenant t r past p p.reading o
begins_there (suc i) t r past (p ∷ ps) o = ap (list_any (λ v. eqb v t)) (sym (same_tenants_play past p)) ∙ begins_there i t r (play past p).past ps o

pub absent_first : (i t r : ℕ) (past : Past AllOpened) (ps : List Place) → AreApart t past → BeginsAt i t r past ps → DrawOthersAfter i t r past ps →
    (ids : ascends (tenants (past_after past ps)) ≡ true) (sound : (u : ℕ) → AreOpened (left_time (past_after past ps)) (left_tables (past_after past ps) u)) →
    (other_ids : ascends (tenants (past_with past (without_place i t ps))) ≡ true) (other_sound : (u : ℕ) → AreOpened (left_time (past_with past (without_place i t ps))) (left_tables (past_with past (without_place i t ps)) u)) →
    IsOpenedWithout t r (reopening (past_after past ps) ids sound) (reopening (past_with past (without_place i t ps)) other_ids other_sound)
absent_first i t r past ps apart begins draw =
    left_opens t r (past_after past ps) (past_with past (without_place i t ps))
    (left_lacks t r (past_after past ps) (past_with past (without_place i t ps)) (absent_pasts i t r past ps apart begins draw)
    (ap (list_any (λ v. eqb v t)) (same_tenants_after past ps) ∙ begins_there i t r past ps begins))

-- ---- rows

lacks_list : (t r : ℕ) (past other : Past AllOpened) (ts : List ℕ) → Lacks t r past other → AllWithout t r (map (held_tenancy past) ts) (map (held_tenancy other) ts)
lacks_list t r past other [] l = tt
lacks_list t r past other (u ∷ us) l =
    ((refl, (λ e. subst (λ v. held (part v other) ≡ without r (held (part v past))) (sym e) l.held_without), (λ ne. ap held (l.facts.rest u ne))), lacks_list t r past other us l)

lacks_rows : (t r : ℕ) (past other : Past AllOpened) → Lacks t r past other → rows other ≡ rows_without t r (rows past)
lacks_rows t r past other l =
    rows_left t r (standing_hosts past).list (standing_hosts other).list
    (subst (λ ts. AllWithout t r (map (held_tenancy past) (tenants past)) (map (held_tenancy other) ts)) (sym l.facts.same_tenants) (lacks_list t r past other (tenants past) l))

pub absent_rows : (t r : ℕ) (o p : AllOpened) (ps : List Place) → IsOpenedWithout t r o p → StartTogether o p ps → AllDrawAnother t r (Opening o) ps → rows (past_after (Opening p) ps) ≡ rows_without t r (rows (past_after (Opening o) ps))
absent_rows t r o p ps w start draw =
    ap rows_of (sym (raised_list o p w.at ps start))
    ∙ lacks_rows t r (past_after (Opening o) ps) (past_after (Opening (raised o.at p w.at)) ps) (without_past t r (Opening o) (Opening (raised o.at p w.at)) ps (raised_lacks t r o p w) draw)

pub absent_first_rows : (i t r : ℕ) (past : Past AllOpened) (ps : List Place) → AreApart t past → BeginsAt i t r past ps → DrawOthersAfter i t r past ps → rows (past_with past (without_place i t ps)) ≡ rows_without t r (rows (past_after past ps))
absent_first_rows i t r past ps apart begins draw = lacks_rows t r (past_after past ps) (past_with past (without_place i t ps)) (absent_pasts i t r past ps apart begins draw)
