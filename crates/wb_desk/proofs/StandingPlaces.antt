-- What a desk keeps of its tenants follows from the past that it stands for.
use Rattle.std.proofs.Common.{◌≡◌, inl, inr, ℕ, ◌<◌, ◌≤◌, ◌+◌, true, false, List, [], ◌∷◌, map, find, None, refl, sym, ap, ◌∙◌, subst, arith}
use Rattle.std.proofs.lemmas.Bool.Decides.{nat_tests}
use Rattle.wb_base.specs.Days.{IsOffset}
use Rattle.wb_case.proofs.EarlyDays.{received_early, acknowledged_early}
use Rattle.wb_custody.specs.declared.sealed.SealedItem.{SealedItem}
use Rattle.wb_custody.specs.SealedAnswers.{answers_of}
use Rattle.wb_custody.proofs.LegalRequests.{legal-few}
use Rattle.wb_model.specs.declared.numbering.Numbering.{Numbering}
use Rattle.wb_model.specs.declared.event.What.{What}
use Rattle.wb_model.specs.declared.event.What.TheVariants.{Did, Gap, Idle, Lost}
use Rattle.wb_model.specs.Trails.{has_identity}
use Rattle.wb_model.specs.Tables.{Case, Session, has_number, report}
use Rattle.wb_model.specs.Host.{Tables}
use Rattle.wb_model.specs.Tenants.{Tenancy, Hosts}
use Rattle.wb_model.specs.Legal.{Reckoning, reckoning, last_at, AreLegal}
use Rattle.wb_model.specs.Opened.{Ascend, AreWithin, Apart, has_turn, entries_of, is_numbering, AreOpened, Opened}
use Rattle.wb_model.specs.ByVerdicts.{AreByVerdicts}
use Rattle.wb_model.specs.Past.{Past, Opening, Turn, turns, now, last, logins, stands, standing_sessions, tables, is_lost, held}
use Rattle.wb_model.specs.Pasts.{AllOpened, part, tenants, held_tenancy}
use Rattle.wb_model.specs.Reopened.{moments, latest, without_sessions}
use Rattle.wb_model.proofs.Found.{Held, held_filter}
use Rattle.wb_model.proofs.SessionsLaw.{Within, logins_within}
use Rattle.wb_model.proofs.SessionsApart.{apart_sessions}
use Rattle.wb_model.proofs.KeptPasts.{held_opened}
use Rattle.wb_model.proofs.LegalPasts.{trails_legal, held_legal}
use Rattle.wb_model.proofs.PartLaw.{part_turns, part_now}
use Rattle.wb_tables.specs.Indexed.{AreFewRequests}
use Rattle.wb_tables.specs.Kept.{PlainTenancy, tables_of, tenancy_of}
use Rattle.wb_tables.specs.Lives.{AreEarly}
use Rattle.wb_tables.specs.Logins.{AreEarlier, AreThere, NeverFall}
use Rattle.wb_tables.specs.Places.{IsPlace, ArePlaces}
use Rattle.wb_tables.specs.Standing.{Standing, hosts_of}
use Rattle.wb_tables.proofs.HeldSessions.{either, there_held, moments_held}
use Rattle.wb_tables.proofs.Indexes.{some_none}
use Rattle.wb_tables.proofs.Lookups.{there-found}
use Rattle.wb_desk.specs.Desks.{HasPast}
use Rattle.wb_recovery.specs.SetUp.{IsSetUpRight, AreSetUpRight}

-- ---- sessions

all_within : (turn k : ℕ) (ss : List Session) → ((s : Session) → Held s ss → Within turn k s) → AreWithin turn k ss
all_within turn k [] within = tt
all_within turn k (s ∷ ss) within = (within s (inl refl), all_within turn k ss (λ z h. within z (inr h)))

later_within : (turn k : ℕ) (ss : List Session) → AreWithin turn k ss → AreWithin (turn + 1) k ss
later_within turn k [] are = tt
later_within turn k (s ∷ ss) are = ((omega (arith, are.0.0), are.0.1), later_within turn k ss are.1)

sessions_held : (past : Past Opened) → AreWithin (turns past) (held past).plain.numbering.last (held past).plain.sessions
sessions_held (Opening o) = all_within 0 o.tables.plain.numbering.last o.tables.plain.sessions (λ s h. logins_within (Opening o) s h)
sessions_held (Turn e past) =
    either (λ t. AreWithin (turns past + 1) t.plain.numbering.last t.plain.sessions) (is_lost e.what) (held past) (tables (Turn e past) (now (Turn e past)))
    (later_within (turns past) (held past).plain.numbering.last (held past).plain.sessions (sessions_held past))
    (all_within (turns past + 1) (last (Turn e past)) (standing_sessions (Turn e past) (now (Turn e past)))
    (λ s h. logins_within (Turn e past) s (held_filter (stands (Turn e past) (now (Turn e past))) (logins (Turn e past)) s h).0))

logins_held : (past : Past Opened) → Apart has_turn (held past).plain.sessions
logins_held (Opening o) = subst (Apart has_turn) (sym o.sound.sessions) tt
logins_held (Turn e past) =
    either (λ t. Apart has_turn t.plain.sessions) (is_lost e.what) (held past) (tables (Turn e past) (now (Turn e past)))
    (logins_held past) (apart_sessions (Turn e past) (now (Turn e past)))

-- sessions that turns made so far are earlier than a later turn
pub earlier : (turns turn k : ℕ) (ss : List Session) → turns < turn → AreWithin turns k ss → AreEarlier turn ss
earlier turns turn k [] lt are = tt
earlier turns turn k (s ∷ ss) lt are = (omega (arith, lt, are.0.0), earlier turns turn k ss lt are.1)

-- ---- what a host holds of a tenant

-- each trail is legal, of no moment after this one
record IsLegalBy (now : ℕ) (t : Tables) : Type 0 where
  at : ℕ
  before : at ≤ now
  legal : AreLegal (reckoning t.plain.registry.settings) at t.plain.cases

legal_held : (t : ℕ) (past : Past Opened) → AreByVerdicts t past → IsLegalBy (now past) (held past)
legal_held t (Opening o) verdicts = record { at = now (Opening o); before = omega arith; legal = held_legal t (Opening o) verdicts }
legal_held t (Turn e past) verdicts = by e.what verdicts (legal_held t past verdicts.1)
  where
    by : (w : What) → AreByVerdicts t (Turn (record { moment = e.moment; words = e.words; what = w }) past) → IsLegalBy (now past) (held past)
        → IsLegalBy (now (Turn (record { moment = e.moment; words = e.words; what = w }) past)) (held (Turn (record { moment = e.moment; words = e.words; what = w }) past))
    by Lost made earlier = let before = earlier.before in record { at = earlier.at; before = omega (arith, before); legal = earlier.legal }
    by Idle made earlier = let turn : Past Opened = Turn (record { moment = e.moment; words = e.words; what = Idle }) past in record { at = now turn; before = omega arith; legal = trails_legal t (now turn) turn made (omega arith) }
    by (Gap u) made earlier = let turn : Past Opened = Turn (record { moment = e.moment; words = e.words; what = Gap u }) past in record { at = now turn; before = omega arith; legal = trails_legal t (now turn) turn made (omega arith) }
    by (Did asked who) made earlier = let turn : Past Opened = Turn (record { moment = e.moment; words = e.words; what = Did asked who }) past in record { at = now turn; before = omega arith; legal = trails_legal t (now turn) turn made (omega arith) }

-- tables that a host may be opened with but for their sessions, which are of different turns that were made
record AreHeld (turns now : ℕ) (t : Tables) : Type 0 where
  at : ℕ
  opened : AreOpened at (without_sessions t)
  legal : IsLegalBy now t
  logins : Apart has_turn t.plain.sessions
  sessions : AreWithin turns t.plain.numbering.last t.plain.sessions
  there : AreThere t.plain.cases t.plain.sessions
  moments : NeverFall 0 t.plain.sessions

tables_held : (t : ℕ) (past : Past Opened) → AreByVerdicts t past → AreHeld (turns past) (now past) (held past)
tables_held t past verdicts = record {
  at = latest (moments (held past));
  opened = held_opened t (latest (moments (held past))) past verdicts (omega arith);
  legal = legal_held t past verdicts;
  logins = logins_held past;
  sessions = sessions_held past;
  there = there_held past;
  moments = moments_held past;
}

-- ---- as a place

none_above : (n k : ℕ) (cs : List Case) → n ≤ k → Ascend k cs → find (has_number n) cs ≡ None
none_above n k [] le up = refl
none_above n k (c ∷ cs) le up =
    let other : has_number n c ≡ false = grind (arith, nat_tests, up.0, le) in
    rw other (none_above n c.number cs (omega (arith, up.0, le)) up.1)

apart_numbers : (k : ℕ) (cs : List Case) → Ascend k cs → Apart has_number cs
apart_numbers k [] up = tt
apart_numbers k (c ∷ cs) up = ((λ n is. none_above n c.number cs (let same : c.number ≡ n = grind (arith, nat_tests, is) in omega (arith, same)) up.1), apart_numbers c.number cs up.1)

few_drawn : (n : Numbering) → is_numbering n ≡ true → n.drawn ≤ n.last
few_drawn n is = grind (arith, nat_tests, is)

few_requests : (days : Reckoning) (time : ℕ) (cs : List Case) → AreLegal days time cs → AreFewRequests cs
few_requests days time [] legal = tt
few_requests days time (c ∷ cs) legal = (legal-few days c.trail legal.0.0, few_requests days time cs legal.1)

early_days : (days : Reckoning) (time : ℕ) (cs : List Case) → IsOffset days.offset → time ≤ 99_999_999_999 → AreLegal days time cs → AreEarly cs
early_days days time [] offset most legal = tt
early_days days time (c ∷ cs) offset most legal =
    let last : last_at 0 c.trail ≤ 99_999_999_999 = omega (arith, most, legal.0.1) in
    ((received_early days c.trail offset last legal.0.0, acknowledged_early days c.trail offset last legal.0.0), early_days days time cs offset most legal.1)

place_held : (turns now : ℕ) (items : List SealedItem) (x : PlainTenancy) → now ≤ 99_999_999_999 → IsSetUpRight x → AreHeld turns now (tables_of items x) → IsPlace turns items x
place_held turns now items x most right is = record {
  id = right.id;
  plain = record {
    registry = record { offset = right.offset; sound = is.opened.sound; versions = is.opened.versions; ordered = is.opened.ordered; forms = right.forms };
    cases = apart_numbers 0 x.plain.cases is.opened.ascend;
    receipts = is.opened.receipts;
    logins = is.logins;
  };
  drawn = few_drawn x.plain.numbering is.opened.numbering;
  ascend = is.opened.ascend;
  most = is.opened.most;
  sessions = is.sessions;
  there = is.there;
  moments = is.moments;
  requests = few_requests (reckoning x.plain.registry.settings) is.at x.plain.cases is.opened.legal;
  days = let before = is.legal.before in early_days (reckoning x.plain.registry.settings) is.legal.at x.plain.cases right.offset (omega (arith, most, before)) is.legal.legal;
  unsealed = λ n gone.
      let none : report n x.plain.cases ≡ None = some_none (report n x.plain.cases) (sym (there-found n x.plain.cases) ∙ gone) in
      some_none (answers_of items x.id n) (is.opened.marks n ∙ ap (λ c. has_identity (entries_of c)) none);
}

all_held : (turns now k : ℕ) (items : List SealedItem) (xs : List PlainTenancy) (past : Past AllOpened) (ts : List ℕ) → now ≤ 99_999_999_999 → ((t : ℕ) → AreHeld turns now (held (part t past))) → map (tenancy_of items) xs ≡ map (held_tenancy past) ts → AreSetUpRight k xs → ArePlaces turns k items xs
all_held turns now k items [] past ts most are e right = tt
all_held turns now k items (x ∷ xs) past [] most are e right = absurd cc
all_held turns now k items (x ∷ xs) past (t ∷ ts) most are e right =
    let first : tenancy_of items x ≡ held_tenancy past t = cc in
    let rest : map (tenancy_of items) xs ≡ map (held_tenancy past) ts = cc in
    let here : AreHeld turns now (tables_of items x) = subst (AreHeld turns now) (sym (ap (λ (y : Tenancy). y.tables) first)) (are t) in
    ((right.0.0, place_held turns now items x most right.0.1 here), all_held turns now x.id items xs past ts most are rest right.1)

pub places_hold : (d : Standing) → HasPast (hosts_of d) → d.time ≤ 99_999_999_999 → AreSetUpRight 0 d.tenants → ArePlaces d.turns 0 d.sealed d.tenants
places_hold d has most right =
    all_held d.turns d.time 0 d.sealed d.tenants has.past (tenants has.past) most
    (λ t. subst (λ n. AreHeld n d.time (held (part t has.past))) (part_turns t has.past ∙ sym (ap (λ (h : Hosts). h.turns) has.stands))
    (subst (λ n. AreHeld (turns (part t has.past)) n (held (part t has.past))) (part_now t has.past ∙ sym (ap (λ (h : Hosts). h.now) has.stands)) (tables_held t (part t has.past) (has.read_back.verdicts t))))
    (ap (λ (h : Hosts). h.list) has.stands) right
