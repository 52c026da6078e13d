-- What is left of a past is of no moment after its time.
use Rattle.std.proofs.Common.{◌≡◌, ℕ, ◌≤◌, Bool, true, false, List, [], ◌∷◌, ◌++◌, refl, subst, arith}
use Rattle.std.specs.Prelude.{map, max, nat_le, ◌&&◌}
use Rattle.std.proofs.lemmas.Bool.Decides.{nat_tests}
use Rattle.wb_model.specs.declared.entry.Entry.{Entry}
use Rattle.wb_model.specs.declared.event.What.{What}
use Rattle.wb_model.specs.declared.event.What.TheVariants.{Did, Gap, Idle, Lost}
use Rattle.wb_model.specs.Tables.{Case}
use Rattle.wb_model.specs.Legal.{Reckoning, reckoning, is_first, is_next, legal_from, is_legal, last_at, right_actor, right_values, is_free, done, AreLegal}
use Rattle.wb_model.specs.Access.{user_by}
use Rattle.wb_model.specs.Opened.{Opened}
use Rattle.wb_model.specs.Past.{Past, Opening, Turn, now, registry, drawn_at, held}
use Rattle.wb_model.specs.Pasts.{AllOpened, part, tenants, time, held_tenancy}
use Rattle.wb_model.specs.ByVerdicts.{AreByVerdicts}
use Rattle.wb_model.specs.Reopened.{entry_moments, moments, all_moments, latest, left_time}
use Rattle.wb_model.proofs.Drawn.{reached}
use Rattle.wb_model.proofs.PartLaw.{part_now}
use Rattle.wb_model.proofs.LegalPasts.{held_legal}

two : (a b : Bool) → (a && b) ≡ true → (a ≡ true) × (b ≡ true)
two true true e = (refl, refl)
two true false e = absurd (grind (arith, e))
two false b e = absurd (grind (arith, e))

pub latest_both : (ms ns : List ℕ) → latest (ms ++ ns) ≤ max (latest ms) (latest ns)
latest_both [] ns = omega arith
latest_both (m ∷ ms) ns = let ih : latest (ms ++ ns) ≤ max (latest ms) (latest ns) = latest_both ms ns in omega (arith, ih)

-- no entry is before the one before it
not_before : (days : Reckoning) (m : ℕ) (before : List Entry) (e : Entry) → is_next days m before e ≡ true → m ≤ e.at
not_before days m before e is =
    let k : nat_le m e.at ≡ true = (two (nat_le m e.at) (right_actor e.deed e.by) (two (nat_le m e.at && right_actor e.deed e.by) (right_values days before e.at e.deed) (two (nat_le m e.at && right_actor e.deed e.by && right_values days before e.at e.deed) (is_free before (user_by e.by) (done before e.deed)) is).0).0).0 in
    grind (arith, nat_tests, k)

legal_latest : (days : Reckoning) (m : ℕ) (before es : List Entry) → legal_from days m before es ≡ true → (m ≤ last_at m es) × (latest (map (λ (e : Entry). e.at) es) ≤ last_at m es)
legal_latest days m before [] is = (omega arith, omega arith)
legal_latest days m before (e ∷ es) is =
    let parts = two (is_next days m before e) (legal_from days e.at (before ++ e ∷ []) es) is in
    let le : m ≤ e.at = not_before days m before e parts.0 in
    let ih : (e.at ≤ last_at e.at es) × (latest (map (λ (x : Entry). x.at) es) ≤ last_at e.at es) = legal_latest days e.at (before ++ e ∷ []) es parts.1 in
    (omega (arith, le, ih.0), omega (arith, ih.0, ih.1))

trail_latest : (days : Reckoning) (trail : List Entry) → is_legal days trail ≡ true → latest (map (λ (e : Entry). e.at) trail) ≤ last_at 0 trail
trail_latest days [] is = absurd (grind (arith, is))
trail_latest days (e ∷ es) is =
    let ih : (e.at ≤ last_at e.at es) × (latest (map (λ (x : Entry). x.at) es) ≤ last_at e.at es) = legal_latest days e.at (e ∷ []) es (two (is_first days e) (legal_from days e.at (e ∷ []) es) is).1 in
    omega (arith, ih.0, ih.1)

cases_latest : (days : Reckoning) (m : ℕ) (cs : List Case) → AreLegal days m cs → latest (entry_moments cs) ≤ m
cases_latest days m [] legal = omega arith
cases_latest days m (c ∷ cs) legal =
    let both : latest (entry_moments (c ∷ cs)) ≤ max (latest (map (λ (e : Entry). e.at) c.trail)) (latest (entry_moments cs)) = latest_both (map (λ (e : Entry). e.at) c.trail) (entry_moments cs) in
    let here : latest (map (λ (e : Entry). e.at) c.trail) ≤ last_at 0 c.trail = trail_latest days c.trail legal.0.0 in
    let rest : latest (entry_moments cs) ≤ m = cases_latest days m cs legal.1 in
    omega (arith, both, here, legal.0.1, rest)

held_drawn : (past : Past Opened) → (held past).plain.numbering.at ≤ now past
held_drawn (Opening o) = o.sound.drawn
held_drawn (Turn e past) = by e.what (held_drawn past) (reached (Turn e past))
  where
    by : (w : What) → (held past).plain.numbering.at ≤ now past → drawn_at (Turn (record { moment = e.moment; words = e.words; what = w }) past) ≤ now (Turn e past) → (held (Turn (record { moment = e.moment; words = e.words; what = w }) past)).plain.numbering.at ≤ now (Turn e past)
    by Lost before after = omega (arith, before)
    by (Did asked who) before after = after
    by (Gap u) before after = after
    by Idle before after = after

held_latest : (t : ℕ) (past : Past Opened) → AreByVerdicts t past → latest (moments (held past)) ≤ now past
held_latest t past verdicts =
    let drawn : (held past).plain.numbering.at ≤ now past = held_drawn past in
    let entries : latest (entry_moments (held past).plain.cases) ≤ now past = cases_latest (reckoning (registry past).settings) (now past) (held past).plain.cases (held_legal t past verdicts) in
    omega (arith, drawn, entries)

all_latest : (past : Past AllOpened) → ((t : ℕ) → AreByVerdicts t (part t past)) → (ts : List ℕ) → latest (all_moments (map (held_tenancy past) ts)) ≤ time past
all_latest past verdicts [] = omega arith
all_latest past verdicts (t ∷ ts) =
    let both : latest (all_moments (map (held_tenancy past) (t ∷ ts))) ≤ max (latest (moments (held (part t past)))) (latest (all_moments (map (held_tenancy past) ts))) = latest_both (moments (held (part t past))) (all_moments (map (held_tenancy past) ts)) in
    let here : latest (moments (held (part t past))) ≤ time past = subst (λ n. latest (moments (held (part t past))) ≤ n) (part_now t past) (held_latest t (part t past) (verdicts t)) in
    let rest : latest (all_moments (map (held_tenancy past) ts)) ≤ time past = all_latest past verdicts ts in
    omega (arith, both, here, rest)

pub left_before : (past : Past AllOpened) → ((t : ℕ) → AreByVerdicts t (part t past)) → left_time past ≤ time past
left_before past verdicts = all_latest past verdicts (tenants past)
