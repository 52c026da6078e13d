-- One turn keeps hosts alike, and its reply is the same but to a reader.
use Rattle.std.proofs.Common.{◌≡◌, ◌≢◌, ◌⊎◌, inl, inr, ℕ, ◌+◌, Bool, true, false, cond, eqb, not, List, [], Option, Some, None, refl, sym, ap, ◌∙◌, subst, arith}
use Rattle.std.specs.Prelude.{unwrap_or, filter, max, ◌&&◌}
use Rattle.wb_model.specs.Refusals.{not_found}
use Rattle.wb_model.specs.Refusing.{refuses_where}
use Rattle.wb_base.specs.declared.callers.Presented.{Presented}
use Rattle.wb_model.specs.declared.entry.Entry.{Entry}
use Rattle.wb_model.specs.OnReports.{has_grant, refusal_on, change_on, answer_on}
use Rattle.std.proofs.lemmas.Bool.Decides.{nat_tests}
use Rattle.wb_base.specs.declared.faults.AnswerFault.{AnswerFault}
use Rattle.wb_base.specs.AnswerList.{Answered}
use Rattle.wb_model.specs.declared.body.Told.{Told}
use Rattle.wb_model.specs.declared.command.Command.{Command}
use Rattle.wb_model.specs.declared.command.Command.TheVariants as commands
use Rattle.wb_model.specs.Json.{told}
use Rattle.wb_model.specs.Views.{reporter_view, identity_view}
use Rattle.wb_model.specs.Trails as trails
use Rattle.wb_model.specs.Tables.{Registry, Plain, Case, Who, TheReporter, is_there, lasts, context}
use Rattle.wb_model.specs.Targets.{Target, Nobody, Alone, On, target, trail_at}
use Rattle.wb_model.specs.Requests.{Frame, Outcome, Checked, Request, outline, outcome, submission_outcome, identity_outcome, submission_fault, late_fault, public, mark, plain_part, sealed_part}
use Rattle.wb_model.specs.AskingForms.{asking_form, form_of_trail}
use Rattle.wb_model.specs.Changes.{TurnContext, Change, Begins, Deletes, Notes, Answer, Says, Shows_own, Shows_identity, Verdict, Refused, Accepted, judged}
use Rattle.wb_model.specs.Rules.{change_alone, answer_alone, effect_at, verdict, verdict_on}
use Rattle.wb_model.specs.Effects.{Effect, Looks, Reads, Writes, Submits, Sets, ToReader, ToReporter, TheIdentity}
use Rattle.wb_model.specs.Commands.{effect_of}
use Rattle.wb_model.proofs.Effects.{IsToldBy, told as told_by, outlined, set_is}
use Rattle.wb_model.specs.Host.{Sealed, Tables, Host, live_cases, purged, plain_after, sealed_under, sealed_after, changed, change_of, reply_by, at_frame, time_at, purge_at, ruling_at, reply_to, tables_after, host_after}
use Rattle.wb_model.specs.Alike.{TablesAlike, HostsAlike, may_see, is_reader, FramesAlike, SubmissionsAlike, IdentitiesAlike, LaterAlike}

-- ---- the purge

plain_purged : ℕ → Plain → Plain
plain_purged now p = record p { cases = live_cases p now; sessions = filter (lasts now (live_cases p now)) p.sessions }

pub purge_keeps_alike : (r now : ℕ) (t u : Tables) → TablesAlike r t u → TablesAlike r (purged now t) (purged now u)
unfolding plain_purged
purge_keeps_alike r now t u h = record {
  plain = ap (plain_purged now) h.plain;
  others = λ n ne. ap (λ (p : Plain). cond (is_there n (live_cases p now)) (t.sealed n) None) h.plain ∙ ap (λ o. cond (is_there n (live_cases u.plain now)) o None) (h.others n ne);
}

-- ---- the reply

-- the answer shows r's identity answers
abbrev pub answer_shows : ℕ → Answer → Bool
answer_shows r (Says reply) = false
answer_shows r (Shows_own case) = eqb case.number r
answer_shows r (Shows_identity n) = eqb n r

abbrev pub shows : ℕ → Verdict → Bool
shows r (Refused refusal) = false
shows r (Accepted change answer) = answer_shows r answer

judged_shows : (r : ℕ) (o : Option Told) (ch : Change) (a : Answer) → (o ≡ None → answer_shows r a ≡ false) → shows r (judged o ch a) ≡ false
judged_shows r None ch a h = h refl
judged_shows r (Some x) ch a h = refl

granted_shows : (here grant : Bool) (x : Told) → (here && grant) ≡ false → refuses_where (not grant) x ≡ None → here ≡ false
granted_shows here true x e accepted = grind (arith, e)
granted_shows here false x e accepted = absurd (grind (arith, accepted))

-- the answer on report c to what is done by an effect shows none of r's
abbrev Hides : ℕ → TurnContext → Registry → Who → Case → Effect → Type 0
Hides r at g who c e = answer_shows r (answer_on at g who c e) ≡ false

on_shows : (r : ℕ) (at : TurnContext) (g : Registry) (who : Who) (c : Case) (o : Outcome) (s : Presented) (d : Command) → may_see r at.time g (On who c) d ≡ false → refusal_on at g who c o (effect_of at g (Some who) s c.trail (outline d)) ≡ None → Hides r at g who c (effect_of at g (Some who) s c.trail (outline d))
on_shows r at g who c o s d e = subst (λ x. refusal_on at g who c o x ≡ None → Hides r at g who c x) (outlined at g (Some who) s c.trail d) (by (effect_of at g (Some who) s c.trail d) (told_by at g (Some who) s c.trail d))
  where
    sees : (x : Command) → d ≡ x → may_see r at.time g (On who c) x ≡ false
    sees x is = subst (λ y. may_see r at.time g (On who c) y ≡ false) is e

    by : (x : Effect) → IsToldBy g s d x → refusal_on at g who c o x ≡ None → Hides r at g who c x
    by (Reads ToReporter) k accepted = sees (commands.OwnReport k.1.0) k.1.1
    by (Reads TheIdentity) k accepted = granted_shows (eqb c.number r) (has_grant at.time g who c) not_found (sees (commands.ReadIdentity k.1.0 k.1.1) k.1.2) accepted
    by (Reads ToReader) k accepted = reads who
      where
        reads : (w : Who) → Hides r at g w c (Reads ToReader)
        reads w = refl
    by _ k accepted = refl

alone_shows : (r : ℕ) (at : TurnContext) (p : Plain) (who : Option Who) (e : Effect) → answer_shows r (answer_alone at p who e) ≡ false
alone_shows r at p who (Looks view) = refl
alone_shows r at p who _ = refl

-- a verdict shows r's identity answers to its readers alone
pub shows_to_readers : (r : ℕ) (p : Plain) (at : TurnContext) (q : Request) (d : Command) (t : Target) → q.command ≡ outline d → may_see r at.time p.registry t d ≡ false → shows r (verdict_on p at q t) ≡ false
shows_to_readers r p at q d (Nobody x) is e = refl
shows_to_readers r p at q d (Alone who) is e = judged_shows r _ _ _ (λ accepted. alone_shows r at p who (effect_at p at q who []))
shows_to_readers r p at q d (On who c) is e =
    judged_shows r _ _ _ (λ accepted. ap (λ x. answer_shows r (answer_on at p.registry who c (effect_of at p.registry (Some who) q.session c.trail x))) is
    ∙ on_shows r at p.registry who c q.outcome q.session d e (ap (λ x. refusal_on at p.registry who c q.outcome (effect_of at p.registry (Some who) q.session c.trail x)) (sym is) ∙ accepted))

off : (n r : ℕ) → eqb n r ≡ false → n ≢ r
off n r e = grind (arith, nat_tests)

pub same_reply : (r : ℕ) (v : Verdict) (s t : Sealed) → ((n : ℕ) → n ≢ r → s n ≡ t n) → shows r v ≡ false → reply_by v s ≡ reply_by v t
same_reply r (Refused x) s t h e = refl
same_reply r (Accepted change (Says x)) s t h e = refl
same_reply r (Accepted change (Shows_own c)) s t h e = ap (λ o. told 200 (reporter_view c o)) (h c.number (off c.number r e))
same_reply r (Accepted change (Shows_identity n)) s t h e = ap (λ o. told 200 (identity_view n (unwrap_or o []))) (h n (off n r e))

-- ---- the tables

-- the number under which a change puts identity answers
abbrev pub place : Change → ℕ → Option ℕ
place (Begins e) last = Some (last + 1)
place (Notes n e) last = Some n
place _ last = None

insert_same : (r n : ℕ) (x : Option Answered) (s t : Sealed) → ((q : ℕ) → q ≢ r → s q ≡ t q) → (q : ℕ) → q ≢ r → sealed_under n x s q ≡ sealed_under n x t q
insert_same r n None s t h q ne = h q ne
insert_same r n (Some z) s t h q ne = ap (λ o. cond (eqb q n) (Some z) o) (h q ne)

beside : (q r : ℕ) → q ≢ r → eqb q r ≡ false
beside q r ne = grind (arith, nat_tests, ne)

insert_beside : (r : ℕ) (x : Option Answered) (s : Sealed) (q : ℕ) → q ≢ r → sealed_under r x s q ≡ s q
insert_beside r None s q ne = refl
insert_beside r (Some z) s q ne = ap (λ b. cond b (Some z) (s q)) (beside q r ne)

insert_here : (r : ℕ) (x y : Option Answered) (s t : Sealed) → ((q : ℕ) → q ≢ r → s q ≡ t q) → (q : ℕ) → q ≢ r → sealed_under r x s q ≡ sealed_under r y t q
insert_here r x y s t h q ne = insert_beside r x s q ne ∙ (h q ne ∙ sym (insert_beside r y t q ne))

sealed_same : (r : ℕ) (c : Change) (x : Option Answered) (t u : Tables) → TablesAlike r t u → (q : ℕ) → q ≢ r → sealed_after c t.plain.numbering.last x t.sealed q ≡ sealed_after c u.plain.numbering.last x u.sealed q
sealed_same r (Begins e) x t u h q ne = insert_same r (t.plain.numbering.last + 1) x t.sealed u.sealed h.others q ne ∙ ap (λ (p : Plain). sealed_under (p.numbering.last + 1) x u.sealed q) h.plain
sealed_same r (Notes n e) x t u h q ne = insert_same r n x t.sealed u.sealed h.others q ne
sealed_same r (Deletes n) x t u h q ne = ap (cond (eqb q n) None) (h.others q ne)
sealed_same r _ x t u h q ne = h.others q ne

-- the same change, with other identity answers for r
sealed_here : (r : ℕ) (c : Change) (x y : Option Answered) (t u : Tables) → TablesAlike r t u → ((q : ℕ) → place c t.plain.numbering.last ≡ Some q → q ≡ r) → (q : ℕ) → q ≢ r
    → sealed_after c t.plain.numbering.last x t.sealed q ≡ sealed_after c u.plain.numbering.last y u.sealed q
sealed_here r (Begins e) x y t u h is q ne =
    let here : t.plain.numbering.last + 1 ≡ r = is (t.plain.numbering.last + 1) refl in
    ap (λ n. sealed_under n x t.sealed q) here ∙ (insert_here r x y t.sealed u.sealed h.others q ne ∙ ap (λ n. sealed_under n y u.sealed q) (sym here ∙ ap (λ (p : Plain). p.numbering.last + 1) h.plain))
sealed_here r (Notes n e) x y t u h is q ne =
    let here : n ≡ r = is n refl in
    ap (λ k. sealed_under k x t.sealed q) here ∙ (insert_here r x y t.sealed u.sealed h.others q ne ∙ ap (λ k. sealed_under k y u.sealed q) (sym here))
sealed_here r (Deletes n) x y t u h is q ne = ap (cond (eqb q n) None) (h.others q ne)
sealed_here r _ x y t u h is q ne = h.others q ne

pub change_same : (r now : ℕ) (c : Change) (x y : Option Answered) (t u : Tables) → TablesAlike r t u → (x ≡ y) ⊎ ((q : ℕ) → place c t.plain.numbering.last ≡ Some q → q ≡ r) → TablesAlike r (changed now c x t) (changed now c y u)
change_same r now c x y t u h (inl e) = record { plain = ap (plain_after now c) h.plain; others = λ q ne. sealed_same r c x t u h q ne ∙ ap (λ z. sealed_after c u.plain.numbering.last z u.sealed q) e }
change_same r now c x y t u h (inr e) = record { plain = ap (plain_after now c) h.plain; others = λ q ne. sealed_here r c x y t u h e q ne }

-- what is done on n puts them under n, and a request on no report under the number that it draws
pub on_places : (at : TurnContext) (g : Registry) (who : Who) (n : ℕ) (trail : List Entry) (last q : ℕ) (e : Effect) → place (change_on at g who n trail e) last ≡ Some q → q ≡ n
on_places at g who n trail last q (Writes d) is = cc
on_places at g who n trail last q _ is = absurd (cc)

pub alone_places : (at : TurnContext) (g : Registry) (who : Option Who) (o : Outcome) (last q : ℕ) (e : Effect) → place (change_alone at g who o e) last ≡ Some q → q ≡ last + 1
alone_places at g who o last q (Submits c form) is = cc
alone_places at g who o last q (Sets t proposal) is = absurd (set_is (λ x. place x last ≡ Some q → ⊥) _ (λ e. cc) (λ x e f. cc) is)
alone_places at g who o last q _ is = absurd (cc)

pub judged_place : (last q : ℕ) (o : Option Told) (change : Change) (a : Answer) → place (change_of (judged o change a)) last ≡ Some q → place change last ≡ Some q
judged_place last q None change a e = e
judged_place last q (Some x) change a e = absurd (cc)

on_place : (p : Plain) (at : TurnContext) (q : Request) (who : Who) (c : Case) (last k : ℕ) → place (change_of (verdict_on p at q (On who c))) last ≡ Some k → k ≡ c.number
on_place p at q who c last k e = on_places at p.registry who c.number c.trail last k (effect_at p at q (Some who) c.trail) (judged_place last k _ _ _ e)

alone_place : (p : Plain) (at : TurnContext) (q : Request) (who : Option Who) (last k : ℕ) → place (change_of (verdict_on p at q (Alone who))) last ≡ Some k → k ≡ last + 1
alone_place p at q who last k e = alone_places at p.registry who q.outcome last k (effect_at p at q who []) (judged_place last k _ _ _ e)

-- ---- one turn

same_at : (a b : TurnContext) → a.time ≡ b.time → a.turn ≡ b.turn → a.words ≡ b.words → a ≡ b
same_at a b t n w = λ i. record { time = t i; turn = n i; words = w i }

same_time : (r : ℕ) (h k : Host) (a b : Frame) → HostsAlike r h k → a.moment ≡ b.moment → time_at h a ≡ time_at k b
same_time r h k a b al e = ap (λ n. max n a.moment) al.now ∙ ap (max k.now) e

same_purge : (r : ℕ) (h k : Host) (a b : Frame) → HostsAlike r h k → a.moment ≡ b.moment → TablesAlike r (purge_at h a) (purge_at k b)
same_purge r h k a b al e = subst (λ m. TablesAlike r (purge_at h a) (purged m k.tables)) (same_time r h k a b al e) (purge_keeps_alike r (time_at h a) h.tables k.tables al.tables)

same_turn : (r : ℕ) (h k : Host) (a b : Frame) → HostsAlike r h k → FramesAlike (purge_at h a).plain a b → at_frame h a ≡ at_frame k b
same_turn r h k a b al fr = same_at _ _ (same_time r h k a b al fr.moment) (ap (λ n. n + 1) al.turns) fr.words

pub same_ruling : (r : ℕ) (h k : Host) (a b : Frame) → HostsAlike r h k → FramesAlike (purge_at h a).plain a b → ruling_at h a ≡ ruling_at k b
same_ruling r h k a b al fr =
    ap (verdict (purge_at h a).plain (at_frame h a)) fr.asked
    ∙ (ap (λ at. verdict (purge_at h a).plain at (plain_part (purge_at h a).plain b.asked)) (same_turn r h k a b al fr)
    ∙ ap (λ p. verdict p (at_frame k b) (plain_part p b.asked)) (same_purge r h k a b al fr.moment).plain)

-- the reply is the same but to a reader
pub turn_reply : (r : ℕ) (h k : Host) (a b : Frame) → HostsAlike r h k → FramesAlike (purge_at h a).plain a b → is_reader r h a ≡ false → reply_to h a ≡ reply_to k b
turn_reply r h k a b al fr hid =
    same_reply r (ruling_at h a) _ _ (same_purge r h k a b al fr.moment).others
    (shows_to_readers r (purge_at h a).plain (at_frame h a) (plain_part (purge_at h a).plain a.asked) a.asked.command (target (purge_at h a).plain a.asked.session (outline a.asked.command)) refl hid)
    ∙ ap (λ v. reply_by v (purge_at k b).sealed) (same_ruling r h k a b al fr)

-- the identity answers given are equal, or go to r
abbrev Secrets : ℕ → Host → Frame → Frame → Type 0
Secrets r h a b = (sealed_part (purge_at h a).plain a.asked ≡ sealed_part (purge_at h a).plain b.asked) ⊎ ((q : ℕ) → place (change_of (ruling_at h a)) h.tables.plain.numbering.last ≡ Some q → q ≡ r)

moved : (x y y' : Option Answered) (P : Type 0) → y ≡ y' → (x ≡ y) ⊎ P → (x ≡ y') ⊎ P
moved x y y' P e (inl f) = inl (f ∙ e)
moved x y y' P e (inr f) = inr f

-- the hosts after it are alike
pub turn_host : (r : ℕ) (h k : Host) (a b : Frame) → HostsAlike r h k → FramesAlike (purge_at h a).plain a b → Secrets r h a b → HostsAlike r (host_after h a) (host_after k b)
turn_host r h k a b al fr e = record {
  turns = ap (λ n. n + 1) al.turns;
  now = same_time r h k a b al fr.moment;
  tables =
      subst (λ m. TablesAlike r (tables_after (purge_at h a) (at_frame h a) a.asked) (changed m (change_of (ruling_at k b)) (sealed_part (purge_at k b).plain b.asked) (purge_at k b))) (same_time r h k a b al fr.moment)
      (subst (λ v. TablesAlike r (tables_after (purge_at h a) (at_frame h a) a.asked) (changed (time_at h a) (change_of v) (sealed_part (purge_at k b).plain b.asked) (purge_at k b))) (same_ruling r h k a b al fr)
      (change_same r (time_at h a) (change_of (ruling_at h a)) _ _ _ _ (same_purge r h k a b al fr.moment)
      (moved _ _ _ _ (ap (λ p. sealed_part p b.asked) (same_purge r h k a b al fr.moment).plain) e)));
}

-- ---- requests that differ in identity answers

same_request : (a b : Request) → a.session ≡ b.session → a.command ≡ b.command → a.outcome ≡ b.outcome → a ≡ b
same_request a b s c o = λ i. record { session = s i; command = c i; outcome = o i }

same_checked : (f g : Option AnswerFault) (x y : Answered) (m n : Bool) → f ≡ g → x ≡ y → m ≡ n → Checked f x m ≡ Checked g y n
same_checked f g x y m n a b c = λ i. Checked (a i) (b i) (c i)

-- two valid submissions with equal public answers and marks are one request to the tables
pub submissions_frames : (p : Plain) (a b : Frame) → SubmissionsAlike p a b → FramesAlike p a b
submissions_frames p a b s = record { moment = s.moment; words = s.words; asked = same_request _ _ s.session (ap outline s.left ∙ sym (ap outline s.right)) outcomes }
  where
    checked : (answers : Answered) → submission_outcome (asking_form (context s.context p.registry.contexts) p.registry.forms) answers ≡ Checked (submission_fault s.item.form answers) (public s.item.form answers) (mark s.item.form answers)
    checked answers = ap (λ o. submission_outcome o answers) s.asks

    outcomes : (plain_part p a.asked).outcome ≡ (plain_part p b.asked).outcome
    outcomes =
        ap (outcome p.registry (trail_at (target p a.asked.session (outline a.asked.command)))) s.left
        ∙ (checked s.given
        ∙ (same_checked (submission_fault s.item.form s.given) (submission_fault s.item.form s.other) (public s.item.form s.given) (public s.item.form s.other) (mark s.item.form s.given) (mark s.item.form s.other) (s.valid ∙ sym s.other_valid) s.publics s.marks
        ∙ (sym (checked s.other)
        ∙ sym (ap (outcome p.registry (trail_at (target p b.asked.session (outline b.asked.command)))) s.right))))

-- and so are two identities that are valid for the report
pub identities_frames : (r : ℕ) (p : Plain) (a b : Frame) → IdentitiesAlike r p a b → FramesAlike p a b
identities_frames r p a b s = record { moment = s.moment; words = s.words; asked = same_request _ _ s.session (ap outline s.left ∙ sym (ap outline s.right)) outcomes }
  where
    on_left : target p a.asked.session (outline a.asked.command) ≡ On (TheReporter r) s.case
    on_left = ap (λ c. target p a.asked.session (outline c)) s.left ∙ s.by

    on_right : target p b.asked.session (outline b.asked.command) ≡ On (TheReporter r) s.case
    on_right = ap (λ c. target p b.asked.session (outline c)) s.right ∙ (ap (λ x. target p x (commands.GiveIdentity s.tenant [])) (sym s.session) ∙ s.by)

    checked : (answers : Answered) → identity_outcome (form_of_trail s.case.trail p.registry.forms) s.case.trail answers ≡ Checked (late_fault s.item.form (trails.answers s.case.trail) answers) [] true
    checked answers = ap (λ o. identity_outcome o s.case.trail answers) s.asks

    outcomes : (plain_part p a.asked).outcome ≡ (plain_part p b.asked).outcome
    outcomes =
        ap (λ t. outcome p.registry (trail_at t) a.asked.command) on_left
        ∙ (ap (outcome p.registry s.case.trail) s.left
        ∙ (checked s.given
        ∙ (same_checked (late_fault s.item.form (trails.answers s.case.trail) s.given) (late_fault s.item.form (trails.answers s.case.trail) s.other) [] [] true true (s.valid ∙ sym s.other_valid) refl refl
        ∙ (sym (checked s.other)
        ∙ (sym (ap (outcome p.registry s.case.trail) s.right)
        ∙ sym (ap (λ t. outcome p.registry (trail_at t) b.asked.command) on_right))))))

same_frames : (p : Plain) (a b : Frame) → a ≡ b → FramesAlike p a b
same_frames p a b e = record { moment = ap (λ (f : Frame). f.moment) e; words = ap (λ (f : Frame). f.words) e; asked = ap (λ (f : Frame). plain_part p f.asked) e }

pub later_frames : (r : ℕ) (h : Host) (a b : Frame) → LaterAlike r h a b → FramesAlike (purge_at h a).plain a b
later_frames r h a b (inl e) = same_frames _ a b e
later_frames r h a b (inr s) = identities_frames r _ a b s

pub later_secrets : (r : ℕ) (h : Host) (a b : Frame) → LaterAlike r h a b → Secrets r h a b
later_secrets r h a b (inl e) = inl (ap (λ (f : Frame). sealed_part (purge_at h a).plain f.asked) e)
later_secrets r h a b (inr s) = inr (λ q is. on_place (purge_at h a).plain (at_frame h a) (plain_part (purge_at h a).plain a.asked) (TheReporter r) s.case h.tables.plain.numbering.last q
    (ap (λ t. place (change_of (verdict_on (purge_at h a).plain (at_frame h a) (plain_part (purge_at h a).plain a.asked) t)) h.tables.plain.numbering.last) (sym (ap (λ c. target (purge_at h a).plain a.asked.session (outline c)) s.left ∙ s.by)) ∙ is) ∙ s.here)

pub submission_secrets : (r : ℕ) (h : Host) (a b : Frame) → r ≡ h.tables.plain.numbering.last + 1 → SubmissionsAlike (purge_at h a).plain a b → Secrets r h a b
submission_secrets r h a b new s = inr (λ q is. alone_place (purge_at h a).plain (at_frame h a) (plain_part (purge_at h a).plain a.asked) None h.tables.plain.numbering.last q
    (ap (λ t. place (change_of (verdict_on (purge_at h a).plain (at_frame h a) (plain_part (purge_at h a).plain a.asked) t)) h.tables.plain.numbering.last) (sym (ap (λ c. target (purge_at h a).plain a.asked.session (outline c)) s.left)) ∙ is) ∙ sym new)

-- a submission is no reader's request
pub submission_unread : (r : ℕ) (h : Host) (a b : Frame) → SubmissionsAlike (purge_at h a).plain a b → is_reader r h a ≡ false
submission_unread r h a b s =
    ap (may_see r (time_at h a) (purge_at h a).plain.registry (target (purge_at h a).plain a.asked.session (outline a.asked.command))) s.left
    ∙ ap (λ t. may_see r (time_at h a) (purge_at h a).plain.registry t (commands.Submit s.tenant s.context s.given)) (ap (λ c. target (purge_at h a).plain a.asked.session (outline c)) s.left)

pub same_host : (r : ℕ) (h : Host) → HostsAlike r h h
same_host r h = record { turns = refl; now = refl; tables = record { plain = refl; others = λ q ne. refl } }
