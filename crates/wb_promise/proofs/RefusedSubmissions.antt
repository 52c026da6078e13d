-- Two submissions that differ in valid identity answers alone: where the first is not accepted, both get the same reply and leave the same past.
use Rattle.std.proofs.Common.{◌≡◌, ◌≢◌, ◌⊎◌, inl, inr, ℕ, ◌+◌, Bool, true, false, cond, eqb, not, List, [], ◌∷◌, Some, None, refl, sym, ap, ◌∙◌, subst, arith}
use Rattle.std.specs.Prelude.{find, map, max, ◌&&◌}
use Rattle.std.specs.List.{list_any}
use Rattle.wb_model.specs.declared.body.Told.{Told}
use Rattle.wb_model.specs.declared.command.Asked.{Asked}
use Rattle.wb_model.specs.declared.event.What.TheVariants.{Idle, Lost}
use Rattle.wb_model.specs.Alike.{SubmissionsAlike, is_refused}
use Rattle.wb_model.specs.Changes.{Verdict, Refused, Accepted}
use Rattle.wb_model.specs.Host.{Sealed, Tables, Host, purge_at, ruling, ruling_at, reply_by}
use Rattle.wb_model.specs.Opened.{Opened}
use Rattle.wb_model.specs.Past.{Past, Turn, turns, now, held, plain}
use Rattle.wb_model.specs.PastTurns.{at_frame, verdict_at, reply_at, target_at, what_by, what_at}
use Rattle.wb_model.specs.Pasts.{AllOpened, part, tenants, has_tenant, time, held_tenancy, standing_hosts, reply_in, what_in}
use Rattle.wb_model.specs.Refusals.{keeper_failed, no_memory}
use Rattle.wb_model.specs.Requests.{Frame, plain_part}
use Rattle.wb_model.specs.Rules.{verdict}
use Rattle.wb_model.specs.Scripts.{Loss, NotLost, ByKeeper, ByMemory, Unread, Place, frame_of, replying, play_asked, play_by, play}
use Rattle.wb_model.specs.ScriptsAlike.{AskAlike, is_made, is_accepted}
use Rattle.wb_model.specs.Targets.{Target, target}
use Rattle.wb_model.specs.Tenants.{one, tenant_at, has_id, without_tenant, refused_in, OnTenant, FirstAlike}
use Rattle.wb_model.proofs.Found.{decide, other_number}
use Rattle.wb_model.proofs.HeldTables.{held_now}
use Rattle.wb_model.proofs.PartLaw.{part_stands, found_tenancy}
use Rattle.wb_model.proofs.Unwinding.{submissions_frames}

-- ---- one tenant

-- so one verdict is on both
one_ruling : (past : Past Opened) (f g : Frame) → f.moment ≡ g.moment → f.words ≡ g.words → SubmissionsAlike (plain past (at_frame past f).time) f g → verdict_at past f ≡ verdict_at past g
one_ruling past f g moment words alike =
    ap (verdict (plain past (at_frame past f).time) (at_frame past f)) (submissions_frames (plain past (at_frame past f).time) f g alike).asked
    ∙ (λ i. verdict (plain past (max (now past) (moment i))) (record { time = max (now past) (moment i); turn = turns past + 1; words = words i }) (plain_part (plain past (max (now past) (moment i))) g.asked))

-- a refusal is told whatever identity answers are held
one_reply : (v w : Verdict) (s z : Sealed) → v ≡ w → is_refused v ≡ true → reply_by v s ≡ reply_by w z
one_reply v w s z e is = by v is ∙ ap (λ x. reply_by x z) e
  where
    by : (x : Verdict) → is_refused x ≡ true → reply_by x s ≡ reply_by x z
    by (Refused refusal) k = refl
    by (Accepted change answer) k = absurd (grind (arith, k))

-- and its turn is idle
idle_by : (v : Verdict) (t : ℕ) (on : Target) (a : Asked) → is_refused v ≡ true → what_by v t on a ≡ Idle
idle_by (Refused refusal) t on a is = refl
idle_by (Accepted change answer) t on a is = absurd (grind (arith, is))

-- ---- all tenants

-- what holds of each tenancy of a tenant that is there holds of what is held of it
on_found : (past : Past AllOpened) (t : ℕ) (P : Tables → Type 0) (ts : List ℕ) → list_any (λ u. eqb u t) ts ≡ true → OnTenant t (map (held_tenancy past) ts) P → P (held (part t past))
on_found past t P [] is on = absurd (grind (arith, is))
on_found past t P (u ∷ ts) is on = by (decide u t) (λ rest. on_found past t P ts rest on.1)
  where
    by : (u ≡ t) ⊎ (u ≢ t) → (list_any (λ v. eqb v t) ts ≡ true → P (held (part t past))) → P (held (part t past))
    by (inl e) later = subst (λ v. P (held (part v past))) e (on.0 e)
    by (inr ne) later = later (let differs : eqb u t ≡ false = other_number u t ne in grind (arith, differs, is))

-- the two turns have one moment, the same words and one tenant, and one verdict where it is there
record SubmitAlike (past : Past AllOpened) (f g : Frame) : Type 0 where
  moment : f.moment ≡ g.moment
  words : f.words ≡ g.words
  close : f.asked.close ≡ g.asked.close
  tenant : tenant_at f ≡ tenant_at g
  verdicts : has_tenant past (tenant_at f) ≡ true → verdict_at (part (tenant_at f) past) f ≡ verdict_at (part (tenant_at f) past) g

submit_alike : (t r : ℕ) (past : Past AllOpened) (f g : Frame) → FirstAlike t r (standing_hosts past) f g → f.words ≡ g.words → f.asked.close ≡ g.asked.close → SubmitAlike past f g
submit_alike t r past f g first words close = record {
  moment = first.3;
  words = words;
  close = close;
  tenant = first.0.1 ∙ sym first.1.1;
  verdicts = λ has. one_ruling (part u past) f g first.3 words (there has);
}
  where
    u : ℕ
    u = tenant_at f

    alike_on : Tables → Type 0
    alike_on x = (r ≡ x.plain.numbering.last + 1) × SubmissionsAlike (purge_at (one (turns past) (time past) x) f).plain f g

    there : has_tenant past u ≡ true → SubmissionsAlike (plain (part u past) (at_frame (part u past) f).time) f g
    there has =
        subst (λ (x : Tables). SubmissionsAlike x.plain f g) (held_now (part u past) f)
        (subst (λ (h : Host). SubmissionsAlike (purge_at h f).plain f g) (part_stands u past)
        (on_found past u alike_on (tenants past) has (subst (λ v. OnTenant v (standing_hosts past).list alike_on) (sym first.0.1) first.2)).1)

-- where its tenant is there, the request is refused
abbrev IsRefusedIn : Past AllOpened → Frame → Type 0
IsRefusedIn past f = has_tenant past (tenant_at f) ≡ true → is_refused (verdict_at (part (tenant_at f) past) f) ≡ true

both_refused : (past : Past AllOpened) (f g : Frame) → SubmitAlike past f g → IsRefusedIn past f → IsRefusedIn past g
both_refused past f g alike refused has =
    let here : has_tenant past (tenant_at f) ≡ true = ap (has_tenant past) alike.tenant ∙ has in
    ap (λ u. is_refused (verdict_at (part u past) g)) (sym alike.tenant) ∙ (ap is_refused (sym (alike.verdicts here)) ∙ refused here)

-- both are told the same
both_told : (past : Past AllOpened) (f g : Frame) → SubmitAlike past f g → IsRefusedIn past f → reply_in past f ≡ reply_in past g
both_told past f g alike refused = by (has_tenant past u) refl ∙ ap told_of alike.tenant
  where
    u : ℕ
    u = tenant_at f

    told_of : ℕ → Told
    told_of v = cond (has_tenant past v) (reply_at (part v past) g) (without_tenant v)

    by : (b : Bool) → has_tenant past u ≡ b → cond b (reply_at (part u past) f) (without_tenant u) ≡ cond b (reply_at (part u past) g) (without_tenant u)
    by true has = one_reply (verdict_at (part u past) f) (verdict_at (part u past) g) _ _ (alike.verdicts has) (refused has)
    by false has = refl

refused_is_idle : (past : Past AllOpened) (f : Frame) → IsRefusedIn past f → what_in past f ≡ Idle
refused_is_idle past f refused = by (has_tenant past u) refl
  where
    u : ℕ
    u = tenant_at f

    by : (b : Bool) → has_tenant past u ≡ b → cond b (what_at u (part u past) f) Idle ≡ Idle
    by true has = idle_by (verdict_at (part u past) f) u (target_at (part u past) f) f.asked (refused has)
    by false has = refl

-- what the hosts that stand for the past refuse is refused by the past
ruled : (past : Past AllOpened) (f : Frame) → refused_in (standing_hosts past) f (find (has_id (tenant_at f)) (standing_hosts past).list) ≡ true → IsRefusedIn past f
ruled past f refused has =
    let u : ℕ = tenant_at f in
    let found : find (has_id u) (standing_hosts past).list ≡ Some (held_tenancy past u) = found_tenancy past u (tenants past) ∙ ap (λ b. cond b (Some (held_tenancy past u)) None) has in
    let same : ruling_at (one (turns past) (time past) (held (part u past))) f ≡ verdict_at (part u past) f =
    ap (λ h. ruling_at h f) (part_stands u past) ∙ ap (λ (x : Tables). ruling x (at_frame (part u past) f) f.asked) (held_now (part u past) f) in
    sym (ap is_refused same) ∙ (sym (ap (refused_in (standing_hosts past) f) found) ∙ refused)

-- ---- a place

not_true : (b : Bool) → not b ≡ false → b ≡ true
not_true true e = refl
not_true false e = absurd (grind (arith, e))

asked_same : (past : Past AllOpened) (f g : Frame) (loss : Loss) → SubmitAlike past f g → (is_made loss && not (refused_in (standing_hosts past) f (find (has_id (tenant_at f)) (standing_hosts past).list))) ≡ false → play_asked past f loss ≡ play_asked past g loss
asked_same past f g NotLost alike off =
    let refused : IsRefusedIn past f = ruled past f (not_true _ off) in
    let told : reply_in past f ≡ reply_in past g = both_told past f g alike refused in
    let what : what_in past f ≡ what_in past g = refused_is_idle past f refused ∙ sym (refused_is_idle past g (both_refused past f g alike refused)) in
    λ i. record { reply = replying (told i) (alike.close i); past = Turn (record { moment = alike.moment i; words = alike.words i; what = what i }) past }
asked_same past f g ByKeeper alike off = λ i. record { reply = replying keeper_failed (alike.close i); past = Turn (record { moment = alike.moment i; words = alike.words i; what = Lost }) past }
asked_same past f g ByMemory alike off = λ i. record { reply = replying no_memory (alike.close i); past = Turn (record { moment = alike.moment i; words = alike.words i; what = Lost }) past }
asked_same past f g (Unread close) alike off = refl

-- where the first of two such submissions is not accepted, the same is played
pub played_same : (t r : ℕ) (past : Past AllOpened) (p q : Place) → AskAlike (FirstAlike t r (standing_hosts past)) p q → p.words ≡ q.words → is_accepted past p p.reading ≡ false → play past p ≡ play past q
played_same t r past p q ask words off =
    let f : Frame = frame_of p ask.left in
    let g : Frame = frame_of q ask.right in
    let alike : SubmitAlike past f g = submit_alike t r past f g ask.related words ask.close in
    ap (play_by past p) ask.reads
    ∙ (asked_same past f g p.loss alike (ap (is_accepted past p) (sym ask.reads) ∙ off)
    ∙ sym (ap (play_by past q) ask.other_reads ∙ ap (play_asked past g) (sym ask.loss)))
