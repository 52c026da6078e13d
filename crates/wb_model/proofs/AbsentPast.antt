-- Absence on one past: where a report is not live, the host stands for the past in which its submission only drew a number.
use Rattle.std.proofs.Common.{◌≡◌, ◌≢◌, ◌⊎◌, inl, inr, ℕ, ◌+◌, ◌<◌, Bool, true, false, cond, eqb, List, [], ◌∷◌, Option, Some, None, refl, sym, ap, ◌∙◌, subst, arith}
use Rattle.std.specs.Prelude.{map, max, ◌&&◌}
use Rattle.std.proofs.lemmas.Bool.Decides.{nat_tests}
use Rattle.wb_model.specs.declared.event.Event.{Event}
use Rattle.wb_model.specs.declared.event.What.{What}
use Rattle.wb_model.specs.declared.event.What.TheVariants.{Did, Gap, Idle, Lost}
use Rattle.wb_model.specs.Tables.{Registry}
use Rattle.wb_model.specs.Changes.{TurnContext}
use Rattle.wb_model.specs.Tenants.{Tenancy}
use Rattle.wb_model.specs.Commands.{tenant_of}
use Rattle.wb_model.specs.Past.{Past, Opening, Turn, turns, now, at_of, about, alone_in, registry, last, live, tables, is_lost, held}
use Rattle.wb_model.specs.Opened.{Opened}
use Rattle.wb_model.specs.Pasts.{AllOpened, seen, part, tenants, time, held_tenancy, standing_hosts}
use Rattle.wb_model.specs.Absence.{is_beginning, begins_as, is_on, gap_what, gapped, gap_of, all_gapped, first_last}
use Rattle.wb_model.proofs.Found.{decide, same_number, other_number}
use Rattle.wb_model.proofs.Gapless.{Gapless, gapless_start, gapless_turn, gapless_same, with_what}
use Rattle.wb_model.proofs.GapSteps.{WhatStep, stays, empties, draws}
use Rattle.wb_model.proofs.PartLaw.{part_now, same_id}

-- ---- one tenant

on_some : (r : ℕ) (place : Option ℕ) → is_on r place ≡ true → place ≡ Some r
on_some r None e = absurd (grind (arith, e))
on_some r (Some n) e = ap Some (grind (arith, nat_tests, e))

-- what gapped puts in the place of an event
gap_step : (r last : ℕ) (at : TurnContext) (g : Registry) (w : What) → WhatStep r last at g w (gap_what r (is_beginning (alone_in w at g) && eqb (last + 1) r) w)
gap_step r last at g (Did a by) = of (is_beginning (alone_in (Did a by) at g) && eqb (last + 1) r) (is_on r (about (Did a by))) refl refl
  where
    of : (b d : Bool) → (is_beginning (alone_in (Did a by) at g) && eqb (last + 1) r) ≡ b → is_on r (about (Did a by)) ≡ d → WhatStep r last at g (Did a by) (cond b (Gap (tenant_of a.command)) (cond d Idle (Did a by)))
    of true d opens on = draws (tenant_of a.command) opens refl
    of false true opens on = empties (on_some r (about (Did a by)) on) refl
    of false false opens on = stays refl on opens
gap_step r last at g (Gap t) = stays refl refl refl
gap_step r last at g Idle = stays refl refl refl
gap_step r last at g Lost = stays refl refl refl

-- gapped has all facts but those of r
pub gapless_gapped : (r : ℕ) (past : Past Opened) → first_last past < r → Gapless r past (gapped r past)
gapless_gapped r (Opening o) lt = gapless_start r (Opening o) lt
gapless_gapped r (Turn e past) lt = gapless_turn r past (gapped r past) e _ (gapless_gapped r past lt) (gap_step r (last past) (at_of past e) (registry past) e.what)

step_lost : (r last : ℕ) (at : TurnContext) (g : Registry) (w v : What) → WhatStep r last at g w v → is_lost v ≡ is_lost w
step_lost r last at g w v (stays e off opens) = ap is_lost e
step_lost r last at g w v (empties on e) = ap is_lost e ∙ sym (placed w on)
  where
    placed : (x : What) → about x ≡ Some r → is_lost x ≡ false
    placed (Did a by) k = refl
    placed (Gap t) k = refl
    placed Idle k = refl
    placed Lost k = absurd (grind (arith, k))
step_lost r last at g w v (draws u opens e) = ap is_lost e ∙ sym (opened w opens)
  where
    opened : (x : What) → (is_beginning (alone_in x at g) && eqb (last + 1) r) ≡ true → is_lost x ≡ false
    opened (Did a by) k = refl
    opened (Gap t) k = refl
    opened Idle k = refl
    opened Lost k = absurd (grind (arith, k))

pub lost_step : (r last : ℕ) (at : TurnContext) (g : Registry) (w v : What) → WhatStep r last at g w v → is_lost v ≡ is_lost w
lost_step r last at g w v s = step_lost r last at g w v s

-- ---- all tenants

-- the second past has all facts of the first but those of report r of tenant t
pub record AllGapless (t r : ℕ) (past other : Past AllOpened) : Type 0 where
  pub moments : time other ≡ time past
  pub counts : turns other ≡ turns past
  pub same_tenants : tenants other ≡ tenants past
  pub own : Gapless r (part t past) (part t other)
  pub rest : (u : ℕ) → u ≢ t → part u other ≡ part u past

abbrev pub SeenStep : ℕ → ℕ → Past AllOpened → Event → What → Type 0
SeenStep t r past e v = WhatStep r (last (part t past)) (at_of (part t past) (with_what e (seen t e.what))) (registry (part t past)) (seen t e.what) (seen t v)

pub all_turn : (t r : ℕ) (past other : Past AllOpened) (e : Event) (v : What) → AllGapless t r past other → SeenStep t r past e v → ((u : ℕ) → u ≢ t → seen u v ≡ seen u e.what) → AllGapless t r (Turn e past) (Turn (with_what e v) other)
all_turn t r past other e v g step same = record {
  moments = ap (λ n. max n e.moment) g.moments;
  counts = ap (λ n. n + 1) g.counts;
  same_tenants = g.same_tenants;
  own = gapless_turn r (part t past) (part t other) (with_what e (seen t e.what)) (seen t v) g.own step;
  rest = λ u ne. ap (λ w. Turn (with_what e w) (part u other)) (same u ne) ∙ ap (Turn (with_what e (seen u e.what))) (g.rest u ne);
}

-- a tenant's own event, or what stands in its place, is seen as it is
own_seen : (t : ℕ) (o d : Bool) (w : What) → seen t w ≡ w → seen t (cond o (Gap t) (cond d Idle w)) ≡ cond o (Gap t) (cond d Idle w)
own_seen t true d w e = ap (λ b. cond b (Gap t) Idle) (same_number t t refl)
own_seen t false true w e = refl
own_seen t false false w e = e

-- the tenant sees of the gapped event what stands in the place of what it sees
pub gap_seen : (t r : ℕ) (opens : Bool) (w : What) → seen t (gap_of t r opens w) ≡ gap_what r opens (seen t w)
gap_seen t r opens (Did a by) = of (decide (tenant_of a.command) t)
  where
    w : What
    w = Did a by

    of : (tenant_of a.command ≡ t) ⊎ (tenant_of a.command ≢ t) → seen t (gap_of t r opens (Did a by)) ≡ gap_what r opens (seen t (Did a by))
    of (inl e) =
        let k : eqb (tenant_of a.command) t ≡ true = same_number (tenant_of a.command) t e in
        let here : seen t (Did a by) ≡ Did a by = ap (λ b. cond b (Did a by) Idle) k in
        ap (λ b. seen t (cond b (gap_what r opens (Did a by)) (Did a by))) k
        ∙ (ap (λ n. seen t (cond opens (Gap n) (cond (is_on r (about (Did a by))) Idle (Did a by)))) e
        ∙ (own_seen t opens (is_on r (about (Did a by))) (Did a by) here
        ∙ (ap (λ n. cond opens (Gap n) (cond (is_on r (about (Did a by))) Idle (Did a by))) (sym e) ∙ ap (gap_what r opens) (sym here))))
    of (inr ne) =
        let k : eqb (tenant_of a.command) t ≡ false = other_number (tenant_of a.command) t ne in
        let away : seen t (Did a by) ≡ Idle = ap (λ b. cond b (Did a by) Idle) k in
        ap (λ b. seen t (cond b (gap_what r opens (Did a by)) (Did a by))) k ∙ (away ∙ ap (gap_what r opens) (sym away))
gap_seen t r opens (Gap u) = of (eqb u t)
  where
    of : (b : Bool) → cond b (Gap u) Idle ≡ gap_what r opens (cond b (Gap u) Idle)
    of true = refl
    of false = refl
gap_seen t r opens Idle = refl
gap_seen t r opens Lost = refl

other_own : (t u : ℕ) (o d : Bool) (w : What) → t ≢ u → seen u w ≡ Idle → seen u (cond o (Gap t) (cond d Idle w)) ≡ Idle
other_own t u true d w ne e = ap (λ b. cond b (Gap t) Idle) (other_number t u ne)
other_own t u false true w ne e = refl
other_own t u false false w ne e = e

-- another tenant sees no difference
pub gap_other : (t r u : ℕ) (opens : Bool) (w : What) → u ≢ t → seen u (gap_of t r opens w) ≡ seen u w
gap_other t r u opens (Did a by) ne = of (decide (tenant_of a.command) t)
  where
    of : (tenant_of a.command ≡ t) ⊎ (tenant_of a.command ≢ t) → seen u (gap_of t r opens (Did a by)) ≡ seen u (Did a by)
    of (inl e) =
        let k : eqb (tenant_of a.command) t ≡ true = same_number (tenant_of a.command) t e in
        let off : t ≢ u = λ j. ne (sym j) in
        let away : seen u (Did a by) ≡ Idle = ap (λ b. cond b (Did a by) Idle) (other_number (tenant_of a.command) u (λ j. off (sym e ∙ j))) in
        ap (λ b. seen u (cond b (gap_what r opens (Did a by)) (Did a by))) k
        ∙ (ap (λ n. seen u (cond opens (Gap n) (cond (is_on r (about (Did a by))) Idle (Did a by)))) e
        ∙ (other_own t u opens (is_on r (about (Did a by))) (Did a by) off away ∙ sym away))
    of (inr away) = ap (λ b. seen u (cond b (gap_what r opens (Did a by)) (Did a by))) (other_number (tenant_of a.command) t away)
gap_other t r u opens (Gap v) ne = refl
gap_other t r u opens Idle ne = refl
gap_other t r u opens Lost ne = refl

pub all_gapless : (t r : ℕ) (past : Past AllOpened) → first_last (part t past) < r → AllGapless t r past (all_gapped t r past)
all_gapless t r (Opening o) lt = record { moments = refl; counts = refl; same_tenants = refl; own = gapless_start r (part t (Opening o)) lt; rest = λ u ne. refl }
all_gapless t r (Turn e past) lt =
    let opens : Bool = begins_as r (part t past) (with_what e (seen t e.what)) in
    all_turn t r past (all_gapped t r past) e (gap_of t r opens e.what) (all_gapless t r past lt)
    (subst (WhatStep r (last (part t past)) (at_of (part t past) (with_what e (seen t e.what))) (registry (part t past)) (seen t e.what)) (sym (gap_seen t r opens e.what))
    (gap_step r (last (part t past)) (at_of (part t past) (with_what e (seen t e.what))) (registry (part t past)) (seen t e.what)))
    (λ u ne. gap_other t r u opens e.what ne)

-- ---- what is held

pub held_made : (past : Past Opened) (e : Event) → is_lost e.what ≡ false → held (Turn e past) ≡ tables (Turn e past) (now (Turn e past))
held_made past e made = ap (λ b. cond b (held past) (tables (Turn e past) (now (Turn e past)))) made

pub map_as : (f g : ℕ → Tenancy) (ts : List ℕ) → ((u : ℕ) → f u ≡ g u) → map f ts ≡ map g ts
map_as f g [] same = refl
map_as f g (t ∷ ts) same = ap (λ x. x ∷ map f ts) (same t) ∙ ap (λ xs. g t ∷ xs) (map_as f g ts same)

-- the hosts are the same where what is held of the tenant is
pub same_standing : (t r : ℕ) (past other : Past AllOpened) → AllGapless t r past other → held (part t other) ≡ held (part t past) → standing_hosts other ≡ standing_hosts past
same_standing t r past other g same = λ i. record {
  turns = g.counts i;
  now = g.moments i;
  list = (ap (map (held_tenancy other)) g.same_tenants ∙ map_as (held_tenancy other) (held_tenancy past) (tenants past) (λ u. same_id u _ _ (one u (decide u t)))) i;
}
  where
    one : (u : ℕ) → (u ≡ t) ⊎ (u ≢ t) → held (part u other) ≡ held (part u past)
    one u (inl e) = subst (λ v. held (part v other) ≡ held (part v past)) (sym e) same
    one u (inr ne) = ap held (g.rest u ne)

pub seen_made : (t : ℕ) (w : What) → is_lost w ≡ false → is_lost (seen t w) ≡ false
seen_made t (Did a by) e = of (eqb (tenant_of a.command) t)
  where
    of : (b : Bool) → is_lost (cond b (Did a by) Idle) ≡ false
    of true = refl
    of false = refl
seen_made t (Gap u) e = of (eqb u t)
  where
    of : (b : Bool) → is_lost (cond b (Gap u) Idle) ≡ false
    of true = refl
    of false = refl
seen_made t Idle e = refl
seen_made t Lost e = e

-- absence on one past
pub stands_gapped : (t r : ℕ) (e : Event) (past : Past AllOpened) → is_lost e.what ≡ false → first_last (part t past) < r → live (part t (Turn e past)) r (time (Turn e past)) ≡ false → standing_hosts (all_gapped t r (Turn e past)) ≡ standing_hosts (Turn e past)
stands_gapped t r e past made lt dead =
    let g : AllGapless t r (Turn e past) (all_gapped t r (Turn e past)) = all_gapless t r (Turn e past) lt in
    let opens : Bool = begins_as r (part t past) (with_what e (seen t e.what)) in
    let f : Event = with_what e (seen t e.what) in
    let other : Event = with_what e (seen t (gap_of t r opens e.what)) in
    let here : is_lost f.what ≡ false = seen_made t e.what made in
    let there : is_lost other.what ≡ false = ap is_lost (gap_seen t r opens e.what) ∙ (step_lost r (last (part t past)) (at_of (part t past) f) (registry (part t past)) f.what (gap_what r opens f.what) (gap_step r (last (part t past)) (at_of (part t past) f) (registry (part t past)) f.what) ∙ here) in
    same_standing t r (Turn e past) (all_gapped t r (Turn e past)) g
    (held_made (part t (all_gapped t r past)) other there
    ∙ (ap (tables (part t (all_gapped t r (Turn e past)))) g.own.moments
    ∙ (gapless_same r (now (part t (Turn e past))) (part t (Turn e past)) (part t (all_gapped t r (Turn e past))) (omega arith) g.own (ap (live (part t (Turn e past)) r) (part_now t (Turn e past)) ∙ dead)
    ∙ sym (held_made (part t past) f here))))
