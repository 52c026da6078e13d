-- The law of a turn for several tenants, from that for one.
use Rattle.std.proofs.Common.{◌≡◌, ◌≢◌, ◌⊎◌, inl, inr, ℕ, ◌+◌, Bool, true, false, cond, eqb, List, [], ◌∷◌, Some, None, refl, sym, ap, ◌∙◌, subst, arith}
use Rattle.std.specs.Prelude.{map, max, find}
use Rattle.std.specs.List.{list_any}
use Rattle.std.proofs.lemmas.Bool.Decides.{nat_tests}
use Rattle.wb_model.specs.declared.command.Asked.{Asked}
use Rattle.wb_model.specs.declared.event.What.{What}
use Rattle.wb_model.specs.declared.event.What.TheVariants.{Idle}
use Rattle.wb_model.specs.Targets.{Target, Nobody, Alone, On}
use Rattle.wb_model.specs.Requests.{Frame}
use Rattle.wb_model.specs.Changes.{Verdict, Refused, Accepted}
use Rattle.wb_model.specs.Host.{Tables, purged, reply_to, host_after}
use Rattle.wb_model.specs.Tenants.{tenant_at, Tenancy, one, has_id, without_tenant, tenancy_reply, hosts_reply, one_after, hosts_after, hosts_lost}
use Rattle.wb_model.specs.Commands.{tenant_of}
use Rattle.wb_model.specs.Past.{Past, Opening, Turn, turns, now, held, standing}
use Rattle.wb_model.specs.PastTurns.{verdict_at, reply_at, target_at, did, what_by, what_at}
use Rattle.wb_model.specs.Commands.{is_read}
use Rattle.wb_model.specs.Opened.{Opened}
use Rattle.wb_model.specs.Pasts.{AllOpened, seen, part, tenants, has_tenant, time, held_tenancy, standing_hosts, reply_in, what_in, with_turn, with_loss}
use Rattle.wb_model.proofs.Found.{decide, same_number, other_number}
use Rattle.wb_model.proofs.TurnLaw.{event, idle_law}
use Rattle.wb_model.proofs.HeldTables.{held_now, reply_law, turn_law}

pub part_now : (t : ℕ) (past : Past AllOpened) → now (part t past) ≡ time past
part_now t (Opening o) = refl
part_now t (Turn e past) = ap (λ n. max n e.moment) (part_now t past)

pub part_turns : (t : ℕ) (past : Past AllOpened) → turns (part t past) ≡ turns past
part_turns t (Opening o) = refl
part_turns t (Turn e past) = ap (λ n. n + 1) (part_turns t past)

-- one tenant's host stands for its part
pub part_stands : (t : ℕ) (past : Past AllOpened) → one (turns past) (time past) (held (part t past)) ≡ standing (part t past)
part_stands t past = λ i. record { turns = sym (part_turns t past) i; now = sym (part_now t past) i; tables = held (part t past) }

same_tenancy : (past : Past AllOpened) (u t : ℕ) → u ≡ t → Some (held_tenancy past u) ≡ Some (held_tenancy past t)
same_tenancy past u t e = ap (λ n. Some (held_tenancy past n)) e

pub found_tenancy : (past : Past AllOpened) (t : ℕ) (ts : List ℕ) → find (has_id t) (map (held_tenancy past) ts) ≡ cond (list_any (λ u. eqb u t) ts) (Some (held_tenancy past t)) None
found_tenancy past t [] = refl
found_tenancy past t (u ∷ ts) = by (decide u t) (found_tenancy past t ts)
  where
    by : (u ≡ t) ⊎ (u ≢ t) → find (has_id t) (map (held_tenancy past) ts) ≡ cond (list_any (λ u. eqb u t) ts) (Some (held_tenancy past t)) None → find (has_id t) (held_tenancy past u ∷ map (held_tenancy past) ts) ≡ cond (list_any (λ u. eqb u t) (u ∷ ts)) (Some (held_tenancy past t)) None
    by (inl e) ih = let k : eqb u t ≡ true = same_number u t e in let s = same_tenancy past u t e in grind (arith, k, s)
    by (inr ne) ih = let k : eqb u t ≡ false = other_number u t ne in grind (arith, k, ih)

-- the reply to a request is that of the hosts that stand for the past
pub reply_in_law : (past : Past AllOpened) (f : Frame) → hosts_reply (standing_hosts past) f ≡ reply_in past f
reply_in_law past f = ap (tenancy_reply (standing_hosts past) f) (found_tenancy past (tenant_at f) (tenants past)) ∙ by (has_tenant past (tenant_at f))
  where
    by : (b : Bool) → tenancy_reply (standing_hosts past) f (cond b (Some (held_tenancy past (tenant_at f))) None) ≡ cond b (reply_at (part (tenant_at f) past) f) (without_tenant (tenant_at f))
    by true = ap (λ h. reply_to h f) (part_stands (tenant_at f) past) ∙ reply_law (part (tenant_at f) past) f
    by false = refl

pub map_in : (f : Tenancy → Tenancy) (g k : ℕ → Tenancy) (ts : List ℕ) → ((u : ℕ) → list_any (λ v. eqb v u) ts ≡ true → f (g u) ≡ k u) → map f (map g ts) ≡ map k ts
map_in f g k [] same = refl
map_in f g k (t ∷ ts) same =
    ap (λ x. x ∷ map f (map g ts)) (same t (grind (arith, nat_tests)))
    ∙ ap (λ xs. k t ∷ xs) (map_in f g k ts (λ u is. same u (grind (arith, is))))

-- ---- what a tenant sees of a turn

-- the turn's own tenant sees it
seen_did : (u t : ℕ) (to : Target) (a : Asked) → tenant_of a.command ≡ t → seen t (did u to a) ≡ did u to a
seen_did u t (Nobody x) a e = refl
seen_did u t (Alone who) a e = ap (λ b. cond b (did u (Alone who) a) Idle) (same_number (tenant_of a.command) t e)
seen_did u t (On who c) a e = ap (λ b. cond b (did u (On who c) a) Idle) (same_number (tenant_of a.command) t e)

seen_cond : (t : ℕ) (b : Bool) (w : What) → seen t w ≡ w → seen t (cond b Idle w) ≡ cond b Idle w
seen_cond t true w e = refl
seen_cond t false w e = e

pub seen_here : (u t : ℕ) (v : Verdict) (to : Target) (a : Asked) → tenant_of a.command ≡ t → seen t (what_by v u to a) ≡ what_by v u to a
seen_here u t (Refused x) to a e = refl
seen_here u t (Accepted ch ans) to a e = seen_cond t (is_read a.command) (did u to a) (seen_did u t to a e)

-- to another tenant it is idle
away_did : (u t : ℕ) (to : Target) (a : Asked) → tenant_of a.command ≢ t → seen t (did u to a) ≡ Idle
away_did u t (Nobody x) a ne = refl
away_did u t (Alone who) a ne = ap (λ b. cond b (did u (Alone who) a) Idle) (other_number (tenant_of a.command) t ne)
away_did u t (On who c) a ne = ap (λ b. cond b (did u (On who c) a) Idle) (other_number (tenant_of a.command) t ne)

away_cond : (t : ℕ) (b : Bool) (w : What) → seen t w ≡ Idle → seen t (cond b Idle w) ≡ Idle
away_cond t true w e = refl
away_cond t false w e = e

away_seen : (u t : ℕ) (v : Verdict) (to : Target) (a : Asked) → tenant_of a.command ≢ t → seen t (what_by v u to a) ≡ Idle
away_seen u t (Refused x) to a ne = refl
away_seen u t (Accepted ch ans) to a ne = away_cond t (is_read a.command) (did u to a) (away_did u t to a ne)

away_in : (b : Bool) (t : ℕ) (w : What) → seen t w ≡ Idle → seen t (cond b w Idle) ≡ Idle
away_in true t w e = e
away_in false t w e = refl

-- ---- the hosts after a turn

pub own_turn : (past : Past AllOpened) (f : Frame) → has_tenant past (tenant_at f) ≡ true → seen (tenant_at f) (what_in past f) ≡ what_at (tenant_at f) (part (tenant_at f) past) f
own_turn past f has =
    let t : ℕ = tenant_at f in
    let w : What = what_at t (part t past) f in
    ap (λ b. seen t (cond b w Idle)) has ∙ seen_here t t (verdict_at (part t past) f) (target_at (part t past) f) f.asked refl

pub others_turn : (past : Past AllOpened) (f : Frame) (u : ℕ) → u ≢ tenant_at f → seen u (what_in past f) ≡ Idle
others_turn past f u ne =
    let t : ℕ = tenant_at f in
    away_in (has_tenant past t) u (what_at t (part t past) f) (away_seen t u (verdict_at (part t past) f) (target_at (part t past) f) f.asked (λ e. ne (sym e)))

idle_held : (past : Past Opened) (f : Frame) → purged (max (now past) f.moment) (held past) ≡ held (Turn (event f Idle) past)
idle_held past f = held_now past f ∙ sym (idle_law past f)

one_law : (past : Past AllOpened) (f : Frame) (u : ℕ) → has_tenant past u ≡ true → (u ≡ tenant_at f) ⊎ (u ≢ tenant_at f) →
    cond (eqb u (tenant_at f)) (host_after (one (turns past) (time past) (held (part u past))) f).tables (purged (max (time past) f.moment) (held (part u past))) ≡ held (part u (with_turn past f))
one_law past f u has (inl e) =
    let t : ℕ = tenant_at f in
    subst (λ v. cond (eqb v t) (host_after (one (turns past) (time past) (held (part v past))) f).tables (purged (max (time past) f.moment) (held (part v past))) ≡ held (part v (with_turn past f))) (sym e)
    (ap (λ b. cond b (host_after (one (turns past) (time past) (held (part t past))) f).tables (purged (max (time past) f.moment) (held (part t past)))) (same_number t t refl)
    ∙ (ap (λ h. (host_after h f).tables) (part_stands t past)
    ∙ (turn_law t (part t past) f
    ∙ ap (λ w. held (Turn (event f w) (part t past))) (sym (own_turn past f (subst (λ v. has_tenant past v ≡ true) e has))))))
one_law past f u has (inr ne) =
    ap (λ b. cond b (host_after (one (turns past) (time past) (held (part u past))) f).tables (purged (max (time past) f.moment) (held (part u past)))) (other_number u (tenant_at f) ne)
    ∙ (ap (λ n. purged (max n f.moment) (held (part u past))) (sym (part_now u past))
    ∙ (idle_held (part u past) f
    ∙ ap (λ w. held (Turn (event f w) (part u past))) (sym (others_turn past f u ne))))

pub same_id : (t : ℕ) (x y : Tables) → x ≡ y → ◌≡◌ {A = Tenancy} (record { id = t; tables = x }) (record { id = t; tables = y })
same_id t x y e = λ i. record { id = t; tables = e i }

-- the hosts after a request stand for the past with its turn
pub turn_in_law : (past : Past AllOpened) (f : Frame) → hosts_after (standing_hosts past) f ≡ standing_hosts (with_turn past f)
turn_in_law past f = λ i. record {
  turns = turns past + 1;
  now = max (time past) f.moment;
  list = map_in (one_after (turns past) (time past) f) (held_tenancy past) (held_tenancy (with_turn past f)) (tenants past) (λ u is. same_id u _ _ (one_law past f u is (decide u (tenant_at f)))) i;
}

-- and after a lost turn they stand for the past with that
pub loss_in_law : (past : Past AllOpened) (f : Frame) → hosts_lost (standing_hosts past) f ≡ standing_hosts (with_loss past f)
loss_in_law past f = refl
