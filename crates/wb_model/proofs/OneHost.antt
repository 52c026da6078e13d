-- Pasts for which one host stands play each script alike; and so do two that differ in their time alone, from a moment that both have reached.
use Rattle.std.proofs.Common.{◌≡◌, ℕ, ◌+◌, ◌≤◌, Bool, true, false, cond, eqb, List, [], ◌∷◌, Option, Some, None, refl, sym, ap, ◌∙◌, arith}
use Rattle.std.specs.Prelude.{map, max, find, ◌||◌}
use Rattle.wb_model.specs.declared.body.Told.{Told}
use Rattle.wb_model.specs.Requests.{Frame}
use Rattle.wb_model.specs.Changes.{TurnContext}
use Rattle.wb_model.specs.Host.{purged, reply_by, ruling, tables_after}
use Rattle.wb_model.specs.Tenants.{tenant_at, Tenancy, Hosts, has_id, without_tenant, tenancy_reply, hosts_reply, hosts_after, hosts_lost}
use Rattle.wb_model.specs.Past.{Past}
use Rattle.wb_model.specs.Pasts.{AllOpened, time, standing_hosts}
use Rattle.wb_model.specs.Readings.{Reading, Asks, Refuses}
use Rattle.wb_model.specs.Scripts.{Loss, NotLost, ByKeeper, ByMemory, Unread, Place, Played, frame_of, replying, play_asked, play_by, play, script_replies, past_after}
use Rattle.wb_model.specs.OtherOpenings.{AreNotBefore}
use Rattle.wb_model.proofs.PartLaw.{reply_in_law, turn_in_law}

-- ---- one host

-- one host stands for both pasts
abbrev pub StandAlike : Past AllOpened → Past AllOpened → Type 0
StandAlike past other = standing_hosts past ≡ standing_hosts other

record PlayedSame (x y : Played) : Type 0 where
  reply : x.reply ≡ y.reply
  hosts : StandAlike x.past y.past

same_asked : (past other : Past AllOpened) (f : Frame) (loss : Loss) → StandAlike past other → PlayedSame (play_asked past f loss) (play_asked other f loss)
same_asked past other f NotLost e = record {
  reply = ap (λ told. replying told f.asked.close) (sym (reply_in_law past f) ∙ (ap (λ h. hosts_reply h f) e ∙ reply_in_law other f));
  hosts = sym (turn_in_law past f) ∙ (ap (λ h. hosts_after h f) e ∙ turn_in_law other f);
}
same_asked past other f ByKeeper e = record { reply = refl; hosts = ap (λ h. hosts_lost h f) e }
same_asked past other f ByMemory e = record { reply = refl; hosts = ap (λ h. hosts_lost h f) e }
same_asked past other f (Unread close) e = record { reply = refl; hosts = e }

same_play : (past other : Past AllOpened) (p : Place) → StandAlike past other → PlayedSame (play past p) (play other p)
same_play past other p e = by p.reading
  where
    by : (reading : Reading) → PlayedSame (play_by past p reading) (play_by other p reading)
    by (Asks asked) = same_asked past other (frame_of p asked) p.loss e
    by (Refuses fault close) = record { reply = refl; hosts = e }

pub same_replies : (past other : Past AllOpened) (ps : List Place) → StandAlike past other → script_replies past ps ≡ script_replies other ps
same_replies past other [] e = refl
same_replies past other (p ∷ ps) e =
    let first : PlayedSame (play past p) (play other p) = same_play past other p e in
    ap (λ x. x ∷ script_replies (play past p).past ps) first.reply ∙ ap (λ xs. (play other p).reply ∷ xs) (same_replies (play past p).past (play other p).past ps first.hosts)

pub same_end : (past other : Past AllOpened) (ps : List Place) → StandAlike past other → StandAlike (past_after past ps) (past_after other ps)
same_end past other [] e = e
same_end past other (p ∷ ps) e = same_end (play past p).past (play other p).past ps (same_play past other p e).hosts

-- ---- two that differ in their time

abbrev at_time : ℕ → ℕ → Frame → TurnContext
at_time turns time f = record { time = time; turn = turns + 1; words = f.words }

abbrev told_at : ℕ → ℕ → Frame → Option Tenancy → Told
told_at turns time f None = without_tenant (tenant_at f)
told_at turns time f (Some x) = reply_by (ruling (purged time x.tables) (at_time turns time f) f.asked) (purged time x.tables).sealed

told_is : (h : Hosts) (f : Frame) (o : Option Tenancy) → tenancy_reply h f o ≡ told_at h.turns (max h.now f.moment) f o
told_is h f None = refl
told_is h f (Some x) = refl

abbrev one_at : ℕ → ℕ → Frame → Tenancy → Tenancy
one_at turns time f x = record { id = x.id; tables = cond (eqb x.id (tenant_at f)) (tables_after (purged time x.tables) (at_time turns time f) f.asked) (purged time x.tables) }

-- the same tenants at the same turn number, and a time that is the same at this moment
record Meet (h k : Hosts) (moment : ℕ) : Type 0 where
  turns : h.turns ≡ k.turns
  list : h.list ≡ k.list
  time : max h.now moment ≡ max k.now moment

meet_reply : (h k : Hosts) (f : Frame) → Meet h k f.moment → hosts_reply h f ≡ hosts_reply k f
meet_reply h k f m =
    told_is h f (find (has_id (tenant_at f)) h.list)
    ∙ (λ i. told_at (m.turns i) (m.time i) f (find (has_id (tenant_at f)) (m.list i)))
    ∙ sym (told_is k f (find (has_id (tenant_at f)) k.list))

meet_after : (h k : Hosts) (f : Frame) → Meet h k f.moment → hosts_after h f ≡ hosts_after k f
meet_after h k f m = λ i. record { turns = m.turns i + 1; now = m.time i; list = map (one_at (m.turns i) (m.time i) f) (m.list i) }

meet_lost : (h k : Hosts) (f : Frame) → Meet h k f.moment → hosts_lost h f ≡ hosts_lost k f
meet_lost h k f m = λ i. record { turns = m.turns i + 1; now = m.time i; list = m.list i }

-- pasts of the same tenants at the same turn number, whose times are not after a moment
pub record StartAlike (m : ℕ) (past other : Past AllOpened) : Type 0 where
  pub turns : (standing_hosts past).turns ≡ (standing_hosts other).turns
  pub list : (standing_hosts past).list ≡ (standing_hosts other).list
  pub first : time past ≤ m
  pub second : time other ≤ m

meeting : (m n : ℕ) (past other : Past AllOpened) → m ≤ n → StartAlike m past other → Meet (standing_hosts past) (standing_hosts other) n
meeting m n past other le s = record { turns = s.turns; list = s.list; time = omega (arith, le, s.first, s.second) }

-- the place is a turn, made or lost
abbrev pub is_turn : Loss → Bool
is_turn NotLost = true
is_turn ByKeeper = true
is_turn ByMemory = true
is_turn (Unread close) = false

abbrev pub takes_turn : Reading → Loss → Bool
takes_turn (Asks asked) loss = is_turn loss
takes_turn (Refuses fault close) loss = false

-- one of the places is a turn
abbrev pub take_turns : List Place → Bool
take_turns [] = false
take_turns (p ∷ ps) = takes_turn p.reading p.loss || take_turns ps

-- the reply is the same; and one host stands for both after a turn, and else they are as they were
record PlayedMeet (m : ℕ) (turn : Bool) (x y : Played) : Type 0 where
  reply : x.reply ≡ y.reply
  hosts : turn ≡ true → StandAlike x.past y.past
  still : turn ≡ false → StartAlike m x.past y.past

meet_asked : (m : ℕ) (past other : Past AllOpened) (f : Frame) (loss : Loss) → m ≤ f.moment → StartAlike m past other → PlayedMeet m (is_turn loss) (play_asked past f loss) (play_asked other f loss)
meet_asked m past other f NotLost le s =
    let meet : Meet (standing_hosts past) (standing_hosts other) f.moment = meeting m f.moment past other le s in
    record {
      reply = ap (λ told. replying told f.asked.close) (sym (reply_in_law past f) ∙ (meet_reply (standing_hosts past) (standing_hosts other) f meet ∙ reply_in_law other f));
      hosts = λ is. sym (turn_in_law past f) ∙ (meet_after (standing_hosts past) (standing_hosts other) f meet ∙ turn_in_law other f);
      still = λ is. absurd (grind (arith, is));
    }
meet_asked m past other f ByKeeper le s = record { reply = refl; hosts = λ is. meet_lost (standing_hosts past) (standing_hosts other) f (meeting m f.moment past other le s); still = λ is. absurd (grind (arith, is)) }
meet_asked m past other f ByMemory le s = record { reply = refl; hosts = λ is. meet_lost (standing_hosts past) (standing_hosts other) f (meeting m f.moment past other le s); still = λ is. absurd (grind (arith, is)) }
meet_asked m past other f (Unread close) le s = record { reply = refl; hosts = λ is. absurd (grind (arith, is)); still = λ is. s }

meet_play : (m : ℕ) (past other : Past AllOpened) (p : Place) → m ≤ p.moment → StartAlike m past other → PlayedMeet m (takes_turn p.reading p.loss) (play past p) (play other p)
meet_play m past other p le s = by p.reading
  where
    by : (reading : Reading) → PlayedMeet m (takes_turn reading p.loss) (play_by past p reading) (play_by other p reading)
    by (Asks asked) = meet_asked m past other (frame_of p asked) p.loss le s
    by (Refuses fault close) = record { reply = refl; hosts = λ is. absurd (grind (arith, is)); still = λ is. s }

pub meet_replies : (m : ℕ) (past other : Past AllOpened) (ps : List Place) → AreNotBefore m ps → StartAlike m past other → script_replies past ps ≡ script_replies other ps
meet_replies m past other [] late s = refl
meet_replies m past other (p ∷ ps) late s =
    let first : PlayedMeet m (takes_turn p.reading p.loss) (play past p) (play other p) = meet_play m past other p late.0 s in
    ap (λ x. x ∷ script_replies (play past p).past ps) first.reply
    ∙ ap (λ xs. (play other p).reply ∷ xs) (rest (takes_turn p.reading p.loss) first.hosts first.still (λ k. meet_replies m (play past p).past (play other p).past ps late.1 k))
  where
    rest : (b : Bool) → (b ≡ true → StandAlike (play past p).past (play other p).past) → (b ≡ false → StartAlike m (play past p).past (play other p).past) →
        (StartAlike m (play past p).past (play other p).past → script_replies (play past p).past ps ≡ script_replies (play other p).past ps) → script_replies (play past p).past ps ≡ script_replies (play other p).past ps
    rest true same still ih = same_replies (play past p).past (play other p).past ps (same refl)
    rest false same still ih = ih (still refl)

-- after a turn one host stands for both
pub meet_end : (m : ℕ) (past other : Past AllOpened) (ps : List Place) → AreNotBefore m ps → StartAlike m past other → take_turns ps ≡ true → StandAlike (past_after past ps) (past_after other ps)
meet_end m past other [] late s is = absurd (grind (arith, is))
meet_end m past other (p ∷ ps) late s is =
    let first : PlayedMeet m (takes_turn p.reading p.loss) (play past p) (play other p) = meet_play m past other p late.0 s in
    rest (takes_turn p.reading p.loss) is first.hosts first.still (λ k j. meet_end m (play past p).past (play other p).past ps late.1 k j)
  where
    rest : (b : Bool) → (b || take_turns ps) ≡ true → (b ≡ true → StandAlike (play past p).past (play other p).past) → (b ≡ false → StartAlike m (play past p).past (play other p).past) →
        (StartAlike m (play past p).past (play other p).past → take_turns ps ≡ true → StandAlike (past_after (play past p).past ps) (past_after (play other p).past ps)) → StandAlike (past_after (play past p).past ps) (past_after (play other p).past ps)
    rest true is same still ih = same_end (play past p).past (play other p).past ps (same refl)
    rest false is same still ih = ih (still refl) is

-- and at the end the same is held, whether there was a turn or not
pub meet_list : (m : ℕ) (past other : Past AllOpened) (ps : List Place) → AreNotBefore m ps → StartAlike m past other → (standing_hosts (past_after past ps)).list ≡ (standing_hosts (past_after other ps)).list
meet_list m past other [] late s = s.list
meet_list m past other (p ∷ ps) late s =
    let first : PlayedMeet m (takes_turn p.reading p.loss) (play past p) (play other p) = meet_play m past other p late.0 s in
    rest (takes_turn p.reading p.loss) first.hosts first.still (λ k. meet_list m (play past p).past (play other p).past ps late.1 k)
  where
    rest : (b : Bool) → (b ≡ true → StandAlike (play past p).past (play other p).past) → (b ≡ false → StartAlike m (play past p).past (play other p).past) →
        (StartAlike m (play past p).past (play other p).past → (standing_hosts (past_after (play past p).past ps)).list ≡ (standing_hosts (past_after (play other p).past ps)).list) →
        (standing_hosts (past_after (play past p).past ps)).list ≡ (standing_hosts (past_after (play other p).past ps)).list
    rest true same still ih = ap (λ (h : Hosts). h.list) (same_end (play past p).past (play other p).past ps (same refl))
    rest false same still ih = ih (still refl)
