-- A history of turns is one script.
use Rattle.std.proofs.Common.{◌≡◌, ◌⊎◌, ◌<◌, ◌≤◌, ◌+◌, ℕ, suc, Bool, true, false, nat_lt, List, [], ◌∷◌, refl, ap, ◌∙◌, inl, inr, ⊎_elim, subst, arith}
use Rattle.std.proofs.lemmas.Bool.Decides.{nat_tests}
use Rattle.wb_model.specs.Past.{Past, turns}
use Rattle.wb_model.specs.Pasts.{AllOpened}
use Rattle.wb_model.specs.Playing.{IsLossOf, RoseBy, keeper_losses, one_by_keeper}
use Rattle.wb_model.specs.Readings.{Asks}
use Rattle.wb_model.specs.Refusals.{turns_spent}
use Rattle.wb_model.specs.Requests.{Frame}
use Rattle.wb_model.specs.Scripts.{Loss, NotLost, ByKeeper, ByMemory, Unread, Place, IsPossible, play}
use Rattle.wb_tables.specs.Standing.{hosts_of}
use Rattle.wb_desk.specs.Kept.{MayLose}
use Rattle.wb_desk.specs.Turns.{StandsFor}
use Rattle.wb_desk.specs.Hosted.{Hosted}
use Rattle.wb_desk.specs.Turned.{CameTo}
use Rattle.wb_ticket_lock.specs.Histories.{Leads}
use Rattle.wb_model.specs.Tenants.{Hosts}
use Rattle.wb_desk.specs.Jobs.{IsAsked}
use Rattle.wb_ticket.specs.Owned.{AskedAndTold, TurnEntry, IsTurnOf, answered}
use Rattle.wb_ticket.specs.Scripts.{AreAnswered, IsScript, IsSpent, place_of}

may : (past : Past AllOpened) (f : Frame) (loss : Loss) → MayLose past f loss → IsPossible past (place_of f loss) (Asks f.asked) loss
may past f NotLost h = tt
may past f ByKeeper h = h
may past f ByMemory h = h
may past f (Unread close) h = absurd h

loss_of : (past : Past AllOpened) (f : Frame) (bytes : List ℕ) (loss : Loss) → MayLose past f loss → IsLossOf bytes loss
loss_of past f bytes NotLost h = tt
loss_of past f bytes ByKeeper h = tt
loss_of past f bytes ByMemory h = tt
loss_of past f bytes (Unread close) h = absurd h

spent_first : (past : Past AllOpened) (a : AskedAndTold) (more : List AskedAndTold) (ps : List Place) → IsSpent past a → AreAnswered past more ps → AreAnswered past (a ∷ more) ps
spent_first past a more [] e h = (e, h)
spent_first past a more (p ∷ ps) e h = inl (e, h)

rose_on : (n m before mid now : ℕ) → RoseBy n before mid → RoseBy m mid now → RoseBy (n + m) before now
rose_on n m before mid now first then = omega (arith, first, then)

-- none was left
record IsNone (x : Hosted) (a : AskedAndTold) (y : Hosted) : Type 0 where
  pub last : 1_000_000_000_000_000 ≤ x.desk.turns
  pub said : a.1 ≡ turns_spent
  pub hosts : hosts_of y.desk ≡ hosts_of x.desk
  pub faults : y.faults ≡ x.faults

-- what a turn came to: one step of what the host stands for, or none was left
abbrev CameSo : Hosted → AskedAndTold → Hosted → Type 0
CameSo x a y =
    ((past : Past AllOpened) → StandsFor (hosts_of x.desk) past → (loss : Loss) × CameTo x.faults y.faults past a.0 loss a.1 (hosts_of y.desk))
    ⊎ IsNone x a y

came : (x : Hosted) (a : AskedAndTold) (y : Hosted) → IsTurnOf x a y → CameSo x a y
came x a y h = go (nat_lt x.desk.turns 1_000_000_000_000_000) refl
  where
    go : (b : Bool) → nat_lt x.desk.turns 1_000_000_000_000_000 ≡ b → CameSo x a y
    go true is =
        let lt : x.desk.turns < 1_000_000_000_000_000 = grind (arith, nat_tests) in
        inl (h.2.1.made lt).turn
    go false is =
        let le : 1_000_000_000_000_000 ≤ x.desk.turns = grind (arith, nat_tests) in
        let s = h.2.1.spent le in
        inr (record { last = le; said = s.said; hosts = ap hosts_of s.left; faults = s.counted })

pub follows : (place : ℕ) (first : Hosted) (es : List TurnEntry) (last : Hosted) → Leads IsTurnOf place first es last
    → (start : Past AllOpened) → StandsFor (hosts_of first.desk) start → IsScript start first es last
follows place first [] last h start stands = record {
  places = [];
  frames = [];
  placed = tt;
  possible = tt;
  answered = tt;
  counted = (let same = ap (λ (x : Hosted). x.faults) h in omega (arith, same));
  stands = ap (λ (x : Hosted). hosts_of x.desk) h ∙ stands;
}
follows place first (e ∷ es) last h start stands =
    let begins : e.before ≡ first = h.1 in
    let here : StandsFor (hosts_of e.before.desk) start = ap (λ (x : Hosted). hosts_of x.desk) begins ∙ stands in
    let faults : e.before.faults ≡ first.faults = ap (λ (x : Hosted). x.faults) begins in
    ⊎_elim
    (λ (t : (past : Past AllOpened) → StandsFor (hosts_of e.before.desk) past → (loss : Loss) × CameTo e.before.faults e.after.faults past e.deed.0 loss e.deed.1 (hosts_of e.after.desk)).
    let took = t start here in
    let p = place_of e.deed.0 took.0 in
    let r = follows (suc place) e.after es last h.3 (play start p).past took.1.stands in
    let asked : IsAsked e.deed.0.asked = h.2.2.0 in record {
      places = p ∷ r.places;
      frames = record { moment = e.deed.0.moment; words = e.deed.0.words; bytes = asked.0 } ∷ r.frames;
      placed = (record { at = refl; drawn = refl; reads = asked.1; losing = loss_of start e.deed.0 asked.0 took.0 took.1.possible }, r.placed);
      possible = (may start e.deed.0 took.0 took.1.possible, r.possible);
      answered = inr (record { place = refl; possible = took.1.possible; told = took.1.told }, r.answered);
      counted = rose_on (one_by_keeper took.0) (keeper_losses r.places) first.faults e.after.faults last.faults (subst (λ n. RoseBy (one_by_keeper took.0) n e.after.faults) faults took.1.counted) r.counted;
      stands = r.stands;
    })
    (λ (t : IsNone e.before e.deed e.after).
    let r = follows (suc place) e.after es last h.3 start (t.hosts ∙ here) in
    let late : 1_000_000_000_000_000 ≤ turns start = omega (arith, t.last, ap (λ (h : Hosts). h.turns) here) in record {
      places = r.places;
      frames = r.frames;
      placed = r.placed;
      possible = r.possible;
      answered = spent_first start e.deed (answered es) r.places (late, t.said) r.answered;
      counted = subst (λ n. RoseBy (keeper_losses r.places) n last.faults) (t.faults ∙ faults) r.counted;
      stands = r.stands;
    })
    (came e.before e.deed e.after h.2)
