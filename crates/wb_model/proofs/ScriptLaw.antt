-- Unwinding over scripts: alike scripts get the same replies, but at the places where one of the report's readers asks.
use Rattle.std.proofs.Common.{zero, suc, ◌≡◌, inl, inr, ℕ, ◌+◌, Bool, true, false, cond, List, [], ◌∷◌, Some, None, refl, sym, ap, ◌∙◌, subst}
use Rattle.std.specs.Prelude.{max}
use Rattle.wb_model.specs.Refusals.{keeper_failed, no_memory}
use Rattle.wb_model.specs.Requests.{Frame}
use Rattle.wb_model.specs.Tenants.{Hosts, hosts_reply, hosts_after, hosts_lost, AllHostsAlike, OneLaterAlike, FirstAlike, is_report_reader}
use Rattle.wb_model.specs.Past.{Past}
use Rattle.wb_model.specs.Pasts.{AllOpened, standing_hosts, reply_in, with_turn}
use Rattle.wb_model.specs.Readings.{Reading, Asks, Refuses}
use Rattle.wb_model.specs.Scripts.{Loss, NotLost, ByKeeper, ByMemory, Unread, Place, Reply, Played, frame_of, replying, play_asked, play_by, play, script_replies, past_after}
use Rattle.wb_model.specs.ScriptsAlike.{PastsAlike, AskAlike, PlaceAlike, AllPlacesAlike, is_accepted, FollowWhere, PlacesAlike, reader_by, hidden_replies}
use Rattle.wb_model.proofs.AllTenants.{later_reply, later_hosts, later_moment, first_reply, first_hosts, same_alike}
use Rattle.wb_model.proofs.PartLaw.{reply_in_law, turn_in_law}

-- the replies are the same but to a reader, and the pasts after them alike
record PlayedAlike (t r : ℕ) (reads : Bool) (x y : Played) : Type 0 where
  reply : reads ≡ false → x.reply ≡ y.reply
  pasts : PastsAlike t r x.past y.past

-- what two requests do to the hosts of two pasts
record TurnAlike (t r : ℕ) (past other : Past AllOpened) (f g : Frame) : Type 0 where
  reply : is_report_reader t r (standing_hosts past) f ≡ false → hosts_reply (standing_hosts past) f ≡ hosts_reply (standing_hosts other) g
  hosts : AllHostsAlike t r (hosts_after (standing_hosts past) f) (hosts_after (standing_hosts other) g)
  moment : f.moment ≡ g.moment

lost_alike : (t r : ℕ) (h k : Hosts) (f g : Frame) → AllHostsAlike t r h k → f.moment ≡ g.moment → AllHostsAlike t r (hosts_lost h f) (hosts_lost k g)
lost_alike t r h k f g al e = record { turns = ap (λ n. n + 1) al.turns; now = ap (λ n. max n f.moment) al.now ∙ ap (max k.now) e; list = al.list }

asked_alike : (t r : ℕ) (past other : Past AllOpened) (f g : Frame) (loss : Loss) → PastsAlike t r past other → TurnAlike t r past other f g → f.asked.close ≡ g.asked.close
    → PlayedAlike t r (is_report_reader t r (standing_hosts past) f) (play_asked past f loss) (play_asked other g loss)
asked_alike t r past other f g NotLost al turn close = record {
  reply = λ off. ap (λ told. replying told f.asked.close) (sym (reply_in_law past f) ∙ (turn.reply off ∙ reply_in_law other g)) ∙ ap (replying (reply_in other g)) close;
  pasts = subst (λ h. AllHostsAlike t r h (standing_hosts (with_turn other g))) (turn_in_law past f) (subst (AllHostsAlike t r (hosts_after (standing_hosts past) f)) (turn_in_law other g) turn.hosts);
}
asked_alike t r past other f g ByKeeper al turn close = record { reply = λ off. ap (replying keeper_failed) close; pasts = lost_alike t r (standing_hosts past) (standing_hosts other) f g al turn.moment }
asked_alike t r past other f g ByMemory al turn close = record { reply = λ off. ap (replying no_memory) close; pasts = lost_alike t r (standing_hosts past) (standing_hosts other) f g al turn.moment }
asked_alike t r past other f g (Unread asks) al turn close = record { reply = λ off. refl; pasts = al }

-- a place at which two related things are asked
ask_alike : (t r : ℕ) (past other : Past AllOpened) (p q : Place) (R : Frame → Frame → Type 0) → PastsAlike t r past other → AskAlike R p q → ((f g : Frame) → R f g → TurnAlike t r past other f g)
    → PlayedAlike t r (reader_by t r past p p.reading) (play past p) (play other q)
ask_alike t r past other p q R al ask turn =
    let f : Frame = frame_of p ask.left in
    let g : Frame = frame_of q ask.right in
    let both = asked_alike t r past other f g p.loss al (turn f g ask.related) ask.close in
    let here : play_by past p p.reading ≡ play_asked past f p.loss = ap (play_by past p) ask.reads in
    let there : play_by other q q.reading ≡ play_asked other g p.loss = ap (play_by other q) ask.other_reads ∙ ap (play_asked other g) (sym ask.loss) in
    record {
      reply = λ off. ap (λ (x : Played). x.reply) here ∙ (both.reply (ap (reader_by t r past p) (sym ask.reads) ∙ off) ∙ sym (ap (λ (x : Played). x.reply) there));
      pasts = subst (λ (x : Played). PastsAlike t r x.past (play other q).past) (sym here) (subst (λ (x : Played). PastsAlike t r (play_asked past f p.loss).past x.past) (sym there) both.pasts);
    }

later_turn : (t r : ℕ) (past other : Past AllOpened) → PastsAlike t r past other → (f g : Frame) → OneLaterAlike t r (standing_hosts past) f g → TurnAlike t r past other f g
later_turn t r past other al f g l = record {
  reply = later_reply t r (standing_hosts past) (standing_hosts other) f g al l;
  hosts = later_hosts t r (standing_hosts past) (standing_hosts other) f g al l;
  moment = later_moment t r (standing_hosts past) f g l;
}

first_turn : (t r : ℕ) (past : Past AllOpened) (f g : Frame) → FirstAlike t r (standing_hosts past) f g → TurnAlike t r past past f g
first_turn t r past f g l = record { reply = first_reply t r (standing_hosts past) f g l; hosts = first_hosts t r (standing_hosts past) f g l; moment = l.3 }

-- the same place on two pasts
same_place : (t r : ℕ) (past other : Past AllOpened) (p : Place) (reading : Reading) → p.reading ≡ reading → PastsAlike t r past other → PlayedAlike t r (reader_by t r past p p.reading) (play past p) (play other p)
same_place t r past other p (Asks asked) e al =
    ask_alike t r past other p p (λ f g. f ≡ g) al (record { left = asked; right = asked; reads = e; other_reads = e; related = refl; close = refl; loss = refl }) (λ f g is. later_turn t r past other al f g (inl is))
same_place t r past other p (Refuses fault close) e al =
    let here : play_by past p p.reading ≡ play_by past p (Refuses fault close) = ap (play_by past p) e in
    let there : play_by other p p.reading ≡ play_by other p (Refuses fault close) = ap (play_by other p) e in
    record {
      reply = λ off. ap (λ (x : Played). x.reply) here ∙ sym (ap (λ (x : Played). x.reply) there);
      pasts = subst (λ (x : Played). PastsAlike t r x.past (play other p).past) (sym here) (subst (λ (x : Played). PastsAlike t r past x.past) (sym there) al);
    }

later_place : (t r : ℕ) (past other : Past AllOpened) (p q : Place) → PastsAlike t r past other → PlaceAlike t r past p q → PlayedAlike t r (reader_by t r past p p.reading) (play past p) (play other q)
later_place t r past other p q al (inl e) = subst (λ x. PlayedAlike t r (reader_by t r past p p.reading) (play past p) (play other x)) e (same_place t r past other p p.reading refl al)
later_place t r past other p q al (inr ask) = ask_alike t r past other p q (OneLaterAlike t r (standing_hosts past)) al ask (later_turn t r past other al)

-- ---- scripts

hide : (b : Bool) (x y : Reply) → (b ≡ false → x ≡ y) → cond b None (Some x) ≡ cond b None (Some y)
hide true x y h = refl
hide false x y h = ap Some (h refl)

pub later_answers : (t r : ℕ) (past other : Past AllOpened) (ps qs : List Place) → PastsAlike t r past other → AllPlacesAlike t r past ps qs → hidden_replies t r past ps (script_replies past ps) ≡ hidden_replies t r past ps (script_replies other qs)
later_answers t r past other [] [] al l = refl
later_answers t r past other [] (q ∷ qs) al l = absurd l
later_answers t r past other (p ∷ ps) [] al l = absurd l
later_answers t r past other (p ∷ ps) (q ∷ qs) al l =
    let first = later_place t r past other p q al l.0 in
    ap (λ o. o ∷ hidden_replies t r (play past p).past ps (script_replies (play past p).past ps)) (hide (reader_by t r past p p.reading) _ _ first.reply)
    ∙ ap (λ os. cond (reader_by t r past p p.reading) None (Some (play other q).reply) ∷ os) (later_answers t r (play past p).past (play other q).past ps qs first.pasts l.1)

pub all_same : (t r : ℕ) (past : Past AllOpened) (ps : List Place) → AllPlacesAlike t r past ps ps
all_same t r past [] = tt
all_same t r past (p ∷ ps) = (inl refl, all_same t r (play past p).past ps)

following : (b : Bool) (t r : ℕ) (past : Past AllOpened) (ps qs : List Place) → FollowWhere b t r past ps qs → AllPlacesAlike t r past ps qs
following true t r past ps qs l = l
following false t r past ps qs e = subst (AllPlacesAlike t r past ps) e (all_same t r past ps)

pub alike_answers : (i t r : ℕ) (past : Past AllOpened) (ps qs : List Place) → PlacesAlike i t r past ps qs → hidden_replies t r past ps (script_replies past ps) ≡ hidden_replies t r past ps (script_replies past qs)
alike_answers i t r past [] qs l = absurd l
alike_answers i t r past (p ∷ ps) [] l = absurd l
alike_answers zero t r past (p ∷ ps) (q ∷ qs) l =
    let first = ask_alike t r past past p q (FirstAlike t r (standing_hosts past)) (same_alike t r (standing_hosts past)) l.0 (first_turn t r past) in
    ap (λ o. o ∷ hidden_replies t r (play past p).past ps (script_replies (play past p).past ps)) (hide (reader_by t r past p p.reading) _ _ first.reply)
    ∙ ap (λ os. cond (reader_by t r past p p.reading) None (Some (play past q).reply) ∷ os)
    (later_answers t r (play past p).past (play past q).past ps qs first.pasts (following (is_accepted past p p.reading) t r (play past p).past ps qs l.1))
alike_answers (suc i) t r past (p ∷ ps) (q ∷ qs) l =
    subst (λ x. hidden_replies t r past (p ∷ ps) (script_replies past (p ∷ ps)) ≡ hidden_replies t r past (p ∷ ps) (script_replies past (x ∷ qs))) l.0
    (ap (λ os. cond (reader_by t r past p p.reading) None (Some (play past p).reply) ∷ os) (alike_answers i t r (play past p).past ps qs l.1))

-- the hosts at the end are alike

pub later_end : (t r : ℕ) (past other : Past AllOpened) (ps qs : List Place) → PastsAlike t r past other → AllPlacesAlike t r past ps qs → PastsAlike t r (past_after past ps) (past_after other qs)
later_end t r past other [] [] al l = al
later_end t r past other [] (q ∷ qs) al l = absurd l
later_end t r past other (p ∷ ps) [] al l = absurd l
later_end t r past other (p ∷ ps) (q ∷ qs) al l = later_end t r (play past p).past (play other q).past ps qs (later_place t r past other p q al l.0).pasts l.1

pub alike_hosts : (i t r : ℕ) (past : Past AllOpened) (ps qs : List Place) → PlacesAlike i t r past ps qs → PastsAlike t r (past_after past ps) (past_after past qs)
alike_hosts i t r past [] qs l = absurd l
alike_hosts i t r past (p ∷ ps) [] l = absurd l
alike_hosts zero t r past (p ∷ ps) (q ∷ qs) l =
    let first = ask_alike t r past past p q (FirstAlike t r (standing_hosts past)) (same_alike t r (standing_hosts past)) l.0 (first_turn t r past) in
    later_end t r (play past p).past (play past q).past ps qs first.pasts (following (is_accepted past p p.reading) t r (play past p).past ps qs l.1)
alike_hosts (suc i) t r past (p ∷ ps) (q ∷ qs) l = subst (λ x. PastsAlike t r (past_after past (p ∷ ps)) (past_after past (x ∷ qs))) l.0 (alike_hosts i t r (play past p).past ps qs l.1)
