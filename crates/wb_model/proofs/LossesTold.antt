-- A reply is 503 or 507 exactly where something was lost: over every past, for the replies to frames.
use Rattle.std.proofs.Common.{◌≡◌, ◌≢◌, ◌==◌, inl, inr, ℕ, nat_le, length, codes, unwrap_or, Bool, true, false, cond, List, [], ◌∷◌, Option, Some, None, Result, Ok, Err, refl, sym, ap, ◌∙◌, subst, arith}
use Rattle.std.specs.Prelude.{ok_or}
use Rattle.std.specs.Str.Parse.{digits_value}
use Rattle.wb_base.specs.declared.callers.Presented.{Presented}
use Rattle.wb_model.specs.declared.command.Command.{Command}
use Rattle.wb_model.specs.declared.route.Route.{Route}
use Rattle.wb_model.specs.declared.wire.ScriptFrame.{ScriptFrame}
use Rattle.wb_model.specs.declared.wire.WireFault.{WireFault}
use Rattle.wb_model.specs.declared.wire.WireFault.TheVariants as faults
use Rattle.wb_model.specs.Bodies.{json}
use Rattle.wb_model.specs.RouteBodies.{Numbers, bare, shaped}
use Rattle.wb_model.specs.Heads.{Fields, fields_of, is_absent, values, is_digits, length_said, declared_length, session as session_said, closes_by, path}
use Rattle.wb_model.specs.Host.{said}
use Rattle.wb_model.specs.Past.{Past}
use Rattle.wb_model.specs.Pasts.{AllOpened, reply_in}
use Rattle.wb_model.specs.Playing.{IsPlaceOf, ArePlacesOf, is_loss, AreLossesTold}
use Rattle.wb_model.specs.Readings.{Reading, Asks, Refuses, Reads, and_then, sized_by, sized, located, located_or_fault, routed, body_by, command_by, command, asks, reading_by}
use Rattle.wb_model.specs.Refusals.{keeper_failed, no_memory, not_found}
use Rattle.wb_model.specs.Replies.{fault_told}
use Rattle.wb_model.specs.Requests.{Frame}
use Rattle.wb_model.specs.Routes.{route}
use Rattle.wb_model.specs.Scripts.{Loss, NotLost, ByKeeper, ByMemory, Unread, Place, IsPossible, ArePossible, frame_of, play_asked, play_by, refusing, play}
use Rattle.wb_model.proofs.TargetsServed.{Served, not_lost}
use Rattle.wb_model.proofs.TurnsServed.{turn_served}

told_loss : Loss → Bool
told_loss NotLost = false
told_loss _ = true

asked_told : (past : Past AllOpened) (f : Frame) (loss : Loss) → is_loss (play_asked past f loss).reply.told.status ≡ told_loss loss
unfolding told_loss keeper_failed no_memory
asked_told past f NotLost = not_lost (reply_in past f) (turn_served past f)
asked_told past f ByKeeper = refl
asked_told past f ByMemory = refl
asked_told past f (Unread close) = refl

fault_not_lost : (fault : WireFault) → fault ≢ faults.Memory → Served (fault_told fault)
unfolding fault_told not_found
fault_not_lost faults.Memory ne = absurd (ne refl)
fault_not_lost _ ne = refl

refused_told : (past : Past AllOpened) (p : Place) (fault : WireFault) (close : Bool) (loss : Loss) → fault ≢ faults.Memory → IsPossible past p (Refuses fault close) loss → is_loss (refusing fault close loss).told.status ≡ told_loss loss
unfolding told_loss no_memory
refused_told past p fault close NotLost ne may = not_lost (fault_told fault) (fault_not_lost fault ne)
refused_told past p fault close ByKeeper ne may = absurd may
refused_told past p fault close ByMemory ne may = absurd may
refused_told past p fault close (Unread asks) ne may = refl

-- bytes are not read as want of memory
-- the fault is not want of memory
abbrev Wanting : {X : Type 0} → Result X WireFault → Type 0
Wanting r = (r ≡ Err faults.Memory) → ⊥

then_wants : {X Y : Type 0} (next : X → Result Y WireFault) (r : Result X WireFault) → Wanting r → ((x : X) → Wanting (next x)) → Wanting (and_then next r)
then_wants next (Ok x) first rest = rest x
then_wants next (Err fault) first rest = λ e. first (let same : fault ≡ faults.Memory = cc in ap Err same)

given_wants : {X : Type 0} (o : Option X) (fault : WireFault) → fault ≢ faults.Memory → Wanting (ok_or o fault)
given_wants None fault other = λ e. other cc
given_wants (Some x) fault other = λ e. cc

test_wants : {X : Type 0} (test : Bool) (r s : Result X WireFault) → Wanting r → Wanting s → Wanting (cond test r s)
test_wants true r s a b = a
test_wants false r s a b = b

said_wants : (vs : List (List ℕ)) → Wanting (length_said vs)
said_wants [] = λ e. cc
said_wants (text ∷ []) = test_wants (is_digits text) _ _ (test_wants (nat_le (digits_value 10 text) 262_144) _ _ (λ e. cc) (λ e. cc)) (λ e. cc)
said_wants (text ∷ second ∷ more) = λ e. cc

body_wants : (rest : List ℕ) (said : Option ℕ) → Wanting (body_by rest said)
body_wants rest None = λ e. cc
body_wants rest (Some said) = given_wants (json rest) faults.BadJson (λ e. cc)

command_wants : (at : Numbers) (rest : List ℕ) (said : Option ℕ) (r : Route) (o : Option Command) → Wanting (command_by r at rest said o)
command_wants at rest said r None = then_wants _ (body_by rest said) (body_wants rest said) (λ d. given_wants (shaped r at d) faults.BadShape (λ e. cc))
command_wants at rest said r (Some c) = λ e. cc

asks_wants : (method text : List ℕ) (fields : Fields) (rest : List ℕ) → Wanting (asks method text fields rest)
asks_wants method text fields rest =
    then_wants _ (sized fields rest) (then_wants (sized_by rest) (declared_length fields) (test_wants (is_absent (codes "transfer-encoding") fields) _ _ (said_wants (values (codes "content-length") fields)) (λ e. cc))
    (λ said. test_wants (length rest == unwrap_or said 0) _ _ (λ e. cc) (λ e. cc)))
    (λ said. then_wants _ (located_or_fault text) (given_wants (located text) faults.NoRoute (λ e. cc))
    (λ place. then_wants (command place.at rest said) (routed method place) (given_wants (route method place.methods) (faults.NoMethod place.number) (λ e. cc)) (λ r. command_wants place.at rest said r (bare r place.at))))

refused_by : (presented : Presented) (closing : Bool) (r : Result Command WireFault) (fault : WireFault) (close : Bool) → Refuses fault close ≡ reading_by presented closing r → Wanting r → fault ≢ faults.Memory
refused_by presented closing (Ok c) fault close is wants = λ e. cc
refused_by presented closing (Err other) fault close is wants = λ e. wants (let same : fault ≡ other = cc in let memory : other ≡ faults.Memory = sym same ∙ e in ap Err memory)

read_fault : (bytes : List ℕ) (fault : WireFault) (close : Bool) → Reads bytes (Refuses fault close) → fault ≢ faults.Memory
read_fault bytes fault close (inl h) = refused_by (session_said (fields_of h.0)) (closes_by h.0.minor (fields_of h.0)) (asks h.0.method (path h.0) (fields_of h.0) h.1) fault close h.3 (asks_wants h.0.method (path h.0) (fields_of h.0) h.1)
read_fault bytes fault close (inr h) = λ is. grind (arith, h.1, is)

place_told : (past : Past AllOpened) (frame : ScriptFrame) (p : Place) (reading : Reading) → p.reading ≡ reading → IsPlaceOf frame p → IsPossible past p p.reading p.loss → is_loss (play past p).reply.told.status ≡ told_loss p.loss
place_told past frame p (Asks a) e is may = ap (λ r. is_loss (play_by past p r).reply.told.status) e ∙ asked_told past (frame_of p a) p.loss
place_told past frame p (Refuses fault close) e is may =
    ap (λ r. is_loss (play_by past p r).reply.told.status) e
    ∙ refused_told past p fault close p.loss (read_fault frame.bytes fault close (subst (Reads frame.bytes) e is.reads)) (subst (λ r. IsPossible past p r p.loss) e may)

lost_by : (loss : Loss) → told_loss loss ≡ false → loss ≡ NotLost
unfolding told_loss
lost_by NotLost e = refl
lost_by ByKeeper e = absurd (grind (arith, e))
lost_by ByMemory e = absurd (grind (arith, e))
lost_by (Unread close) e = absurd (grind (arith, e))

-- so is each of a script
pub all_told : (past : Past AllOpened) (frames : List ScriptFrame) (ps : List Place) → ArePlacesOf frames ps → ArePossible past ps → AreLossesTold past ps
unfolding told_loss
all_told past [] [] placed may = tt
all_told past (f ∷ frames) [] placed may = absurd placed
all_told past [] (p ∷ ps) placed may = absurd placed
all_told past (f ∷ frames) (p ∷ ps) placed may =
    let told : is_loss (play past p).reply.told.status ≡ told_loss p.loss = place_told past f p p.reading refl placed.0 may.0 in
    (((λ e. told ∙ ap told_loss e), (λ e. lost_by p.loss (sym told ∙ e))), all_told (play past p).past frames ps placed.1 may.1)
