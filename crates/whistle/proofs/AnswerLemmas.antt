-- What comes of one frame.
use Rattle.std.proofs.Common.{◌≡◌, ◌≢◌, inl, ℕ, List, Bool, false, None, refl, sym, ap, ◌∙◌, subst, arith}
use Rattle.wb_model.specs.declared.body.Told.{Told}
use Rattle.wb_model.specs.declared.command.Asked.{Asked}
use Rattle.wb_model.specs.declared.wire.ScriptFrame.{ScriptFrame}
use Rattle.wb_model.specs.declared.wire.WireFault.{WireFault}
use Rattle.wb_model.specs.declared.wire.WireFault.TheVariants as faults
use Rattle.wb_model.specs.Past.{Past}
use Rattle.wb_model.specs.Pasts.{AllOpened}
use Rattle.wb_model.specs.Readings.{Reading, Asks, Refuses, Reads, Closes, reading_of}
use Rattle.wb_model.specs.Refusals.{no_memory}
use Rattle.wb_model.specs.Requests.{Frame}
use Rattle.wb_model.specs.Replies.{fault_told, fault_allow}
use Rattle.wb_model.specs.Commands.{is_health}
use Rattle.wb_model.specs.Rows.{rows}
use Rattle.wb_model.specs.Scripts.{Loss, NotLost, ByKeeper, ByMemory, Unread, Place, frame_of, replying, play_asked, refusing, play_by, IsPossible}
use Rattle.wb_model.specs.Tenants.{Hosts}
use Rattle.wb_desk.specs.Kept.{Took}
use Rattle.wb_desk.specs.Turns.{StandsFor}
use Rattle.wb_wire.specs.declared.responses.Response.{Response}
use Rattle.wb_wire.specs.Responses.{reply_of}
use Rattle.whistle.specs.Answered.{IsAnswerTo}
use Rattle.wb_base.specs.Ends.{KeeperEnd}

abbrev pub as_place : ScriptFrame → Reading → Loss → Place
as_place frame reading loss = record { moment = frame.moment; words = frame.words; reading = reading; loss = loss }

abbrev pub asked_frame : ScriptFrame → Asked → Frame
asked_frame frame a = record { moment = frame.moment; words = frame.words; asked = a }

module _ (keeper keeper' : KeeperEnd) where
  abbrev pub Answers : Past AllOpened → ScriptFrame → Response → Hosts → Type 0
  Answers past frame answer after = (place : Place) × IsAnswerTo keeper keeper' past frame answer after place

  -- a request that was read
  pub asked : (past : Past AllOpened) (frame : ScriptFrame) (told : Told) (a : Asked) (after : Hosts) → Reads frame.bytes (Asks a) → (loss : Loss) × Took keeper keeper' past (asked_frame frame a) loss told after
      → Answers past frame (record { told = told; allow = None; close = a.close }) after
  asked past frame told a after reads took = by took.0 took.1
    where
      by : (loss : Loss) → Took keeper keeper' past (asked_frame frame a) loss told after → Answers past frame (record { told = told; allow = None; close = a.close }) after
      by NotLost t = (as_place frame (Asks a) NotLost, record { of_frame = record { at = refl; drawn = refl; reads = reads; losing = tt }; possible = tt; reply = ap (λ t. replying t a.close) t.told; stands = t.stands; counted = t.counted; kept = t.kept })
      by ByKeeper t = (as_place frame (Asks a) ByKeeper, record { of_frame = record { at = refl; drawn = refl; reads = reads; losing = tt }; possible = t.possible; reply = ap (λ t. replying t a.close) t.told; stands = t.stands; counted = t.counted; kept = t.kept })
      by ByMemory t = (as_place frame (Asks a) ByMemory, record { of_frame = record { at = refl; drawn = refl; reads = reads; losing = tt }; possible = t.possible; reply = ap (λ t. replying t a.close) t.told; stands = t.stands; counted = t.counted; kept = t.kept })
      by (Unread close) t = absurd t.possible

unread_reply : (past : Past AllOpened) (p : Place) (reading : Reading) (close : Bool) → p.loss ≡ Unread close → (play_by past p reading).reply ≡ replying no_memory close
unread_reply past p (Asks a) close e = ap (λ l. (play_asked past (frame_of p a) l).reply) e
unread_reply past p (Refuses fault c) close e = ap (refusing fault c) e

unread_past : (past : Past AllOpened) (p : Place) (reading : Reading) (close : Bool) → p.loss ≡ Unread close → (play_by past p reading).past ≡ past
unread_past past p (Asks a) close e = ap (λ l. (play_asked past (frame_of p a) l).past) e
unread_past past p (Refuses fault c) close e = refl

-- what was read of these bytes is not the host's health
abbrev pub IsNotHealth : List ℕ → Type 0
IsNotHealth bytes = (a : Asked) → Reads bytes (Asks a) → is_health a.command ≡ false

unread_possible : (past : Past AllOpened) (p : Place) (bytes : List ℕ) (reading : Reading) (close : Bool) → IsNotHealth bytes → Reads bytes reading → IsPossible past p reading (Unread close)
unread_possible past p bytes (Asks a) close other reads = other a reads
unread_possible past p bytes (Refuses fault c) close other reads = tt

-- the keeper was not asked
module _ (keeper : KeeperEnd) where
  abbrev pub Unkept : Past AllOpened → ScriptFrame → Response → Hosts → Type 0
  Unkept past frame answer after = Answers keeper keeper past frame answer after

  -- one that was refused
  refused : (past : Past AllOpened) (frame : ScriptFrame) (answer : Response) (fault : WireFault) (close : Bool) (after : Hosts) → Reads frame.bytes (Refuses fault close) → StandsFor after past
      → reply_of answer ≡ record { told = fault_told fault; allow = fault_allow fault; close = close } → Unkept past frame answer after
  refused past frame answer fault close after reads stands is =
      (as_place frame (Refuses fault close) NotLost, record { of_frame = record { at = refl; drawn = refl; reads = reads; losing = tt }; possible = tt; reply = is; stands = stands; counted = omega arith; kept = λ h held. held })

  -- one that was not read for want of memory
  unread : (past : Past AllOpened) (frame : ScriptFrame) (answer : Response) (close : Bool) (after : Hosts) → Closes frame.bytes close → IsNotHealth frame.bytes → StandsFor after past → reply_of answer ≡ replying no_memory close
      → Unkept past frame answer after
  unread past frame answer close after closes other stands is =
      let reading : Reading = reading_of closes.0 closes.1 in
      let place : Place = as_place frame reading (Unread close) in
      let reads : Reads frame.bytes reading = inl (closes.0, closes.1, closes.2, refl) in
      let same : (play_by past place reading).past ≡ past = unread_past past place reading close refl in (
        place,
        record {
          of_frame = record { at = refl; drawn = refl; reads = reads; losing = closes };
          possible = unread_possible past place frame.bytes reading close other reads;
          reply = is ∙ sym (unread_reply past place reading close refl);
          stands = subst (StandsFor after) (sym same) stands;
          counted = omega arith;
          kept = λ h held. subst (λ q. keeper.holds (rows q)) (sym same) held;
        },
      )

  -- a fault, want of memory among them
  pub unanswered : (past : Past AllOpened) (frame : ScriptFrame) (answer : Response) (fault : WireFault) (close : Bool) (after : Hosts)
      → (fault ≢ faults.Memory → Reads frame.bytes (Refuses fault close)) → (fault ≡ faults.Memory → Closes frame.bytes close) → (fault ≡ faults.Memory → IsNotHealth frame.bytes) → StandsFor after past
      → reply_of answer ≡ record { told = fault_told fault; allow = fault_allow fault; close = close } → Unkept past frame answer after
  unfolding fault_told
  unanswered past frame answer faults.Memory close after reads closes other stands is = unread past frame answer close after (closes refl) (other refl) stands is
  unanswered past frame answer _ close after reads closes other stands is = refused past frame answer _ close after (reads (λ e. grind (arith, e))) stands is
