-- What the reply to one request is.
use Rattle.std.specs.Prelude.{◌≡◌, ◌≢◌, ◌⊎◌, ℕ, Bool, true, false, List, Option, Some, None}
use Rattle.wb_model.specs.declared.body.Told.{Told}
use Rattle.wb_model.specs.declared.wire.WireFault.{WireFault}
use Rattle.wb_model.specs.Readings.{closes_always}
use Rattle.wb_model.specs.Requests.{Frame}
use Rattle.wb_model.specs.Scripts.{Reply}
use Rattle.wb_transport.specs.Lines.{Tick}
use Rattle.wb_wire.specs.Responses.{refusal, reply_of}
use Rattle.wb_front.specs.Served.{IsReply, Loses, tick_of}
use Rattle.wb_front.specs.declared.answers.Replied.{Replied}

-- the fault is the one after which the connection closes whatever its head asks for; and where there is none, the reply is a turn's, or
-- that of a fault after which it may stay
abbrev pub IsFatal : Option WireFault → Reply → Option Tick → Type 0
IsFatal None reply tick = (tick ≢ None) ⊎ ((fault : WireFault) × (close : Bool) × (closes_always fault ≡ false) × (reply ≡ refusal fault close))
IsFatal (Some fault) reply tick = (closes_always fault ≡ true) × (tick ≡ None) × (reply ≡ refusal fault reply.close)

-- the answer is the reply to these bytes, by a turn at this tick or none, with what is had of the gate and the ticks that are left before and after
pub record IsRepliedTo {O : Type 0} (Ran : O → Frame → Told → O → Type 0) (own own' : O) (moments moments' : Option (List Tick)) (bytes : List ℕ) (a : Replied) (tick : Option Tick) : Type 0 where
  pub replied : IsReply Ran own own' bytes (reply_of a.response) tick
  pub turns : Loses moments moments' (tick_of tick)
  pub fatal : IsFatal a.fatal (reply_of a.response) tick
