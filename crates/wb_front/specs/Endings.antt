-- How a connection ends, and what was answered by then.
use Rattle.std.specs.Prelude.{◌≡◌, ◌⊎◌, ◌<◌, ◌≤◌, ℕ, true, List, [], ◌++◌, length, Some, None}
use Rattle.std.specs.Io.KnownBytes.{Appends, IsAtEnd}
use Rattle.wb_model.specs.declared.body.Told.{Told}
use Rattle.wb_model.specs.declared.wire.WireFault.{WireFault}
use Rattle.wb_model.specs.Cuts.{Part, Ends, IsCut}
use Rattle.wb_model.specs.Requests.{Frame}
use Rattle.wb_front.specs.Answers.{IsFatal}
use Rattle.wb_front.specs.Arrivals.{IsUnfinished}
use Rattle.wb_wire.specs.Responses.{refusal}
use Rattle.wb_front.specs.Served.{Exchange, Sides, HasExchanged, HasReplied, StayOpen, ClosesLast, AsksNext, IsSentLast, replies, reply_bytes}
use Rattle.wb_front.specs.declared.connection.Ended.{Ended}
use Rattle.wb_front.specs.declared.connection.Ended.TheVariants as ended
use Rattle.wb_transport.specs.Lines.{LinkEnd}
use Rattle.wb_base.specs.Outside.{Rose, AppendsFront}

-- exchanges were made and replied to, none of which closes, and these bytes were read besides
pub record IsOpenYet {O : Type 0} (Ran : O → Frame → Told → O → Type 0) (a b : Sides O) (xs : List Exchange) (held : List ℕ) : Type 0 where
  pub replied : HasReplied Ran a b xs held
  pub stay : StayOpen xs

-- so it is after fewer than a thousand exchanges: one more request would have its reply
pub record IsWaiting {O : Type 0} (Ran : O → Frame → Told → O → Type 0) (a b : Sides O) (xs : List Exchange) (held : List ℕ) : Type 0 where
  pub yet : IsOpenYet Ran a b xs held
  pub room : length xs < 1000

-- the last exchange closes, and no fault that ends a connection is the reason
abbrev pub IsClosed : List Exchange → Type 0
IsClosed xs = (x : Exchange) × ClosesLast xs x × IsFatal None x.reply x.tick

-- the last exchange is the refusal of a request for a fault that ends a connection
abbrev pub IsRefusedLast : WireFault → List Exchange → Type 0
IsRefusedLast fault xs = (x : Exchange) × ClosesLast xs x × IsFatal (Some fault) x.reply x.tick

-- the bytes that follow the exchanges are no request, and were refused
pub record IsRefusedHead {O : Type 0} (Ran : O → Frame → Told → O → Type 0) (a b : Sides O) (fault : WireFault) (xs : List Exchange) (held : List ℕ) : Type 0 where
  pub served : HasExchanged Ran a b xs held
  pub stay : StayOpen xs
  pub room : length xs < 1000
  pub cut : IsCut held (Ends fault)
  pub sent : Appends a.got b.got (replies xs ++ reply_bytes (refusal fault true))

-- each reply but the last was sent whole, and of the last a part that begins at its front
pub record IsCutOff {O : Type 0} (a b : Sides O) (xs : List Exchange) (held : List ℕ) : Type 0 where
  pub before : List ℕ
  pub last : List ℕ
  pub is_last : IsSentLast xs held before last
  pub part : List ℕ
  pub rest : List ℕ
  pub cut : last ≡ part ++ rest
  pub sent : Appends a.got b.got (before ++ part)

-- by the exchanges that were made and the bytes that were read besides
abbrev pub EndsSo : {O : Type 0} → (O → Frame → Told → O → Type 0) → Sides O → Sides O → List Exchange → List ℕ → Ended → Type 0
EndsSo Ran a b xs held ended.Closed = (IsWaiting Ran a b xs held × (held ≡ []) × IsAtEnd b.left) ⊎ (HasReplied Ran a b xs held × IsClosed xs)
EndsSo Ran a b xs held ended.CutShort = IsWaiting Ran a b xs held × IsCut held Part × IsAtEnd b.left
EndsSo Ran a b xs held ended.ReadFault = IsWaiting Ran a b xs held × IsUnfinished held
EndsSo Ran a b xs held ended.WriteFault = HasExchanged Ran a b xs held × IsCutOff a b xs held
EndsSo Ran a b xs held ended.ClockFault = IsWaiting Ran a b xs held × AsksNext held
EndsSo Ran a b xs held ended.Spent = IsOpenYet Ran a b xs held × (length xs ≡ 1000)
EndsSo Ran a b xs held (ended.Refused fault) = IsRefusedHead Ran a b fault xs held ⊎ (HasReplied Ran a b xs held × IsRefusedLast fault xs)
EndsSo Ran a b xs held ended.Memory = b ≡ a

-- a connection that stood so is ended so, after a thousand exchanges at most
abbrev pub IsEnded : {O : Type 0} → (O → Frame → Told → O → Type 0) → Sides O → Sides O → Ended → Type 0
IsEnded Ran a b ended = (xs : List Exchange) × (held : List ℕ) × EndsSo Ran a b xs held ended × (length xs ≤ 1000)

-- the refusal of bytes that are no request was sent, or a part of it that begins at its front where the link failed
abbrev pub SendsRefusal : LinkEnd → LinkEnd → WireFault → Ended → Type 0
SendsRefusal link link' fault how =
    ((how ≡ ended.Refused fault) × Appends link.got link'.got (reply_bytes (refusal fault true)))
    ⊎ ((how ≡ ended.WriteFault) × Rose link.count link'.count × AppendsFront link.got link'.got (reply_bytes (refusal fault true)))
