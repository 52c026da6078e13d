-- The requests of a connection, each with its reply.
use Rattle.std.specs.Prelude.{◌≡◌, ◌≢◌, ◌⊎◌, ◌||◌, ◌<◌, ℕ, suc, nat_eq, Bool, true, false, List, [], ◌∷◌, ◌++◌, length, Option, Some, None}
use Rattle.std.specs.Io.KnownBytes.{Appends}
use Rattle.wb_model.specs.declared.body.Told.{Told}
use Rattle.wb_model.specs.declared.command.Asked.{Asked}
use Rattle.wb_model.specs.declared.wire.WireFault.{WireFault}
use Rattle.wb_model.specs.declared.wire.WireFault.TheVariants as faults
use Rattle.wb_model.specs.Commands.{is_health}
use Rattle.wb_model.specs.Cuts.{HasHead, Ends, IsCut}
use Rattle.wb_model.specs.Readings.{Asks, Refuses, Reads, Closes}
use Rattle.wb_model.specs.Replies.{reply_text}
use Rattle.wb_model.specs.Requests.{Frame}
use Rattle.wb_model.specs.Scripts.{Reply}
use Rattle.wb_transport.specs.Lines.{Clock, LinkEnd, Tick}
use Rattle.wb_wire.specs.Responses.{refusal}

-- a request's bytes, its reply, and the moment and words of its turn, where it was one
pub record Exchange : Type 0 where
  pub request : List ℕ
  pub reply : Reply
  pub tick : Option Tick

-- the turn of what is asked at a tick
abbrev pub frame_at : Tick → Asked → Frame
frame_at tick asked = record { moment = tick.0; words = tick.1; asked = asked }

-- ---- what a reply is

-- the gate's answer to what the bytes ask: the turn ran, for one who had this of the gate before and that after
abbrev pub IsTurnAt : {O : Type 0} → (O → Frame → Told → O → Type 0) → O → O → Tick → List ℕ → Reply → Type 0
IsTurnAt Ran own own' tick bytes reply = (asked : Asked) × Reads bytes (Asks asked) × Ran own (frame_at tick asked) reply.told own' × (reply.allow ≡ None) × (reply.close ≡ asked.close)

-- the bytes do not ask for the host's health, which is read without memory
abbrev pub AsksNoHealth : List ℕ → Type 0
AsksNoHealth bytes = (asked : Asked) → Reads bytes (Asks asked) → is_health asked.command ≡ false

-- why the bytes ask nothing: a fault of theirs, or want of memory
abbrev pub IsRefusedFor : List ℕ → WireFault → Bool → Type 0
IsRefusedFor bytes fault close = (fault ≢ faults.Memory → Reads bytes (Refuses fault close)) × (fault ≡ faults.Memory → Closes bytes close × AsksNoHealth bytes)

-- a turn, or no turn and the refusal of what asks nothing
abbrev pub IsReply : {O : Type 0} → (O → Frame → Told → O → Type 0) → O → O → List ℕ → Reply → Option Tick → Type 0
IsReply Ran own own' bytes reply (Some tick) = IsTurnAt Ran own own' tick bytes reply
IsReply Ran own own' bytes reply None = (own' ≡ own) × (fault : WireFault) × (close : Bool) × IsRefusedFor bytes fault close × (reply ≡ refusal fault close)

-- a request is a head with its whole body, and has its reply
pub record IsExchange {O : Type 0} (Ran : O → Frame → Told → O → Type 0) (own own' : O) (x : Exchange) : Type 0 where
  pub whole : (body : List ℕ) × HasHead x.request body (length body)
  pub replied : IsReply Ran own own' x.request x.reply x.tick

-- ---- one after another

-- each from what the one before it left
abbrev pub AreExchanges : {O : Type 0} → (O → Frame → Told → O → Type 0) → O → List Exchange → O → Type 0
AreExchanges {O} Ran own [] own' = own' ≡ own
AreExchanges {O} Ran own (x ∷ xs) own' = (o : O) × IsExchange Ran own o x × AreExchanges Ran o xs own'

-- the bytes of all requests, and of all replies
abbrev pub requests : List Exchange → List ℕ
requests [] = []
requests (x ∷ xs) = x.request ++ requests xs

abbrev pub reply_bytes : Reply → List ℕ
reply_bytes reply = reply_text reply.told reply.allow reply.close

-- a reply with this closing
abbrev pub closing : Reply → Bool → Reply
closing reply close = record { told = reply.told; allow = reply.allow; close = close }

-- a reply as it is sent after so many others: the thousandth says that the connection closes
abbrev pub said : ℕ → Reply → Reply
said before reply = closing reply (reply.close || nat_eq before 999)

-- the replies after so many others
abbrev pub replies_after : ℕ → List Exchange → List ℕ
replies_after before [] = []
replies_after before (x ∷ xs) = reply_bytes (said before x.reply) ++ replies_after (suc before) xs

abbrev pub replies : List Exchange → List ℕ
replies xs = replies_after 0 xs

-- the ticks of all turns
abbrev pub tick_of : Option Tick → List Tick
tick_of None = []
tick_of (Some tick) = tick ∷ []

abbrev pub ticks : List Exchange → List Tick
ticks [] = []
ticks (x ∷ xs) = tick_of x.tick ++ ticks xs

-- none of them closes the connection
abbrev pub StayOpen : List Exchange → Type 0
StayOpen [] = Unit {0}
StayOpen (x ∷ xs) = (x.reply.close ≡ false) × StayOpen xs

-- ---- a connection so far

-- the two ends of a connection: the bytes that its link has left, those that it got, the ticks to come, and what its worker has of the gate
pub record Sides (O : Type 0) : Type 0 where
  pub left : Option (List ℕ)
  pub got : Option (List ℕ)
  pub moments : Option (List Tick)
  pub own : O

abbrev pub sides_at : {O : Type 0} → LinkEnd → Clock → O → Sides O
sides_at link clock own = record { left = link.left; got = link.got; moments = clock.left; own = own }

-- what told content was, and is now, where this went away in front of it
abbrev pub Loses : {X : Type 0} → Option (List X) → Option (List X) → List X → Type 0
Loses {X} old new front = (xs : List X) → old ≡ Some xs → (ys : List X) × (new ≡ Some ys) × (xs ≡ front ++ ys)

-- these exchanges were made, and these bytes were read besides
pub record HasExchanged {O : Type 0} (Ran : O → Frame → Told → O → Type 0) (a b : Sides O) (xs : List Exchange) (held : List ℕ) : Type 0 where
  pub exchanges : AreExchanges Ran a.own xs b.own
  pub bytes : Loses a.left b.left (requests xs ++ held)
  pub turns : Loses a.moments b.moments (ticks xs)

-- and all their replies were sent
pub record HasReplied {O : Type 0} (Ran : O → Frame → Told → O → Type 0) (a b : Sides O) (xs : List Exchange) (held : List ℕ) : Type 0 where
  pub served : HasExchanged Ran a b xs held
  pub sent : Appends a.got b.got (replies xs)

-- ---- how it ends

-- the last one closes the connection
pub record ClosesLast (xs : List Exchange) (x : Exchange) : Type 0 where
  pub front : List Exchange
  pub parts : xs ≡ front ++ x ∷ []
  pub stay : StayOpen front
  pub closes : x.reply.close ≡ true

-- the bytes that were read begin with a request that asks something
abbrev pub AsksNext : List ℕ → Type 0
AsksNext held = (request : List ℕ) × (rest : List ℕ) × (held ≡ request ++ rest) × ((asked : Asked) × Reads request (Asks asked))

-- what is to be sent last, and all replies before it, none of which closes the connection: the reply to the last exchange, or the refusal of
-- what follows
abbrev pub IsSentLast : List Exchange → List ℕ → List ℕ → List ℕ → Type 0
IsSentLast xs held before last = ((front : List Exchange) × (x : Exchange) × (xs ≡ front ++ x ∷ []) × StayOpen front × (before ≡ replies front) × (last ≡ reply_bytes (said (length front) x.reply)))
    ⊎ ((fault : WireFault) × IsCut held (Ends fault) × StayOpen xs × (length xs < 1000) × (before ≡ replies xs) × (last ≡ reply_bytes (refusal fault true)))
