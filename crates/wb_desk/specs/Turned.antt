-- One turn of a host in which a pass takes part.
use Rattle.std.specs.Prelude.{◌≡◌, ◌≢◌, ℕ, ◌+◌, ◌≤◌, ◌<◌, false, if◌then◌else◌}
use Rattle.wb_model.specs.declared.body.Told.{Told}
use Rattle.wb_model.specs.Absence.{all_gapped}
use Rattle.wb_model.specs.Drawn.{is_accepted}
use Rattle.wb_model.specs.Past.{Past}
use Rattle.wb_model.specs.Pasts.{AllOpened, with_turn}
use Rattle.wb_model.specs.Refusals.{turns_spent, is_turns_spent, no_memory, keeper_failed}
use Rattle.wb_model.specs.Requests.{Frame}
use Rattle.wb_model.specs.Scripts.{Loss}
use Rattle.wb_model.specs.Tenants.{Hosts, AllHostsAlike, OneLaterAlike, FirstAlike, is_report_reader, hosts_reply, hosts_after}
use Rattle.wb_tables.specs.Standing.{Standing, hosts_of}
use Rattle.wb_desk.specs.Desks.{HasPast}
use Rattle.wb_desk.specs.Kept.{Took}
use Rattle.wb_desk.specs.Turns.{IsGone, StandsFor}
use Rattle.wb_desk.specs.GoneOn.{IsLater}
use Rattle.wb_desk.specs.Hosted.{Hosted, Hand}
use Rattle.wb_base.specs.Ends.{KeeperEnd}

-- ---- what is said of the desk

-- a keeper that tells nothing but how often it failed
abbrev pub untold : ℕ → KeeperEnd
untold count = record { honest = ⊥; holds = λ rows. Unit {0}; count = count }

-- what a turn of a desk that stands for a past came to, with the keeper's count before and now; that it keeps its rows is said of the host
abbrev pub CameTo : ℕ → ℕ → Past AllOpened → Frame → Loss → Told → Hosts → Type 0
CameTo before now past f loss told after = Took (untold before) (untold now) past f loss told after

-- for each past that the hosts stand for there is a loss that may stand there, with which the reply, the hosts after it and the keeper's rows are the past's
abbrev pub TookTurn : KeeperEnd → KeeperEnd → Hosts → Frame → Told → Hosts → Type 0
TookTurn keeper keeper' h f told h' = (past : Past AllOpened) → StandsFor h past → (loss : Loss) × Took keeper keeper' past f loss told h'

-- the turn was made, and not lost
abbrev pub IsMade : Told → Type 0
IsMade told = (told ≢ no_memory) × (told ≢ keeper_failed)

-- this holds where a turn was left to make after so many, and it was made
abbrev pub WhereMade : ℕ → Told → Type 0 → Type 0
WhereMade turns told claim = turns < 1_000_000_000_000_000 → IsMade told → claim

-- but to its readers the reply is the same whatever identity answers report r of tenant t has
abbrev pub HidesInReply : ℕ → ℕ → Hosts → Frame → Told → Type 0
HidesInReply t r h f told = (k : Hosts) (b : Frame) → AllHostsAlike t r h k → OneLaterAlike t r h f b → is_report_reader t r h f ≡ false → told ≡ hosts_reply k b

-- and so are the tables after it, but for them
abbrev pub HidesInHosts : ℕ → ℕ → Hosts → Frame → Hosts → Type 0
HidesInHosts t r h f h' = (k : Hosts) (b : Frame) → AllHostsAlike t r h k → OneLaterAlike t r h f b → AllHostsAlike t r h' (hosts_after k b)

-- and where the turn is the submission that makes the report, so are both for two that differ in its identity answers alone
abbrev pub HidesInSubmission : ℕ → ℕ → Hosts → Frame → Told → Hosts → Type 0
HidesInSubmission t r h f told h' = (b : Frame) → FirstAlike t r h f b → f.asked.close ≡ b.asked.close → (is_report_reader t r h f ≡ false → told ≡ hosts_reply h b) × AllHostsAlike t r h' (hosts_after h b)

pub record IsSealed (t r : ℕ) (h : Hosts) (f : Frame) (told : Told) (h' : Hosts) : Type 0 where
  pub reply : HidesInReply t r h f told
  pub hosts : HidesInHosts t r h f h'
  pub first : HidesInSubmission t r h f told h'

-- where report r of tenant t is not live after it, the desk stands for the past in which its submission only drew a number
abbrev pub IsAbsent : ℕ → ℕ → Hosts → Frame → Hosts → Type 0
IsAbsent t r h f h' = (past : Past AllOpened) → StandsFor h past → IsGone t r (with_turn past f) → StandsFor h' (all_gapped t r (with_turn past f))

-- one step of a desk that has a turn to make
pub record IsStepOfDesk (before now : ℕ) (h : Hosts) (f : Frame) (told : Told) (h' : Hosts) : Type 0 where
  -- for each past that it stands for there is a loss that may stand there, with which the reply and the desk after it are the past's
  pub turn : (past : Past AllOpened) → StandsFor h past → (loss : Loss) × CameTo before now past f loss told h'
  pub sealed : IsMade told → (t r : ℕ) → IsSealed t r h f told h'
  pub absent : IsMade told → (t r : ℕ) → IsAbsent t r h f h'

-- the step after a desk's last turn
pub record IsLeftSpent (before now : ℕ) (d : Standing) (told : Told) (d' : Standing) : Type 0 where
  pub said : told ≡ turns_spent
  pub left : d' ≡ d
  pub counted : now ≡ before

-- ---- what is said of the books

-- one more turn, but where the answer is that none was left
abbrev pub turns_with : Told → ℕ → ℕ
turns_with told n = if is_turns_spent told then n else n + 1

-- one more number, where the turn was an accepted submission
abbrev pub numbers_with : Frame → Told → ℕ → ℕ
numbers_with f told n = if is_accepted f.asked.command told then n + 1 else n

abbrev pub raised : Frame → Told → Hand → Hand
raised f told p = record { parts = p.parts; turns = turns_with told p.turns; numbers = numbers_with f told p.numbers }

-- a turn of a frame: the host and the pass before it, those after it, and the answer
pub record Turned (f : Frame) (h : Hosted) (p : Hand) (h' : Hosted) (p' : Hand) (told : Told) : Type 0 where
  -- the host stands for a past that verdicts made
  pub stands : HasPast (hosts_of h.desk)
  -- and is the one that was opened, gone on by the turns of its book
  pub gone_on : IsLater h.opened h.turns h.desk
  pub made : h.desk.turns < 1_000_000_000_000_000 → IsStepOfDesk h.faults h'.faults (hosts_of h.desk) f told (hosts_of h'.desk)
  pub spent : 1_000_000_000_000_000 ≤ h.desk.turns → IsLeftSpent h.faults h'.faults h.desk told h'.desk
  pub later : h.faults ≤ h'.faults
  pub opened : h'.opened ≡ h.opened
  pub turns : h'.turns ≡ turns_with told h.turns
  pub numbers : h'.numbers ≡ numbers_with f told h.numbers
  pub pass : p' ≡ raised f told p
  -- a book is never below a share of it
  pub turns_within : p.turns ≤ h.turns
  pub numbers_within : p.numbers ≤ h.numbers
