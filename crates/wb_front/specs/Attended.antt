-- Links that a listener gave, attended one after another.
use Rattle.std.specs.Prelude.{◌≡◌, ◌≢◌, ◌⊎◌, ◌+◌, ◌-◌, ◌^◌, ◌≤◌, ℕ, List, [], ◌∷◌, ◌++◌, Option, Some}
use Rattle.wb_base.specs.Outside.{Rose}
use Rattle.wb_model.specs.declared.body.Told.{Told}
use Rattle.wb_model.specs.Requests.{Frame}
use Rattle.wb_transport.specs.Lines.{Clock, Line, Lines, ListenerEnd, Tick}
use Rattle.wb_front.specs.Endings.{IsEnded}
use Rattle.wb_front.specs.Served.{Sides}
use Rattle.wb_front.specs.declared.connection.Ended.{Ended}
use Rattle.wb_front.specs.declared.connection.Ended.TheVariants as endings

-- a link that tells, with these ticks to come and this of the gate
abbrev pub sides_of : {O : Type 0} → Line → Option (List Tick) → O → Sides O
sides_of line moments own = record { left = Some line.left; got = Some line.got; moments = moments; own = own }

-- a connection over it ended so: by a fault of the link, or of the ticker, where and only where that failed
pub record IsAttended {O : Type 0} (Ran : O → Frame → Told → O → Type 0) (a b : Line) (own own' : O) (clock clock' : Clock) : Type 0 where
  pub how : Ended
  pub ended : IsEnded Ran (sides_of a clock.left own) (sides_of b clock'.left own') how
  pub read_failed : how ≡ endings.ReadFault → Rose a.count b.count
  pub write_failed : how ≡ endings.WriteFault → Rose a.count b.count
  pub clock_failed : how ≡ endings.ClockFault → Rose clock.count clock'.count
  pub link_stayed : how ≢ endings.ReadFault → how ≢ endings.WriteFault → b.count ≡ a.count
  pub clock_stayed : how ≢ endings.ClockFault → clock'.count ≡ clock.count

-- each in turn, each from what the one before it left of the gate and the ticks
abbrev pub AreAttended : {O : Type 0} → (O → Frame → Told → O → Type 0) → List Line → List Line → O → O → Clock → Clock → Type 0
AreAttended {O} Ran [] [] own own' clock clock' = (own' ≡ own) × (clock' ≡ clock)
AreAttended {O} Ran [] (b ∷ bs) own own' clock clock' = ⊥
AreAttended {O} Ran (a ∷ lines) [] own own' clock clock' = ⊥
AreAttended {O} Ran (a ∷ lines) (b ∷ bs) own own' clock clock' = (o : O) × (c : Clock) × IsAttended Ran a b own o clock c × AreAttended Ran lines bs o own' c clock'

-- the links that came back are those that were given, in order, each attended
pub record HasWorked {O : Type 0} (Ran : O → Frame → Told → O → Type 0) (x y : Lines) (own own' : O) (clock clock' : Clock) : Type 0 where
  pub gave : List Line
  pub came : List Line
  pub left_is : x.left ≡ gave ++ y.left
  pub came_is : y.came ≡ x.came ++ came
  pub out_is : y.out ≡ x.out
  pub attended : AreAttended Ran gave came own own' clock clock'

-- a count rose by so many, or stands at its last value
abbrev pub RoseOften : ℕ → ℕ → ℕ → Type 0
RoseOften times before now = (before + times ≤ now) ⊎ (2 ^ 64 - 1 ≤ now)

-- ---- by what the ends tell

-- each link that the listener gave came back to it, attended
abbrev pub AttendsLinks : {O : Type 0} → (O → Frame → Told → O → Type 0) → ListenerEnd → ListenerEnd → O → O → Clock → Clock → Type 0
AttendsLinks Ran listener listener' own own' clock clock' = (x : Lines) → listener.told ≡ Some x → (y : Lines) × (listener'.told ≡ Some y) × HasWorked Ran x y own own' clock clock'

-- a listener that tells has no link left
abbrev pub HasNone : ListenerEnd → Type 0
HasNone listener = (x : Lines) → listener.told ≡ Some x → x.left ≡ []
