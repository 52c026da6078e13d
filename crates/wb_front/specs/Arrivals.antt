-- The bytes of a connection as they come.
use Rattle.std.specs.Prelude.{◌≡◌, ◌≤◌, ◌<◌, ◌⊎◌, ℕ, List, ◌++◌, length, take, drop, Option, Some}
use Rattle.std.specs.Io.KnownBytes.{IsAtEnd}
use Rattle.wb_model.specs.Cuts.{Nothing, Cuts, Part, Ends, IsCut}
use Rattle.wb_front.specs.declared.inbox.Arrived.{Arrived}
use Rattle.wb_front.specs.declared.inbox.Arrived.TheVariants as arrived
use Rattle.wb_front.specs.declared.inbox.Seen.{Seen}
use Rattle.wb_front.specs.declared.inbox.Seen.TheVariants as seen

-- the bytes that are held and then those that the link has left, where it tells them, are together those of before
abbrev pub Flows : List ℕ → Option (List ℕ) → List ℕ → Option (List ℕ) → Type 0
Flows held left held' left' = (xs : List ℕ) → left ≡ Some xs → (ys : List ℕ) × (left' ≡ Some ys) × (held ++ xs ≡ held' ++ ys)

-- the bytes that are held have no whole request yet, and nothing against one
abbrev pub IsUnfinished : List ℕ → Type 0
IsUnfinished held = IsCut held Nothing ⊎ IsCut held Part

-- what arrived is what the held bytes begin with: a request of so many bytes, what ends the connection, or the end of all bytes
abbrev pub HasArrived : List ℕ → Option (List ℕ) → Arrived → Type 0
HasArrived held left (arrived.Request size) = (size ≤ length held) × IsCut held (Cuts (take size held) (drop size held))
HasArrived held left arrived.End = IsCut held Nothing × IsAtEnd left
HasArrived held left arrived.Part = IsCut held Part × IsAtEnd left
HasArrived held left (arrived.No fault) = IsCut held (Ends fault)

-- how held bytes begin: with a whole request of so many bytes, with what may become one, for which there is room, or with what ends the connection
abbrev pub IsSeen : List ℕ → Seen → Type 0
IsSeen held (seen.Request size) = (size ≤ length held) × IsCut held (Cuts (take size held) (drop size held))
IsSeen held seen.More = IsUnfinished held × (length held < 270_336)
IsSeen held (seen.No fault) = IsCut held (Ends fault)
