-- Counts of faults, and what a failed write does to bytes that are told.
use Rattle.std.specs.Prelude.{◌≡◌, ℕ, ◌+◌, ◌-◌, ◌^◌, ◌≤◌, min, List, ◌++◌, Option, Result, Ok, Err, OnOk, OnErr, IsErrOf}
use Rattle.std.specs.Io.KnownBytes.{Appends}
use Rattle.wb_base.specs.declared.faults.KeepErr.{KeepErr}
use Rattle.wb_base.specs.declared.faults.KeepErr.TheVariants.{Failed as KeeperFailed, Memory as KeeperMemory}

-- one more, up to the last value
abbrev pub one_more : ℕ → ℕ
one_more n = min (n + 1) (2 ^ 64 - 1)

-- the count is greater after the call than before, or stands at its last value
abbrev pub Rose : ℕ → ℕ → Type 0
Rose before now = one_more before ≤ now

-- a keeper's count of faults after a failed call: one more, unless memory was wanting
abbrev pub count_with : ℕ → KeepErr → ℕ
count_with count KeeperFailed = one_more count
count_with count KeeperMemory = count

-- a keeper's count of faults after a call
abbrev pub count_after : {T : Type 0} → ℕ → Result T KeepErr → ℕ
count_after count (Ok value) = count
count_after count (Err why) = count_with count why

-- no call failed between two counts
abbrev pub NoFault : ℕ → ℕ → Type 0
NoFault before now = Rose before now → ⊥

-- the count did not fall: it stayed where the call was Ok, and rose where it failed
pub record HasCause {T E : Type 0} (before now : ℕ) (result : Result T E) : Type 0 where
  pub later : before ≤ now
  pub stayed : OnOk result (now ≡ before)
  pub failed : OnErr result (Rose before now)

-- the same of a keeper, whose want of memory is no fault
pub record KeeperHasCause {T : Type 0} (before now : ℕ) (result : Result T KeepErr) : Type 0 where
  pub later : before ≤ now
  pub stayed : OnOk result (now ≡ before)
  pub wanted : IsErrOf result KeeperMemory → now ≡ before
  pub failed : IsErrOf result KeeperFailed → Rose before now

-- told bytes grow by a front part of these
abbrev pub AppendsFront : Option (List ℕ) → Option (List ℕ) → List ℕ → Type 0
AppendsFront old new bytes = (front : List ℕ) × (rest : List ℕ) × (bytes ≡ front ++ rest) × Appends old new front
