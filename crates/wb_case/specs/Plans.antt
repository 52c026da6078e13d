-- What a plan is.
use Rattle.std.specs.Prelude.{◌≡◌, ◌≤◌, ℕ, List, length, Some, None, Result, Ok, Err, IfSome}
use Rattle.wb_base.specs.Calendars.{Calendar}
use Rattle.wb_base.specs.Days.{IsEarlyDay}
use Rattle.wb_model.specs.Trails.{received, acknowledged}
use Rattle.wb_model.specs.declared.act.Act.{Act}
use Rattle.wb_model.specs.declared.act.Act.TheVariants as acts
use Rattle.wb_model.specs.declared.act.CaseFault.{CaseFault}
use Rattle.wb_model.specs.declared.act.CaseFault.TheVariants as faults
use Rattle.wb_model.specs.declared.entry.Actor.{Actor}
use Rattle.wb_model.specs.declared.entry.Entry.{Entry}
use Rattle.wb_model.specs.Acts.{case_fault, act_deed}

-- the tenant's day of an act is one of a moment, as those of the trail are; a retention is from 1 to 3,650 days, and there are at most 32 readers
abbrev pub IsInRange : List Entry → Act → Type 0
IsInRange trail (acts.Acknowledge today) = IsEarlyDay today
IsInRange trail (acts.Postpone today retention) = IsEarlyDay today × (1 ≤ retention) × (retention ≤ 3_650)
IsInRange trail (acts.Transfer context is_open readers) = length readers ≤ 32
IsInRange trail (acts.Extend reason external) = IsEarlyDay (received trail) × IfSome (acknowledged trail) IsEarlyDay
IsInRange trail _ = Unit {0}

-- the entry of an act after a trail, on a calendar, or the first rule that refuses the act
abbrev pub IsPlanned : Calendar → List Entry → ℕ → Actor → Act → Result Entry CaseFault → Type 0
IsPlanned calendar trail at by act (Ok entry) = (case_fault trail act ≡ None) × (entry ≡ record { at = at; by = by; deed = act_deed calendar trail act })
IsPlanned calendar trail at by act (Err fault) = case_fault trail act ≡ Some fault

-- the same, or memory is wanted for an act that nothing refuses
abbrev pub GivesPlan : Calendar → List Entry → ℕ → Actor → Act → Result Entry CaseFault → Type 0
GivesPlan calendar trail at by act (Err faults.Memory) = case_fault trail act ≡ None
GivesPlan calendar trail at by act result = IsPlanned calendar trail at by act result
