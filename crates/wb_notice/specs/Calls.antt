-- Deliveries to one outbox, one after another, some of which are refused.
use Rattle.std.specs.Prelude.{ℕ, Bool, if◌then◌else◌, List, filter, fold}
use Rattle.wb_base.specs.declared.rows.Row.{Row}
use Rattle.wb_notice.specs.Outbox.{box}
use Rattle.wb_notice.specs.Owed.{Unsealed}

-- a call: over these tables, at this moment, and whether it was made or refused
pub record Call : Type 0 where
  pub tables : Unsealed
  pub moment : ℕ
  pub made : Bool

-- what a delivery that is made leaves
abbrev pub delivered : List Row → Call → List Row
delivered rows call = box call.tables call.moment rows

-- one that is refused leaves the outbox as it was
abbrev pub left : List Row → Call → List Row
left rows call = if call.made then delivered rows call else rows

abbrev pub left_after : List Row → List Call → List Row
left_after rows calls = fold left rows calls

-- those that were made
abbrev pub made : List Call → List Call
made calls = filter (λ (c : Call). c.made) calls

-- a call over the same tables at the same moment once more
abbrev pub try : Unsealed → ℕ → Bool → Call
try x now is_made = record { tables = x; moment = now; made = is_made }
