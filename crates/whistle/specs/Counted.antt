-- How often each status is among replies.
use Rattle.std.specs.Prelude.{ℕ, zero, suc, ◌≡◌, ◌==◌, Bool, List, Option, Some, None, length, filter, find}
use Rattle.std.specs.Ordering.{nat_cmp}
use Rattle.wb_list.specs.Keyed.{IsAscending, has_key}
use Rattle.wb_model.specs.Scripts.{Reply}
use Rattle.whistle.specs.declared.counting.StatusCount.{StatusCount}

abbrev pub has_status : ℕ → Reply → Bool
has_status status reply = reply.told.status == status

-- how many of the replies have this status
abbrev pub times : ℕ → List Reply → ℕ
times status replies = length (filter (has_status status) replies)

-- the row of a status that so many replies have; there is none where no reply has it
abbrev pub row_of : ℕ → ℕ → Option StatusCount
row_of status zero = None
row_of status (suc n) = Some (record { status = status; count = suc n })

-- the rows tell of each status how many of the replies have it
abbrev pub IsCounted : List Reply → List StatusCount → Type 0
IsCounted replies rows = (status : ℕ) → find (has_key nat_cmp (λ (row : StatusCount). row.status) status) rows ≡ row_of status (times status replies)

-- and their statuses ascend
pub record AreCountsOf (replies : List Reply) (rows : List StatusCount) : Type 0 where
  pub ascending : IsAscending nat_cmp (λ (row : StatusCount). row.status) rows
  pub counted : IsCounted replies rows
