-- The objects in memory: what they hold, and the calls of theirs that fail.
use Rattle.std.specs.Prelude.{ℕ, ◌-◌, ◌==◌, ◌||◌, nat_lt, min, Bool, if◌then◌else◌, List, [], ◌++◌, length, take, drop, slice_get, unwrap_or}
use Rattle.std.specs.List.{list_any}
use Rattle.wb_base.specs.Outside.{one_more}
use Rattle.wb_base.specs.declared.rows.Row.{Row}

-- the calls that are to fail, counted from 1, how many were made, and how many failed
pub record CallLog : Type 0 where
  pub fail : List ℕ
  pub made : ℕ
  pub faults : ℕ

-- the next call is one that is to fail
abbrev pub fails_next : CallLog → Bool
fails_next log = list_any (λ call. call == one_more log.made) log.fail

-- one more call, and one more fault where it failed
abbrev pub after_call : Bool → CallLog → CallLog
after_call failed log = record log { made = one_more log.made; faults = (if failed then one_more log.faults else log.faults) }

-- ---- a source

pub record SourceState : Type 0 where
  pub left : List ℕ
  pub pieces : List ℕ
  pub log : CallLog

-- how many bytes the next read gives: the next piece, or fewer where the room or what is left is smaller
abbrev pub read_size : SourceState → ℕ → ℕ
read_size s room = min (unwrap_or (slice_get s.pieces 0) room) (min room (length s.left))

-- after a read of n bytes
abbrev pub after_read : SourceState → ℕ → SourceState
after_read s n = record { left = drop n s.left; pieces = drop 1 s.pieces; log = after_call (fails_next s.log) s.log }

-- ---- a sink

pub record SinkState : Type 0 where
  pub held : List ℕ
  pub room : ℕ
  pub log : CallLog

-- a write fails: it is to fail, or it does not fit what is left of the room
abbrev pub write_fails : SinkState → List ℕ → Bool
write_fails s bytes = fails_next s.log || nat_lt s.room (length bytes)

-- what a write takes: nothing where it is to fail, else what fits
abbrev pub taken : SinkState → List ℕ → List ℕ
taken s bytes = if fails_next s.log then [] else take s.room bytes

-- after a write
abbrev pub after_write : SinkState → List ℕ → SinkState
after_write s bytes = record { held = s.held ++ taken s bytes; room = s.room - length (taken s bytes); log = after_call (write_fails s bytes) s.log }

-- ---- a keeper

pub record KeeperState : Type 0 where
  pub rows : List Row
  pub log : CallLog

-- after a call that leaves these rows
abbrev pub after_keeping : KeeperState → List Row → KeeperState
after_keeping k rows = record { rows = rows; log = after_call (fails_next k.log) k.log }
