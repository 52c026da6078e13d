-- Links, listeners and tickers in memory: what they have, and the calls of theirs that fail.
use Rattle.std.specs.Prelude.{ℕ, ◌-◌, ◌||◌, ◌==◌, nat_lt, Bool, if◌then◌else◌, List, [], ◌++◌, length, take, drop, min, map, slice_get, unwrap_or, Some}
use Rattle.wb_base.specs.MemoryEnds.{CallLog, fails_next, after_call}
use Rattle.wb_transport.specs.Lines.{Line, Lines, LinkEnd, ListenerEnd, Tick}

-- ---- a link

pub record LinkState : Type 0 where
  pub left : List ℕ
  pub pieces : List ℕ
  pub got : List ℕ
  pub room : ℕ
  pub log : CallLog

abbrev pub line_of : LinkState → Line
line_of k = record { left = k.left; got = k.got; count = k.log.faults }

abbrev pub link_end : LinkState → LinkEnd
link_end k = record { left = Some k.left; got = Some k.got; count = k.log.faults }

-- how many bytes the next read gives: the next piece, or fewer where the room or what is left is smaller
abbrev pub read_size : LinkState → ℕ → ℕ
read_size k room = min (unwrap_or (slice_get k.pieces 0) room) (min room (length k.left))

-- after a read of n bytes
abbrev pub after_read : LinkState → ℕ → LinkState
after_read k n = record k { left = drop n k.left; pieces = drop 1 k.pieces; log = after_call (fails_next k.log) k.log }

-- a write fails: it is to fail, or it does not fit what is left of the room
abbrev pub write_fails : LinkState → List ℕ → Bool
write_fails k bytes = fails_next k.log || nat_lt k.room (length bytes)

-- what a write takes: nothing where it is to fail, else what fits
abbrev pub taken : LinkState → List ℕ → List ℕ
taken k bytes = if fails_next k.log then [] else take k.room bytes

-- after a write
abbrev pub after_write : LinkState → List ℕ → LinkState
after_write k bytes = record k { got = k.got ++ taken k bytes; room = k.room - length (taken k bytes); log = after_call (write_fails k bytes) k.log }

-- ---- a listener

pub record ListenerState : Type 0 where
  pub left : List LinkState
  pub out : ℕ
  pub came : List LinkState
  pub log : CallLog

abbrev pub lines_of : ListenerState → Lines
lines_of s = record { left = map line_of s.left; out = s.out; came = map line_of s.came }

abbrev pub listener_end : ListenerState → ListenerEnd
listener_end s = record { told = Some (lines_of s); count = s.log.faults }

-- ---- a ticker

pub record TickerState : Type 0 where
  pub left : List Tick
  pub log : CallLog

-- a tick fails: it is to fail, or none is left
abbrev pub tick_fails : TickerState → Bool
tick_fails t = fails_next t.log || (length t.left == 0)
