-- The time limits of a connection.
use Rattle.std.specs.Prelude.{ℕ, ◌*◌, ◌-◌}
use Rattle.std.specs.Time.{instant_nanos}
use Rattle.std.specs.declared.time.Instant.{Instant}
use Rattle.wb_system.specs.declared.stages.Stage.{Stage}
use Rattle.wb_system.specs.declared.stages.Stage.TheVariants.{New, Request, Reply}

-- how many nanoseconds are left of a limit of so many seconds that began at a moment
abbrev pub left_nanos : ℕ → Instant → Instant → ℕ
left_nanos seconds since now = seconds * 1_000_000_000 - (instant_nanos now - instant_nanos since)

-- how many nanoseconds a read may wait: for the first byte of a request, or for the rest of one
abbrev pub read_nanos : Stage → Instant → ℕ
read_nanos New now = 5 * 1_000_000_000
read_nanos (Request since) now = left_nanos 20 since now
read_nanos (Reply since) now = 5 * 1_000_000_000

-- when the request began of which bytes come now
abbrev pub request_start : Stage → Instant → Instant
request_start New now = now
request_start (Request since) now = since
request_start (Reply since) now = now

-- when the reply began of which bytes go now
abbrev pub reply_start : Stage → Instant → Instant
reply_start New now = now
reply_start (Request since) now = now
reply_start (Reply since) now = since
