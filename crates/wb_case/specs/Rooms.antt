-- The room of a case.
use Rattle.std.specs.Prelude.{ℕ, ◌/◌, min}
use Rattle.wb_case.specs.declared.summary.Summary.{Summary}

-- for how many entries there is room: an entry is one of the trail, at most one of the dialogue and at most 32 readers
abbrev pub room_of : ℕ → Summary → ℕ
room_of entries s = min entries (min s.dialogue.spare (s.readers.spare / 32))
