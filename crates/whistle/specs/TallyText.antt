-- The lines that a tally writes.
use Rattle.std.specs.Prelude.{ℕ, List, ◌++◌, codes, decimal}
use Rattle.std.specs.List.{flat_map}
use Rattle.wb_model.specs.Counts.{Counts}
use Rattle.wb_tables.specs.declared.counts.Counts.{Counts as DeskCounts}
use Rattle.whistle.specs.declared.counting.StatusCount.{StatusCount}

abbrev pub turns_line : ℕ → List ℕ
turns_line turns = codes "turns " ++ decimal turns ++ codes "\n"

-- a status, and how many replies have it
abbrev pub status_line : StatusCount → List ℕ
status_line row = decimal row.status ++ codes " " ++ decimal row.count ++ codes "\n"

-- the reports that the host holds, the numbers that it drew, and its standing sessions
abbrev pub held_lines : Counts → List ℕ
held_lines c = codes "live " ++ decimal c.live ++ codes "\nnumbers " ++ decimal c.numbers ++ codes "\nsessions " ++ decimal c.sessions ++ codes "\n"

abbrev pub tally_text : ℕ → List StatusCount → Counts → List ℕ
tally_text turns rows counts = turns_line turns ++ flat_map status_line rows ++ held_lines counts

-- what a desk counts, as the definitions have it
abbrev pub counted : DeskCounts → Counts
counted c = record { turns = c.turns; live = c.live; numbers = c.numbers; sessions = c.sessions }
