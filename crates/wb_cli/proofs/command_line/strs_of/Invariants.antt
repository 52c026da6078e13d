use Rattle.std.proofs.Common.{◌≡◌, map, take}
use Rattle.wb_cli.proofs.command_line.strs_of.Given as goal

abbrev pub invariant-loop-word : goal.invariant-loop-word
invariant-loop-word l = map (λ word. word.now) l.strs.items ≡ take l.word-index l.words
