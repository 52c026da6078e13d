use Rattle.std.proofs.Common.{◌∙◌}
use Rattle.wb_json.proofs.EntryLemmas.{absent, insert_last}
use Rattle.wb_json.proofs.answers.push_entry.Goals as goal

pub insert-requires : goal.insert-requires
insert-requires c = rw c.in_ok-from_str-in-Some.ensures (absent c.args.answers.now c.args.key.now c.requires)

pub returns-in_ok-insert-in-Some : goal.returns-in_ok-insert-in-Some
returns-in_ok-insert-in-Some c =
    rw c.in-Some.is (c.in_ok-insert-in-Some.ensures.ok ∙ rw c.in_ok-from_str-in-Some.ensures (insert_last c.args.answers.now c.args.key.now c.in-Some.given c.requires))
