use Rattle.std.proofs.Common.{◌≡◌, drop}
use Rattle.wb_base.specs.AnswerList.{answer_to}
use Rattle.wb_base.specs.FormFields.{fields_of}
use Rattle.wb_base.specs.AnswerFaults.{first_fault}
use Rattle.wb_trigger.proofs.judge.first_fault.Given as goal

abbrev pub invariant-loop-at : goal.invariant-loop-at
invariant-loop-at g l = first_fault (g.X.ItemTest.passes l.looked_at) (answer_to l.answers) l.marked (drop l.at l.marks) (drop l.at (fields_of l.form.steps))
    ≡ first_fault (g.X.ItemTest.passes l.looked_at) (answer_to l.answers) l.marked l.marks (fields_of l.form.steps)
