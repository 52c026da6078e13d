use Rattle.std.proofs.Common.{◌∙◌}
use Rattle.wb_base.specs.FormFields.{fields_of, parts_of}
use Rattle.wb_base.specs.FormParts.{part_at}
use Rattle.wb_trigger.specs.Marks.{any_shown}
use Rattle.wb_trigger.proofs.MarkLemmas.{points-left}
use Rattle.wb_trigger.proofs.visible.is_triggered.Goals as goal

pub loop-at-preserved : goal.loop-at-preserved
loop-at-preserved g c =
    points-left (any_shown (fields_of c.args.steps.now) c.args.marks.now) (g.L.Lookup.look c.args.answers.now) (parts_of c.args.show.now) c.loop-at.at c.loop-at.missing (part_at c.part-part.result) c.part-part.ensures
    c.is_met-is_met.result c.left-missing.result c.is_met-is_met.ensures c.left-missing.ensures
    ∙ c.loop-at.invariant
