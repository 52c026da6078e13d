use Rattle.wb_sqlite.proofs.statements.make_change.Goals as goal

pub returns-in-DropReport-clause-made : goal.returns-in-DropReport-clause-made
returns-in-DropReport-clause-made g c clean inside =
    rw c.in-DropReport.is (rw (c.id.ensures.value, c.get.ensures.value) at (c.drop_report.ensures.made clean inside))
