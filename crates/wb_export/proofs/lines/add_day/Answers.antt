use Rattle.wb_export.proofs.lines.add_day.Goals as goal

pub returns : goal.returns
returns c = rw (c.as_slice.ensures, c.date_text.ensures) at c.add.ensures
