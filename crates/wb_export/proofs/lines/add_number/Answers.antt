use Rattle.wb_export.proofs.lines.add_number.Goals as goal

pub returns : goal.returns
returns c = rw (c.as_bytes.ensures.value, c.format.ensures.text) at c.add.ensures
