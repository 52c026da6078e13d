use Rattle.wb_export.proofs.lines.add.Goals as goal

pub returns : goal.returns
returns c before h = let e = c.in_ok-push_field.ensures in record { all = rw (h.all, h.ended) at e.fields; ended = e.partial }
