use Rattle.wb_server.proofs.serving.asked_lock.Goals as goal

pub returns-in-Ok-Serve-clause-ok : goal.returns-in-Ok-Serve-clause-ok
returns-in-Ok-Serve-clause-ok c = (_, _, _, _, rw c.in-Ok-Serve.field-0-is at c.in-Ok-Serve.ensures.ok)
