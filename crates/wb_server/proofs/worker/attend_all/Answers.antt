use Rattle.wb_server.proofs.worker.attend_all.Goals as goal

pub returns-clause-served : goal.returns-clause-served
returns-clause-served g c = λ i d inside.
    let at = (c.for_each_mut.ensures i d inside).1 in
    rw at.argument_is at (rw at.left at at.call.1.1.0)
