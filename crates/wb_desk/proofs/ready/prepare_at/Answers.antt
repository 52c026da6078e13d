use Rattle.wb_desk.proofs.ready.prepare_at.Goals as goal

pub batch_at-requires-clause-room : goal.batch_at-requires-clause-room
batch_at-requires-clause-room c = (c.ready_at.new.sealed.spare, c.in_ok-plan.ensures.room)
