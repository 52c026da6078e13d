use Rattle.std.proofs.Common.{ap}
use Rattle.wb_list.specs.Room.{Room}
use Rattle.wb_access.proofs.Logins.{last-after}
use Rattle.wb_access.proofs.sessions.SessionTable.open.Goals as goal

pub push-requires-clause-last : goal.push-requires-clause-last
push-requires-clause-last c =
    rw (ap (λ (r : Room _). r.items) c.self.view_is, c.make_way.ensures.items) (last-after c.args.session.principal c.args.session.turn c.args.self.now.items c.requires.later)
