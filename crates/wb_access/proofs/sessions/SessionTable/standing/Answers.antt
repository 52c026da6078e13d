use Rattle.std.proofs.Common.{ap, sym, nat_eq}
use Rattle.std.specs.Cmp.{nat_cmp_total, unsigned_ties}
use Rattle.wb_list.specs.Room.{Room}
use Rattle.wb_access.specs.Sessions.{is_shown}
use Rattle.wb_access.specs.declared.sessions.Session.{Session}
use Rattle.wb_access.proofs.OneOfKey.{found-one, refused-one, absent-one}
use Rattle.wb_access.proofs.sessions.SessionTable.standing.Goals as goal

pub returns-then-is_shown : goal.returns-then-is_shown
returns-then-is_shown c =
    rw (← ap (λ (r : Room _). r.items) c.self.view_is) (found-one nat_cmp_total (λ (s : Session). s.turn) nat_eq unsigned_ties (is_shown c.args.tenant c.args.digest.now c.args.now) c.args.turn c.in-Some.session.now c.self.inside.sessions.items c.find.ensures.ascending c.in-Some.ensures.item (sym c.if-is_shown.ensures))

pub returns-else-is_shown : goal.returns-else-is_shown
returns-else-is_shown c =
    rw (← ap (λ (r : Room _). r.items) c.self.view_is) (refused-one nat_cmp_total (λ (s : Session). s.turn) nat_eq unsigned_ties (is_shown c.args.tenant c.args.digest.now c.args.now) c.args.turn c.in-Some.session.now c.self.inside.sessions.items c.find.ensures.ascending c.in-Some.ensures.item (sym c.if-is_shown.ensures))

pub returns-in-None : goal.returns-in-None
returns-in-None c =
    rw (← ap (λ (r : Room _). r.items) c.self.view_is) (absent-one nat_cmp_total (λ (s : Session). s.turn) nat_eq unsigned_ties (is_shown c.args.tenant c.args.digest.now c.args.now) c.args.turn c.self.inside.sessions.items c.find.ensures.ascending c.in-None.ensures.item)
