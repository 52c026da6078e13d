-- There is room for what is left.
use Rattle.std.proofs.Common.{◌≡◌, ◌+◌, ◌≤◌, [], ◌∷◌, get_or, length, arith, rules, ap, length-append, lit<}
use Rattle.wb_model.specs.declared.route.Route.TheVariants as routes
use Rattle.wb_wire.specs.declared.paths.Allowed.{Allowed}
use Rattle.wb_wire.specs.declared.paths.Verb.TheVariants as verbs
use Rattle.wb_wire.specs.Paths.{name_of}
use Rattle.wb_wire.proofs.MethodLemmas.{one_fits}
use Rattle.wb_wire.proofs.replies.put_more.Goals as goal

abbrev any_method : Allowed
any_method = record { verb = verbs.Get; route = routes.Health }

pub put-requires : goal.put-requires
put-requires c =
    let room = one_fits (length c.loop-allowed.head) c.loop-allowed.allowed-index c.args.methods.now any_method c.loop-allowed-test.true c.loop-allowed.invariant.room in
    let fits : length c.loop-allowed.head + 2 ≤ 256 = omega (arith, room) in
    (lit< tt, fits)

pub put-requires-in-loop-allowed : goal.put-requires-in-loop-allowed
put-requires-in-loop-allowed c =
    let room = one_fits (length c.loop-allowed.head) c.loop-allowed.allowed-index c.args.methods.now any_method c.loop-allowed-test.true c.loop-allowed.invariant.room in
    let text : c.as_bytes.result.now ≡ name_of (get_or c.args.methods.now c.loop-allowed.allowed-index any_method).verb = search rules in
    let fits : length c.put.new.self + length c.as_bytes.result.now ≤ 256 = omega (arith, room, ap length text, ap length c.put.ensures, length-append c.loop-allowed.head (44 ∷ 32 ∷ [])) in
    (lit< tt, fits)
