use Rattle.std.proofs.Common.{◌≡◌, ◌<◌, refl, ap, arith}
use Rattle.wb_transport.specs.MemoryLinks.{ListenerState, lines_of}
use Rattle.wb_transport.proofs.memory_listener.MemListenerListener.back.Goals as goal

pub overflow_sub-self : goal.overflow_sub-self
overflow_sub-self c =
    let out : 0 < c.args.self.now.out = c.requires (lines_of c.args.self.now) refl in
    let same : c.self.inside.out ≡ c.args.self.now.out = ap (λ (s : ListenerState). s.out) c.self.view_is in
    omega (arith, out, same)

pub push_reserved-requires : goal.push_reserved-requires
push_reserved-requires c =
    let out : 0 < c.args.self.now.out = c.requires (lines_of c.args.self.now) refl in
    let same : c.self.inside.out ≡ c.args.self.now.out = ap (λ (s : ListenerState). s.out) c.self.view_is in
    omega (arith, out, same, c.self.invariant)

pub invariant_of-self : goal.invariant_of-self
invariant_of-self c =
    let out : 0 < c.args.self.now.out = c.requires (lines_of c.args.self.now) refl in
    let same : c.self.inside.out ≡ c.args.self.now.out = ap (λ (s : ListenerState). s.out) c.self.view_is in
    omega (arith, out, same, c.self.invariant, c.push_reserved.ensures.len, c.push_reserved.ensures.capacity)
