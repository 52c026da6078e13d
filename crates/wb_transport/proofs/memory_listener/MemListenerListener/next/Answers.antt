use Rattle.std.proofs.Common.{◌≡◌, ◌+◌, ◌∷◌, List, Some, map, refl, sym, ap, ◌∙◌}
use Rattle.std.specs.Vec.Iter.{into_iter_items}
use Rattle.wb_transport.specs.Lines.{Line, Lines}
use Rattle.wb_transport.specs.MemoryLinks.{ListenerState, line_of, lines_of}
use Rattle.wb_transport.proofs.memory_listener.MemListenerListener.next.Goals as goal

pub returns-in-Some-clause-given : goal.returns-in-Some-clause-given
returns-in-Some-clause-given c = λ x is.
    let rest : List Line = map line_of (into_iter_items c.next.new.self) in
    let x_is : lines_of c.args.self.now ≡ x = cc in
    let left : c.args.self.now.left ≡ c.in-Some.link ∷ into_iter_items c.next.new.self = ap (λ (s : ListenerState). s.left) (sym c.self.view_is) ∙ c.in-Some.ensures.items in (
      line_of c.in-Some.link,
      rest,
      ap (λ (y : Lines). y.left) (sym x_is) ∙ ap (map line_of) left,
      record { has_left = refl; has_got = refl; counts = refl },
      ap (λ (s : ListenerState). Some (record { left = rest; out = s.out + 1; came = map line_of s.came })) c.self.view_is ∙ ap (λ (y : Lines). Some (record { left = rest; out = y.out + 1; came = y.came })) x_is,
    )
