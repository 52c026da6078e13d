use Rattle.std.proofs.Common.{◌≡◌, ◌≤◌, ◌+◌, ◌-◌, ◌++◌, ℕ, List, length, take, drop, sym, ap, ◌∙◌, arith}
use Rattle.std.proofs.lemmas.List.{length-drop, length-take-le}
use Rattle.wb_front.proofs.Inboxes.{filled, filled_length, written_back, consumed}
use Rattle.wb_front.proofs.inbox.Inbox.fill.Goals as goal
use borrow.Rule.Slice.PartMut.{post_of}

pub returns-clause-flows : goal.returns-clause-flows
returns-clause-flows g c = λ xs is.
    let old : List ℕ = c.deref_mut.result.now in
    let held : ℕ = c.self.inside.held in
    let post : List ℕ = post_of held (length old - held) old in
    let took = consumed (g.L.Link.end c.args.link.now).left (g.L.Link.end c.read.new.self).left (take c.in-Ok.size c.read.new.into) xs is c.in-Ok.ensures.bytes.0 in
    let long : length old ≡ c.self.inside.buffer.len = ap length c.deref_mut.ensures.value ∙ sym c.self.inside.buffer.ok.0 in
    let fits : held ≤ c.self.inside.buffer.len = omega (arith, c.self.invariant) in
    let more : length c.read.new.into ≡ c.self.inside.buffer.len - held =
    omega (arith, c.read.auto.into, length-take-le (length old - held) (drop held old) (omega (arith, length-drop held old)), long) in
    let none : length post ≡ 0 = omega (arith, length-drop (length old - held) (drop held old), length-drop held old) in
    let seen : c.args.self.now ≡ take held old = sym c.self.view_is ∙ ap (take held) (sym c.deref_mut.ensures.value) in
    let whole : take c.self.inside.buffer.len ((take held old ++ (c.read.new.into ++ post)) ++ drop (length (take held old ++ (c.read.new.into ++ post))) c.self.inside.buffer.items) ≡ take held old ++ (c.read.new.into ++ post) =
    written_back (take held old ++ (c.read.new.into ++ post)) (drop (length (take held old ++ (c.read.new.into ++ post))) c.self.inside.buffer.items) c.self.inside.buffer.len (filled_length old c.read.new.into post held c.self.inside.buffer.len long fits more none) in
    (took.0, took.1, ap (λ bs. bs ++ xs) seen ∙ (filled old c.read.new.into post xs took.0 held c.in-Ok.size (omega (arith, long, fits)) c.in-Ok.ensures.bound.0 took.2 ∙ ap (λ bs. take (held + c.in-Ok.size) bs ++ took.0) (sym whole)))
