use Rattle.std.proofs.Common.{◌≡◌, ◌≤◌, ap, ◌∙◌, length, drop, sym, arith}
use Rattle.std.proofs.lemmas.List.{length-take-le}
use Rattle.wb_front.proofs.Inboxes.{moved}
use Rattle.wb_front.proofs.inbox.Inbox.drop_first.Goals as goal

pub returns : goal.returns
returns c =
    let room : c.self.inside.held ≤ length c.self.inside.buffer.items = omega (arith, c.self.inside.buffer.ok, c.self.invariant) in
    let held : length c.args.self.now ≡ c.self.inside.held = ap length (sym c.self.view_is) ∙ length-take-le c.self.inside.held c.self.inside.buffer.items room in
    let le : c.args.size ≤ c.self.inside.held = omega (arith, c.requires, held) in
    moved c.self.inside.buffer.items c.copy_within.new.self.items c.self.inside.held c.args.size le room c.copy_within.ensures.items ∙ ap (drop c.args.size) c.self.view_is
