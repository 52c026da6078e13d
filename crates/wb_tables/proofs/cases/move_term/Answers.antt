use Rattle.std.proofs.Common.{◌≡◌, false, arith}
use Rattle.std.specs.Ordering.{int_eq}
use Rattle.std.specs.Cmp.{signed_Decides}
use Rattle.wb_tables.proofs.NotedReports.{free_left, moved_terms, unmoved_terms}
use Rattle.wb_tables.proofs.cases.move_term.Goals as goal

pub add-requires-clause-free : goal.add-requires-clause-free
add-requires-clause-free c =
    let other : int_eq c.args.term.day c.args.day ≡ false = grind (arith, c.if-ne.true, c.ne.ensures) in
    free_left c.args.term (record c.args.term { day = c.args.day }) c.args.terms.now.items c.remove.new.self.items c.remove.ensures.items (c.requires.free other)

pub returns-then-ne : goal.returns-then-ne
returns-then-ne c = moved_terms c.args.term (record c.args.term { day = c.args.day }) c.args.terms.now.items c.remove.new.self.items c.add.new.self.items c.remove.ensures.items c.add.ensures.found

pub returns-else-ne : goal.returns-else-ne
returns-else-ne c =
    let same : c.args.term.day ≡ c.args.day = (signed_Decides c.args.term.day c.args.day).0 (grind (arith, c.if-ne.false, c.ne.ensures)) in
    unmoved_terms c.args.term (record c.args.term { day = c.args.day }) c.args.terms.now.items (λ i. record c.args.term { day = same i }) c.requires.there
