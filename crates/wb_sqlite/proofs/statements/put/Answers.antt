use Rattle.std.proofs.Common.{rules, ◌≡◌, true, false, nat_eq}
use Rattle.wb_sqlite.proofs.statements.put.Goals as goal

pub returns-then-is_sealed-clause-made : goal.returns-then-is_sealed-clause-made
returns-then-is_sealed-clause-made g c clean inside =
    let is : nat_eq c.args.row.now.key.kind 7 ≡ true = search rules in
    rw is (c.write_sealed.ensures.made clean inside)

pub returns-else-is_sealed-clause-made : goal.returns-else-is_sealed-clause-made
returns-else-is_sealed-clause-made g c clean inside =
    let is_not : nat_eq c.args.row.now.key.kind 7 ≡ false = search rules in
    rw is_not (c.write_record.ensures.made clean inside)
