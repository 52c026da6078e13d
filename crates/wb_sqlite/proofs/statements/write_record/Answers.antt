use Rattle.std.proofs.Common.{rules, ◌≡◌, true, false, nat_eq}
use Rattle.wb_sqlite.proofs.statements.write_record.Goals as goal

pub returns-then-key-eq-ENTRY-clause-made : goal.returns-then-key-eq-ENTRY-clause-made
returns-then-key-eq-ENTRY-clause-made g c clean inside =
    let is : nat_eq c.args.row.now.key.kind 6 ≡ true = search rules in
    rw is (rw (c.params-to_sql.ensures, c.params-to_sql-2.ensures, c.params-to_sql-3.ensures, c.params-to_sql-4.ensures, c.params-to_sql-5.ensures, c.from-kind.ensures, c.as_str.ensures) at (c.run_new.ensures.made clean inside))

pub returns-else-key-eq-ENTRY-clause-made : goal.returns-else-key-eq-ENTRY-clause-made
returns-else-key-eq-ENTRY-clause-made g c clean inside =
    let is_not : nat_eq c.args.row.now.key.kind 6 ≡ false = search rules in
    rw is_not (rw (c.params-to_sql.ensures, c.params-to_sql-2.ensures, c.params-to_sql-3.ensures, c.params-to_sql-4.ensures, c.params-to_sql-5.ensures, c.from-kind.ensures, c.as_str.ensures) at (c.run.ensures.made clean inside))
