use Rattle.sqlite.specs.Held.{state}
use Rattle.sqlite.specs.Steps.{over_memory}
use Rattle.wb_stored.proofs.Empty.{empty_holds, memory_is_honest}
use Rattle.wb_sqlite.proofs.sql_keeper.SqlKeeper+MemStore.in_memory.Goals as goal

pub returns-clause-honest : goal.returns-clause-honest
returns-clause-honest c = memory_is_honest c.over.result.conn

pub returns-clause-told : goal.returns-clause-told
returns-clause-told c = rw c.over.ensures (empty_holds (state over_memory c.in_ok-conn.conn) c.in_ok-conn.ensures.empty)
