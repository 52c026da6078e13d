-- A connection may go to another thread where its store may.
use denote.RattleType.{RattleType}
use denote.Param.Send.{IsSend, sendable}
use Rattle.std.proofs.Crossing.{crosses}
use Rattle.sqlite_trees.specs.declared.store.Store.{Ghosts}
use Rattle.sqlite_value.specs.contracts.row.Row as Row
use Rattle.sqlite_exec.specs.contracts.stream.Stream as Stream
use Rattle.sqlite_exec.specs.contracts.work.Workspace as Workspace
use Rattle.sqlite.specs.contracts.connection.Connection as Connection
use Rattle.sqlite.specs.contracts.history.History as History
use Rattle.sqlite.specs.contracts.history.Mark as Mark
use Rattle.sqlite.specs.contracts.rows.Row as Answer
use Rattle.sqlite.specs.contracts.run.reading.Reading as Reading
use Rattle.wb_sqlite.proofs.SentSchema.{bytes_send, schema_send}
use Rattle.wb_sqlite.proofs.SentStatements.{entry_send}

row_send : IsSend (Row.the_field).row
row_send = search (sendable, crosses) depth 20

answer_send : IsSend (Answer.the_field).row
answer_send = search (row_send, sendable, crosses) depth 20

mark_send : IsSend (Mark.the_field).row
mark_send = search (bytes_send, schema_send, sendable, crosses) depth 20

history_send : IsSend (History.the_field).row
history_send = search (mark_send, schema_send, sendable, crosses) depth 20

workspace_send : IsSend (Workspace.the_field).row
workspace_send = search (row_send, sendable, crosses) depth 40

stream_send : IsSend (Stream.the_field).row
stream_send = search (row_send, sendable, crosses) depth 40 fits 20000

reading_send : IsSend (Reading.the_field).row
reading_send = search (stream_send, answer_send, sendable, crosses) depth 20

pub connection_send : (S : RattleType) (g : Ghosts S.Denot) → IsSend S → IsSend (Connection.the_field S g).row
connection_send S g s = search (schema_send, history_send, entry_send, row_send, reading_send, workspace_send, sendable, crosses) depth 40
