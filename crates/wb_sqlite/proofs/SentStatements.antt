-- A statement that was read once and is kept for the next time may go to another thread: it is a plan, which names each part by its place.
use denote.Param.Send.{IsSend, sendable}
use Rattle.std.proofs.Crossing.{crosses}
use Rattle.sqlite_schema.specs.contracts.command.Command as Command
use Rattle.sqlite_schema.specs.contracts.command.Returning as Returning
use Rattle.sqlite_schema.specs.contracts.command.Source as Source
use Rattle.sqlite_schema.specs.contracts.command.Upsert as Upsert
use Rattle.sqlite_schema.specs.contracts.plan.Groups as Groups
use Rattle.sqlite_schema.specs.contracts.plan.Plan as Plan
use Rattle.sqlite_schema.specs.contracts.plan.Scan as Scan
use Rattle.sqlite_schema.specs.contracts.plan.Stage as Stage
use Rattle.sqlite_schema.specs.contracts.program.Program as Program
use Rattle.sqlite_schema.specs.contracts.program.Table as Made_table
use Rattle.sqlite.specs.contracts.cache.Entry as Entry
use Rattle.wb_sqlite.proofs.SentSchema.{items_send, bytes_send, value_send, op_send, terms_send}

scan_send : IsSend (Scan.the_field).row
scan_send = search (items_send, sendable, crosses) depth 20

stage_send : IsSend (Stage.the_field).row
stage_send = search (items_send, scan_send, sendable, crosses) depth 60 fits 5000

groups_send : IsSend (Groups.the_field).row
groups_send = search (items_send, sendable, crosses) depth 40 fits 5000

plan_send : IsSend (Plan.the_field).row
plan_send = search (items_send, op_send, stage_send, groups_send, sendable, crosses) depth 40 fits 5000

made_table_send : IsSend (Made_table.the_field).row
made_table_send = search (items_send, plan_send, sendable, crosses) depth 20

program_send : IsSend (Program.the_field).row
program_send = search (items_send, plan_send, made_table_send, sendable, crosses) depth 20

source_send : IsSend (Source.the_field).row
source_send = search (terms_send, program_send, sendable, crosses) depth 20

upsert_send : IsSend (Upsert.the_field).row
upsert_send = search (items_send, program_send, sendable, crosses) depth 20

returning_send : IsSend (Returning.the_field).row
returning_send = search (items_send, bytes_send, source_send, sendable, crosses) depth 20

command_send : IsSend (Command.the_field).row
command_send = search (items_send, bytes_send, value_send, program_send, source_send, upsert_send, sendable, crosses) depth 40 fits 5000

pub entry_send : IsSend (Entry.the_field).row
entry_send = search (items_send, bytes_send, command_send, returning_send, sendable, crosses) depth 20
