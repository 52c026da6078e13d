-- A schema may go to another thread: it owns lists, names and values, and the expressions of its rules as places in a list.
use denote.RattleType.{RattleType}
use denote.Param.Send.{IsSend, sendable}
use Rattle.std.proofs.Crossing.{crosses}
use Rattle.sqlite_items.specs.contracts.items.Items as Items
use Rattle.sqlite_value.specs.contracts.keys.Order as Order
use Rattle.sqlite_value.specs.contracts.value.Bytes as Bytes
use Rattle.sqlite_value.specs.contracts.value.Value as Value
use Rattle.sqlite_schema.specs.contracts.code.Op as Op
use Rattle.sqlite_schema.specs.contracts.code.Terms as Terms
use Rattle.sqlite_schema.specs.contracts.schema.Column as Column
use Rattle.sqlite_schema.specs.contracts.schema.Index as Index
use Rattle.sqlite_schema.specs.contracts.schema.Reference as Reference
use Rattle.sqlite_schema.specs.contracts.schema.Schema as Schema
use Rattle.sqlite_schema.specs.contracts.schema.Stamps as Stamps
use Rattle.sqlite_schema.specs.contracts.schema.Table as Table
use Rattle.sqlite_schema.specs.contracts.schema.View as View

pub items_send : (T : RattleType) → IsSend T → IsSend (Items.the_field T).row
items_send T s = search (sendable, crosses) depth 20

pub bytes_send : IsSend (Bytes.the_field).row
bytes_send = search (sendable, crosses) depth 20

pub value_send : IsSend (Value.the_field).row
value_send = search (bytes_send, sendable, crosses) depth 20

order_send : IsSend (Order.the_field).row
order_send = search (sendable, crosses) depth 20

pub op_send : IsSend (Op.the_field).row
op_send = search (value_send, sendable, crosses) depth 60 fits 5000

pub terms_send : IsSend (Terms.the_field).row
terms_send = search (items_send, op_send, sendable, crosses) depth 20

column_send : IsSend (Column.the_field).row
column_send = search (bytes_send, value_send, sendable, crosses) depth 20

reference_send : IsSend (Reference.the_field).row
reference_send = search (items_send, bytes_send, sendable, crosses) depth 20

stamps_send : IsSend (Stamps.the_field).row
stamps_send = search (items_send, bytes_send, terms_send, sendable, crosses) depth 20

table_send : IsSend (Table.the_field).row
table_send = search (items_send, bytes_send, order_send, terms_send, column_send, reference_send, stamps_send, sendable, crosses) depth 20

index_send : IsSend (Index.the_field).row
index_send = search (items_send, bytes_send, order_send, sendable, crosses) depth 20

view_send : IsSend (View.the_field).row
view_send = search (bytes_send, sendable, crosses) depth 20

pub schema_send : IsSend (Schema.the_field).row
schema_send = search (items_send, table_send, index_send, view_send, sendable, crosses) depth 20
