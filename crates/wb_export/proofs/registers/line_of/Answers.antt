use Rattle.std.proofs.Common.{[]}
use Rattle.wb_export.proofs.registers.line_of.Goals as goal

pub returns : goal.returns
returns c =
    let s = c.summary-summary.ensures in
    let number = c.in_ok-add_number.ensures [] (record { all = c.new-line.ensures.fields; ended = c.new-line.ensures.partial }) in
    let context = c.in_ok-add_number-2.ensures _ number in
    let label = c.in_ok-add.ensures _ context in
    let status = c.in_ok-add-2.ensures _ label in
    let received = c.in_ok-add_day.ensures _ status in
    let ack_due = c.in_ok-add_day-2.ensures _ received in
    let acknowledged = c.in_ok-add_day_or_none.ensures _ ack_due in
    let feedback_due = c.in_ok-add_day-3.ensures _ acknowledged in
    let expires = c.in_ok-add_day-4.ensures _ feedback_due in
    let identity = c.in_ok-add-3.ensures _ expires in
    rw (
      c.get.ensures.value,
      s.context,
      c.as_bytes.ensures.value,
      c.label.ensures,
      c.as_bytes-2.ensures.value,
      c.status_name.ensures,
      s.status,
      s.received,
      s.ack_due,
      s.acknowledged,
      s.feedback_due,
      s.expires,
      c.as_bytes-3.ensures.value,
      c.identity_field.ensures,
      s.has_identity,
    ) at identity
