use Rattle.std.proofs.Common.{◌+◌, ℕ, List, subst}
use Rattle.wb_wire.specs.HeadReading.{IsWhole}
use Rattle.wb_front.specs.Arrivals.{IsSeen}
use Rattle.wb_front.specs.declared.inbox.Seen.TheVariants.{Request, More}
use Rattle.wb_front.proofs.Inboxes.{whole_cut, part_cut, part_room}
use Rattle.wb_front.proofs.inbox.Inbox.seen.Goals as goal

pub returns-then-size-bytes : goal.returns-then-size-bytes
returns-then-size-bytes c =
    let whole : IsWhole c.held-bytes.result.now c.in-Whole.head c.in-Whole.body c.in-Whole.close = c.in-Whole.ensures in
    subst (λ (b : List ℕ). IsSeen b (Request (c.in-Whole.head + c.in-Whole.body))) c.held-bytes.ensures (c.if-size-bytes.true, whole_cut c.held-bytes.result.now c.in-Whole.head c.in-Whole.body c.in-Whole.close whole c.if-size-bytes.true)

pub returns-else-size-bytes : goal.returns-else-size-bytes
returns-else-size-bytes c =
    let whole : IsWhole c.held-bytes.result.now c.in-Whole.head c.in-Whole.body c.in-Whole.close = c.in-Whole.ensures in
    subst (λ (b : List ℕ). IsSeen b More) c.held-bytes.ensures
    (part_cut c.held-bytes.result.now c.in-Whole.head c.in-Whole.body c.in-Whole.close whole c.if-size-bytes.false, part_room c.held-bytes.result.now c.in-Whole.head c.in-Whole.body c.in-Whole.close whole c.if-size-bytes.false)
