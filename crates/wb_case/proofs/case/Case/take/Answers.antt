use Rattle.std.proofs.Common.{◌≤◌, ◌+◌, length, sym, ap, subst, arith}
use Rattle.wb_list.specs.Room.{Room}
use Rattle.wb_model.specs.declared.entry.Entry.{Entry}
use Rattle.wb_case.specs.Rooms.{room_of}
use Rattle.wb_case.specs.Summaries.{IsSummary, IsAfter, needed_by}
use Rattle.wb_case.proofs.SummaryLemmas.{summary-after, postponed-few}
use Rattle.wb_case.proofs.Taken.{got-last, few-fit, room-after}
use Rattle.wb_case.proofs.case.Case.take.Goals as goal

pub note-requires-clause-readers : goal.note-requires-clause-readers
note-requires-clause-readers c =
    let inside = c.self.inside in
    let last = got-last inside.trail.items c.push.new.self.items c.args.entry c.get.result.now c.len-at.result c.push.ensures.items c.len-at.ensures c.get.ensures in
    let few = c.requires.few in
    subst (λ (e : Entry). needed_by e.deed ≤ inside.summary.readers.spare) (sym last.0)
    (few-fit (needed_by c.args.entry.deed) inside.trail.spare inside.summary.dialogue.spare inside.summary.readers.spare few (rw (ap (λ (r : Room _). r.spare) c.self.view_is) c.requires.room))

pub note-requires-clause-postponements : goal.note-requires-clause-postponements
note-requires-clause-postponements c =
    let last = got-last c.self.inside.trail.items c.push.new.self.items c.args.entry c.get.result.now c.len-at.result c.push.ensures.items c.len-at.ensures c.get.ensures in
    let few = postponed-few c.self.inside.trail.items in
    let is = c.self.invariant.postponements in
    let place = last.1 in
    omega (arith, few, is, place)

pub invariant_of-self : goal.invariant_of-self
invariant_of-self c =
    let before = c.self.inside.summary in
    let trail = c.self.inside.trail.items in
    let last = got-last trail c.push.new.self.items c.args.entry c.get.result.now c.len-at.result c.push.ensures.items c.len-at.ensures c.get.ensures in
    let after = subst (λ e. IsAfter before c.note.new.self (length trail) e) last.0 (subst (λ at. IsAfter before c.note.new.self at c.get.result.now) last.1 c.note.ensures.after) in
    subst (IsSummary c.note.new.self) (sym c.push.ensures.items)
    (summary-after before c.note.new.self trail c.args.entry after c.self.invariant (c.a_dialogue_stands_at_its_places.ensures.more trail c.args.entry))

pub returns-clause-room : goal.returns-clause-room
returns-clause-room c =
    let inside = c.self.inside in
    let last = got-last inside.trail.items c.push.new.self.items c.args.entry c.get.result.now c.len-at.result c.push.ensures.items c.len-at.ensures c.get.ensures in
    let few = c.requires.few in
    let readers = subst (λ (e : Entry). inside.summary.readers.spare ≤ c.note.new.self.readers.spare + needed_by e.deed) last.0 c.note.ensures.readers in
    subst (λ s. s ≤ room_of c.push.new.self.spare c.note.new.self + 1) (ap (λ (r : Room _). r.spare) c.self.view_is)
    (room-after inside.trail.spare inside.summary.dialogue.spare inside.summary.readers.spare c.push.new.self.spare c.note.new.self.dialogue.spare c.note.new.self.readers.spare (needed_by c.args.entry.deed) c.push.ensures.room c.note.ensures.dialogue readers few)
