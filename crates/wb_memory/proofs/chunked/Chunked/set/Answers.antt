use Rattle.std.proofs.Common.{◌≡◌, ◌+◌, ◌-◌, ◌<◌, ◌++◌, length, ap, sym, subst, ◌∙◌, arith}
use Rattle.std.proofs.lemmas.List.{append_assoc}
use Rattle.std.proofs.lemmas.List.Edits.{length-insert}
use Rattle.wb_list.specs.Room.{Room}
use Rattle.wb_list.specs.Keyed.{IsAscending, insert_item}
use Rattle.wb_memory.specs.Chunks.{joined}
use Rattle.wb_list.proofs.KeyedLemmas.{ascending-insert_item}
use Rattle.wb_list.proofs.LastItems.{ascending_back}
use Rattle.wb_memory.proofs.Putting.{put_first, put_later}
use Rattle.wb_memory.proofs.chunked.Chunked.set.Goals as goal

pub beginning_by-before-requires-clause-ascending : goal.beginning_by-before-requires-clause-ascending
beginning_by-before-requires-clause-ascending g c =
    ascending_back g.T.Key.Ord.cmp g.T.Keyed.key_of c.self.inside.first.items (joined c.self.inside.later.items) c.self.invariant.ascending

pub returns-in_default-clause-items : goal.returns-in_default-clause-items
returns-in_default-clause-items g c =
    let later = c.self.inside.later.items in
    let whole = put_first g.met.T.Key.Ord.total g.T.Keyed.key_of c.self.inside.first.items later c.args.item c.self.invariant.filled (λ d within. c.beginning_by-before.ensures.parted.1 0 d (omega (arith, c.if-before-eq0.true)) within) in
    rw (← ap (λ (r : Room _). r.items) c.self.view_is) (ap (λ t. t ++ joined later) c.in_default.ensures.items ∙ sym whole)

pub invariant_of-self-in_default : goal.invariant_of-self-in_default
invariant_of-self-in_default g c =
    let later = c.self.inside.later.items in
    let whole = put_first g.met.T.Key.Ord.total g.T.Keyed.key_of c.self.inside.first.items later c.args.item c.self.invariant.filled (λ d within. c.beginning_by-before.ensures.parted.1 0 d (omega (arith, c.if-before-eq0.true)) within) in
    let made = ap (λ t. t ++ joined later) c.in_default.ensures.items ∙ sym whole in
    record {
      ascending = subst (λ t. IsAscending g.T.Key.Ord.cmp g.T.Keyed.key_of t) (sym made) (ascending-insert_item g.met.T.Key.Ord.total g.T.Keyed.key_of (c.self.inside.first.items ++ joined later) c.args.item c.self.invariant.ascending);
      filled = c.self.invariant.filled;
      ready = c.in_default.ensures.ready;
      placed = omega (arith, c.self.invariant.placed, c.in_default.ensures.taken);
    }

pub returns-in-Some-clause-items : goal.returns-in-Some-clause-items
returns-in-Some-clause-items g c =
    let later = c.self.inside.later.items in
    let whole = put_first g.met.T.Key.Ord.total g.T.Keyed.key_of c.self.inside.first.items later c.args.item c.self.invariant.filled (λ d within. c.beginning_by-before.ensures.parted.1 0 d (omega (arith, c.if-before-eq0.true)) within) in
    rw (← ap (λ (r : Room _). r.items) c.self.view_is, c.add.ensures.items) (sym (append_assoc c.put.new.chunk.items c.in-Some.next.items (joined later)) ∙ (ap (λ t. t ++ joined later) c.in-Some.ensures.items ∙ sym whole))

pub invariant_of-self : goal.invariant_of-self
invariant_of-self g c =
    let later = c.self.inside.later.items in
    let whole = put_first g.met.T.Key.Ord.total g.T.Keyed.key_of c.self.inside.first.items later c.args.item c.self.invariant.filled (λ d within. c.beginning_by-before.ensures.parted.1 0 d (omega (arith, c.if-before-eq0.true)) within) in
    let made : c.put.new.chunk.items ++ joined c.add.new.chunks.items ≡ insert_item g.T.Key.Ord.cmp g.T.Keyed.key_of (c.self.inside.first.items ++ joined later) c.args.item = rw c.add.ensures.items (sym (append_assoc c.put.new.chunk.items c.in-Some.next.items (joined later)) ∙ (ap (λ t. t ++ joined later) c.in-Some.ensures.items ∙ sym whole)) in
    let longer : length c.add.new.chunks.items ≡ length later + 1 = ap length c.add.ensures.items ∙ length-insert later 0 c.in-Some.next (omega arith) in
    record {
      ascending = subst (λ t. IsAscending g.T.Key.Ord.cmp g.T.Keyed.key_of t) (sym made) (ascending-insert_item g.met.T.Key.Ord.total g.T.Keyed.key_of (c.self.inside.first.items ++ joined later) c.args.item c.self.invariant.ascending);
      filled = rw c.add.ensures.items (c.in-Some.ensures.next, c.self.invariant.filled);
      ready = c.in-Some.ensures.ready;
      placed = omega (arith, longer, c.self.invariant.placed, c.in-Some.ensures.taken, c.add.ensures.places);
    }

pub returns-else-before-eq0-clause-items : goal.returns-else-before-eq0-clause-items
returns-else-before-eq0-clause-items g c =
    let later = c.self.inside.later.items in
    let before = c.beginning_by-before.result in
    let parted = c.beginning_by-before.ensures.parted in
    let within : before - 1 < length later = omega (arith, c.beginning_by-before.ensures.bound, c.if-before-eq0.false) in
    let whole = put_later g.met.T.Key.Ord.total g.T.Keyed.key_of c.self.inside.first.items later c.args.item (before - 1) c.self.inside.first c.self.invariant.filled c.self.invariant.ascending within (parted.0 (before - 1) c.self.inside.first (omega arith) (omega (arith, c.if-before-eq0.false))) (λ e there. parted.1 (before - 1 + 1) e (omega arith) there) in
    rw (← ap (λ (r : Room _). r.items) c.self.view_is) (ap (λ t. c.self.inside.first.items ++ t) (c.put_at.ensures.items c.self.inside.first) ∙ sym whole)

pub invariant_of-self-else-before-eq0 : goal.invariant_of-self-else-before-eq0
invariant_of-self-else-before-eq0 g c =
    let later = c.self.inside.later.items in
    let before = c.beginning_by-before.result in
    let parted = c.beginning_by-before.ensures.parted in
    let within : before - 1 < length later = omega (arith, c.beginning_by-before.ensures.bound, c.if-before-eq0.false) in
    let whole = put_later g.met.T.Key.Ord.total g.T.Keyed.key_of c.self.inside.first.items later c.args.item (before - 1) c.self.inside.first c.self.invariant.filled c.self.invariant.ascending within (parted.0 (before - 1) c.self.inside.first (omega arith) (omega (arith, c.if-before-eq0.false))) (λ e there. parted.1 (before - 1 + 1) e (omega arith) there) in
    let made = ap (λ t. c.self.inside.first.items ++ t) (c.put_at.ensures.items c.self.inside.first) ∙ sym whole in
    record {
      ascending = subst (λ t. IsAscending g.T.Key.Ord.cmp g.T.Keyed.key_of t) (sym made) (ascending-insert_item g.met.T.Key.Ord.total g.T.Keyed.key_of (c.self.inside.first.items ++ joined later) c.args.item c.self.invariant.ascending);
      filled = c.put_at.ensures.filled;
      ready = c.put_at.ensures.ready;
      placed = c.put_at.ensures.placed;
    }
