use Rattle.std.proofs.Common.{◌≡◌, map, length, ◌∙◌, sym, rules}
use Rattle.std.proofs.lemmas.List.{map-append, length-map}
use Rattle.wb_form.proofs.IndexLemmas.{free-id, index-more}
use Rattle.wb_form.proofs.index.Index.add.Goals as goal

pub add-requires-clause-free : goal.add-requires-clause-free
add-requires-clause-free c =
    rw c.reserve.ensures.items (free-id (map (λ f. f.now) c.self.inside.fields.items) c.self.inside.places.items c.args.field.now.id c.self.invariant (rw (← c.self.view_is) at c.requires))

pub invariant_of-self-2 : goal.invariant_of-self-2
invariant_of-self-2 c = λ id test at.
    let fields = map (λ f. f.now) c.self.inside.fields.items in
    let free = free-id fields c.self.inside.places.items c.args.field.now.id c.self.invariant (rw (← c.self.view_is) at c.requires) in
    let len : c.len-place.result ≡ length c.self.inside.fields.items = search rules in
    let last : c.len-place.result ≡ length fields = len ∙ sym (length-map c.self.inside.fields.items (λ f. f.now)) in
    rw (c.in_ok-push.ensures.items, map-append, c.add.ensures.items, c.reserve.ensures.items)
    (index-more fields c.self.inside.places.items (record { field = c.args.field; place = c.len-place.result }) last free c.self.invariant id test at)
