use Rattle.std.proofs.Common.{map, sym}
use Rattle.std.proofs.lemmas.Bool.{lt-ltb, le-ltb}
use Rattle.wb_form.proofs.IndexLemmas.{found-before, found-late, not-found}
use Rattle.wb_form.proofs.index.Index.find.Goals as goal

pub returns-then-placed-before : goal.returns-then-placed-before
returns-then-placed-before c =
    rw (← c.self.view_is) (found-before (map (λ f. f.now) c.self.inside.fields.items) c.self.inside.places.items c.args.id.now c.args.before c.self.invariant c.in-Some.placed.now (sym c.in-Some.ensures.item) (lt-ltb _ _ c.if-placed-before.true))

pub returns-else-placed-before : goal.returns-else-placed-before
returns-else-placed-before c =
    rw (← c.self.view_is) (found-late (map (λ f. f.now) c.self.inside.fields.items) c.self.inside.places.items c.args.id.now c.args.before c.self.invariant c.in-Some.placed.now (sym c.in-Some.ensures.item) (le-ltb _ _ c.if-placed-before.false))

pub returns-in-None : goal.returns-in-None
returns-in-None c =
    rw (← c.self.view_is) (not-found (map (λ f. f.now) c.self.inside.fields.items) c.self.inside.places.items c.args.id.now c.args.before c.self.invariant (sym c.in-None.ensures.item))
