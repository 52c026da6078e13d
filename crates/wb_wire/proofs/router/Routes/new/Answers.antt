-- All patterns fit, one after another, and the rows are then the definition's.
use Rattle.std.proofs.Common.{◌∙◌, refl}
use Rattle.wb_model.specs.Routes.{router as router_of}
use Rattle.wb_wire.proofs.RouterRows.{patterns_fit}
use Rattle.wb_wire.proofs.router.Routes.new.Goals as goal

pub add_all-requires-clause-fits : goal.add_all-requires-clause-fits
add_all-requires-clause-fits c = rw (c.routed_paths.ensures.patterns, c.new-router.ensures) patterns_fit

pub invariant_of-result : goal.invariant_of-result
unfolding router_of
invariant_of-result c = c.in_ok-add_all.ensures ∙ rw (c.routed_paths.ensures.patterns, c.new-router.ensures) refl
