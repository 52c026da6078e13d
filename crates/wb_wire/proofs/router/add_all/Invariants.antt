-- The paths so far stand in the router, and the others fit beside them.
use Rattle.std.proofs.Common.{◌≡◌, ◌+◌, drop, true}
use Rattle.wb_model.specs.Routes.{with_patterns}
use Rattle.wb_wire.specs.Fitting.{all_fit}
use Rattle.wb_wire.specs.Paths.{patterns_of}
use Rattle.wb_wire.proofs.router.add_all.Given as goal

abbrev pub invariant-loop-path : goal.invariant-loop-path
invariant-loop-path l = (l.number ≡ l.first + l.path-index)
    × (all_fit (patterns_of (drop l.path-index l.paths)) l.number l.router ≡ true)
    × (with_patterns (patterns_of (drop l.path-index l.paths)) l.number l.router ≡ with_patterns (patterns_of l.paths) l.first l.fn.router)
