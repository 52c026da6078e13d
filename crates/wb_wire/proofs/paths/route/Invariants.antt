-- No method before has the name.
use Rattle.std.proofs.Common.{◌≡◌, drop}
use Rattle.wb_model.specs.Routes.{route as route_of}
use Rattle.wb_wire.specs.Paths.{methods_of}
use Rattle.wb_wire.proofs.paths.route.Given as goal

abbrev pub invariant-loop-allowed : goal.invariant-loop-allowed
invariant-loop-allowed l = route_of l.name (methods_of l.methods) ≡ route_of l.name (methods_of (drop l.allowed-index l.methods))
