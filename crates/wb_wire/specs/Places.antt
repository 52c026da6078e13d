-- A path of the table that a request is on.
use Rattle.std.specs.Prelude.{ℕ, List}
use Rattle.wb_model.specs.Routes.{segments, number_under}
use Rattle.wb_model.specs.RouteBodies as bodies
use Rattle.wb_model.specs.Readings as readings
use Rattle.wb_wire.specs.declared.commands.Numbers.{Numbers}
use Rattle.wb_wire.specs.declared.requests.Located.{Located}
use Rattle.wb_wire.specs.Paths.{path_of}

-- the numbers of a path, by the names of its pattern
abbrev pub numbers_in : List ℕ → List ℕ → bodies.Numbers
numbers_in pattern path = number_under (segments pattern) (segments path)

abbrev pub at_place : Numbers → bodies.Numbers
at_place n = numbers_in n.pattern.now n.path.now

abbrev pub place_value : Located → readings.Located
place_value p = record { number = p.number; methods = (path_of p.row.now).methods; at = numbers_in p.row.now.pattern.now p.path.now }
