-- The table of paths as the code has it.
use Rattle.std.specs.Prelude.{ℕ, List, map, codes, ◌++◌}
use Rattle.wb_model.specs.Routes as routes
use Rattle.wb_wire.specs.declared.paths.Allowed.{Allowed}
use Rattle.wb_wire.specs.declared.paths.Path.{Path}
use Rattle.wb_wire.specs.declared.paths.Verb.{Verb}
use Rattle.wb_wire.specs.declared.paths.Verb.TheVariants as verbs

abbrev pub name_of : Verb → List ℕ
name_of verbs.Get = codes "GET"
name_of verbs.Post = codes "POST"
name_of verbs.Put = codes "PUT"
name_of verbs.Delete = codes "DELETE"

abbrev pub method_of : Allowed → routes.Method
method_of allowed = record { name = name_of allowed.verb; route = allowed.route }

abbrev pub methods_of : List Allowed → List routes.Method
methods_of methods = map method_of methods

abbrev pub path_of : Path → routes.Path
path_of p = record { pattern = p.pattern.now; methods = methods_of p.methods.now }

abbrev pub patterns_of : List Path → List (List ℕ)
patterns_of paths = map (λ (p : Path). p.pattern.now) paths

-- a method's name after a comma and a space
abbrev pub more_name : routes.Method → List ℕ
more_name m = codes ", " ++ m.name
