-- Members put on others, the last of a list first.
use Rattle.std.specs.Prelude.{List, [], ◌∷◌}
use Rattle.serde_json.specs.Data.{Members, put}
use Rattle.wb_model.specs.Json.{Member}

abbrev pub puts : List Member → Members → Members
puts [] members = members
puts (m ∷ ms) members = put m.0 m.1 (puts ms members)
