-- How refusals stand in their order: each refuses or does not, and the first that refuses is told (`option_or`).
use Rattle.std.specs.Prelude.{Bool, if◌then◌else◌, Option, Some, None}

-- refused with this where it is so
abbrev pub refuses_where : {F : Type 0} → Bool → F → Option F
refuses_where is_so fault = if is_so then Some fault else None
