-- How many keys a table has.
use Rattle.std.proofs.Common.{◌≡◌, List, [], ◌∷◌, length, refl, String, arith}
use Rattle.std.specs.declared.alloc.Global.{Global}
use Rattle.toml.specs.declared.value.Value.{Value}
use Rattle.toml.specs.View.{members_view}
use Rattle.wb_setup.specs.TomlValues.{members_len}

pub members_len-view : (es : List (String Global × Value)) → members_len (members_view es) ≡ length es
members_len-view [] = refl
members_len-view (e ∷ es) = let h = members_len-view es in omega (arith, h)
