-- The names of a path's methods are short.
use Rattle.std.proofs.Common.{◌≡◌, ◌≤◌, ◌<◌, ◌+◌, ◌++◌, ◌-◌, get_or, drop, codes, ap, arith, length-append, ℕ, zero, suc, nat_le, Bool, true, List, [], ◌∷◌, length, refl}
use Rattle.std.specs.Prelude.{slice_get}
use Rattle.std.specs.List.{list_all, flat_map}
use Rattle.std.proofs.Math.Seq.{drop-cons}
use Rattle.std.specs.Option.{option_map_or}
use Rattle.std.proofs.lemmas.Bool.{and_parts, leb-true}
use Rattle.wb_wire.specs.declared.paths.Allowed.{Allowed}
use Rattle.wb_wire.specs.Paths.{name_of, method_of, methods_of, more_name}
use Rattle.wb_model.specs.Routes.{Path, paths, methods, method_names}

abbrev is_short : Path → Bool
is_short p = nat_le (length (method_names p.methods)) 12

all_short : list_all is_short paths ≡ true
unfolding paths
all_short = refl

short_at : (ps : List Path) (n : ℕ) → list_all is_short ps ≡ true → length (method_names (option_map_or (λ (p : Path). p.methods) (slice_get ps n) [])) ≤ 12
short_at [] n all = leb-true 0 12 refl
short_at (p ∷ ps) zero all = leb-true _ 12 (and_parts (is_short p) (list_all is_short ps) all).0
short_at (p ∷ ps) (suc n) all = short_at ps n (and_parts (is_short p) (list_all is_short ps) all).1

pub short_methods : (number : ℕ) → length (method_names (methods number)) ≤ 12
short_methods number = short_at paths (number - 1) all_short

-- a name that is left fits where all that are left do
pub one_fits : (size n : ℕ) (ms : List Allowed) (d : Allowed) → n < length ms → size + length (flat_map more_name (methods_of (drop n ms))) ≤ 256 → size + (2 + length (name_of (get_or ms n d).verb)) ≤ 256
one_fits size n ms d here room =
    let next = drop-cons ms n d here in
    let first = get_or ms n d in
    let rest = flat_map more_name (methods_of (drop (suc n) ms)) in
    let all : length (flat_map more_name (methods_of (drop n ms))) ≡ length (more_name (method_of first) ++ rest) = ap (λ (l : List Allowed). length (flat_map more_name (methods_of l))) next in
    let name : length (more_name (method_of first)) ≡ 2 + length (name_of first.verb) = length-append (codes ", ") (name_of first.verb) in
    omega (arith, room, all, name, length-append (more_name (method_of first)) rest)
