-- Fields found by their ids.
use Rattle.std.specs.Prelude.{◌≡◌, ℕ, List, take, find, Bool, false, ◌&&◌, nat_lt, Some, ⊤}
use Rattle.std.specs.Option.{option_map_or}
use Rattle.std.specs.List.{list_any}
use Rattle.std.specs.Ordering.{nat_cmp}
use Rattle.std.specs.Cmp.Lexicographic.{slice_cmp}
use Rattle.wb_list.specs.Keyed.{has_key}
use Rattle.wb_base.specs.declared.form.Field.{Field}
use Rattle.wb_base.specs.FormFields.{is_field}
use Rattle.wb_base.specs.FormFaults.{first_by, is_double}
use Rattle.wb_form.specs.declared.index.Placed.{Placed}
use Rattle.wb_form.specs.declared.index.IndexFault.{IndexFault}
use Rattle.wb_form.specs.declared.index.IndexFault.TheVariants.{Double, Memory}

-- the id of the field at a place
abbrev pub id_of : Placed → List ℕ
id_of placed = placed.field.now.id

-- the field stands before a place, and passes
abbrev pub is_before : ℕ → (Field → Bool) → Placed → Bool
is_before at test placed = nat_lt placed.place at && test placed.field.now

-- whether a field of an id stands before a place and passes a test, the place of the id tells
abbrev pub IsIndexOf : List Field → List Placed → Type 0
IsIndexOf fields places = (id : List ℕ) (test : Field → Bool) (at : ℕ)
    → list_any (λ f. is_field id f && test f) (take at fields) ≡ option_map_or (is_before at test) (find (has_key (slice_cmp nat_cmp) id_of id) places) false

-- why fields have no index
abbrev pub IsFaultOf : List Field → IndexFault → Type 0
IsFaultOf fields (Double id) = first_by is_double fields ≡ Some id.now
IsFaultOf fields Memory = ⊤
