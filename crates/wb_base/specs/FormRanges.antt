-- The ranges of a form's texts and numbers.
use Rattle.std.specs.Prelude.{ℕ, List, ◌==◌, ◌&&◌, ◌||◌, length, nat_le, Bool, true}
use Rattle.std.specs.List.{list_all}
use Rattle.std.specs.Char.{is_ascii_digit, is_ascii_lowercase}
use Rattle.wb_base.specs.declared.form.Form.{Form}
use Rattle.wb_base.specs.declared.form.Step.{Step}
use Rattle.wb_base.specs.declared.form.Field.{Field}
use Rattle.wb_base.specs.declared.form.FieldKind.{FieldKind}
use Rattle.wb_base.specs.declared.form.FieldKind.TheVariants.{Text, Choice, Multi, Date, Check, Whole, File}
use Rattle.wb_base.specs.declared.form.Choice.{Choice as FieldOption}
use Rattle.wb_base.specs.declared.form.Trigger.{Trigger}
use Rattle.wb_base.specs.declared.form.Trigger.TheVariants.{Always, Any, All, Score}
use Rattle.wb_base.specs.declared.form.Part.{Part}

-- a lower-case letter, a digit or `_`
abbrev pub is_id_byte : ℕ → Bool
is_id_byte c = is_ascii_lowercase c || is_ascii_digit c || (c == 95)

-- the id of a field or an option
abbrev pub is_id : List ℕ → Bool
is_id s = nat_le 1 (length s) && nat_le (length s) 32 && list_all is_id_byte s

-- a title or a label
abbrev pub is_label : List ℕ → Bool
is_label s = nat_le 1 (length s) && nat_le (length s) 256

-- the greatest length of a text
abbrev pub is_max : ℕ → Bool
is_max n = nat_le 1 n && nat_le n 65_536

abbrev pub is_option_in_range : FieldOption → Bool
is_option_in_range o = is_id o.id && is_label o.label

abbrev pub is_kind_in_range : FieldKind → Bool
is_kind_in_range (Text max) = is_max max
is_kind_in_range (Choice options) = list_all is_option_in_range options
is_kind_in_range (Multi options) = list_all is_option_in_range options
is_kind_in_range Date = true
is_kind_in_range Check = true
is_kind_in_range Whole = true
is_kind_in_range File = true

-- the points of a part
abbrev pub are_points : ℕ → Bool
are_points n = nat_le 1 n && nat_le n 1_000

-- the points that a score wants
abbrev pub is_least : ℕ → Bool
is_least n = nat_le 1 n && nat_le n 16_000

abbrev pub is_part_in_range : Part → Bool
is_part_in_range p = are_points p.points

abbrev pub is_trigger_in_range : Trigger → Bool
is_trigger_in_range Always = true
is_trigger_in_range (Any conds) = true
is_trigger_in_range (All conds) = true
is_trigger_in_range (Score least parts) = is_least least && list_all is_part_in_range parts

abbrev pub is_field_in_range : Field → Bool
is_field_in_range f = is_id f.id && is_label f.label && is_kind_in_range f.kind && is_trigger_in_range f.show

abbrev pub is_step_in_range : Step → Bool
is_step_in_range s = is_label s.title && list_all is_field_in_range s.fields

-- all texts and numbers of a form are in range
abbrev pub is_in_range : Form → Bool
is_in_range f = list_all is_step_in_range f.steps
