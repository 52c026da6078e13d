-- The JSON value of a full form, with defaults written, and its text.
use Rattle.std.specs.Prelude.{ℕ, List, map, codes, Option, Some, None}
use Rattle.serde_json.specs.Data.{Data, boolean, number, string, array, object, unsigned, Members, no_members, put}
use Rattle.serde_json.specs.View.{items_of}
use Rattle.serde_json.specs.Written.{compact_text}
use Rattle.wb_base.specs.declared.form.Form.{Form}
use Rattle.wb_base.specs.declared.form.Step.{Step}
use Rattle.wb_base.specs.declared.form.Field.{Field}
use Rattle.wb_base.specs.declared.form.FieldKind.{FieldKind}
use Rattle.wb_base.specs.declared.form.FieldKind.TheVariants.{Text, Choice, Multi, Date, Check, Whole, File}
use Rattle.wb_base.specs.declared.form.Choice.{Choice as FieldOption}
use Rattle.wb_base.specs.declared.form.Trigger.{Trigger}
use Rattle.wb_base.specs.declared.form.Trigger.TheVariants.{Always, Any, All, Score}
use Rattle.wb_base.specs.declared.form.Cond.{Cond}
use Rattle.wb_base.specs.declared.form.Part.{Part}
use Rattle.wb_base.specs.declared.form.Format.{Format}
use Rattle.wb_base.specs.declared.form.Format.TheVariants.{Plain, Weighed}
use Rattle.wb_base.specs.FormFields.{parts_of, least_of}

abbrev pub option_data : FieldOption → Data
option_data o = object (put (codes "label") (string o.label) (put (codes "id") (string o.id) no_members))

abbrev pub cond_data : Cond → Data
cond_data c = object (put (codes "option") (string c.option) (put (codes "field") (string c.field) no_members))

abbrev pub conds_data : List Cond → Data
conds_data conds = array (items_of (map cond_data conds))

abbrev pub part_data : Part → Data
part_data p = object (put (codes "points") (number (unsigned p.points)) (put (codes "option") (string p.option) (put (codes "field") (string p.field) no_members)))

abbrev pub parts_data : List Part → Data
parts_data parts = array (items_of (map part_data parts))

-- what a trigger wants: `least` and `parts`
abbrev pub score_members : Trigger → Members
score_members t = put (codes "parts") (parts_data (parts_of t)) (put (codes "least") (number (unsigned (least_of t))) no_members)

abbrev pub kind_name : FieldKind → List ℕ
kind_name (Text max) = codes "text"
kind_name (Choice options) = codes "choice"
kind_name (Multi options) = codes "multi"
kind_name Date = codes "date"
kind_name Check = codes "check"
kind_name Whole = codes "whole"
kind_name File = codes "file"

-- the members that a kind has of its own
abbrev pub put_kind : FieldKind → Members → Members
put_kind (Text max) ms = put (codes "max") (number (unsigned max)) ms
put_kind (Choice options) ms = put (codes "options") (array (items_of (map option_data options))) ms
put_kind (Multi options) ms = put (codes "options") (array (items_of (map option_data options))) ms
put_kind Date ms = ms
put_kind Check ms = ms
put_kind Whole ms = ms
put_kind File ms = ms

-- `show` as a form is sent and shown: left out where the field is always shown
abbrev pub plain_show : Trigger → Option Data
plain_show Always = None
plain_show (Any conds) = Some (object (put (codes "any") (conds_data conds) no_members))
plain_show (All conds) = Some (object (put (codes "all") (conds_data conds) no_members))
plain_show (Score least parts) = Some (object (put (codes "score") (object (score_members (Score least parts))) no_members))

-- `{"least", "mode", "parts"}`
abbrev pub weighed_data : List ℕ → Trigger → Data
weighed_data mode t = object (put (codes "mode") (string mode) (score_members t))

-- `show` as a form is kept
abbrev pub weighed_show : Trigger → Option Data
weighed_show Always = None
weighed_show (Any conds) = Some (weighed_data (codes "any") (Any conds))
weighed_show (All conds) = Some (weighed_data (codes "all") (All conds))
weighed_show (Score least parts) = Some (weighed_data (codes "score") (Score least parts))

abbrev pub show_in : Format → Trigger → Option Data
show_in Plain = plain_show
show_in Weighed = weighed_show

-- a member that may be left out
abbrev pub put_some : List ℕ → Option Data → Members → Members
put_some k None ms = ms
put_some k (Some d) ms = put k d ms

abbrev pub field_in : Format → Field → Data
field_in format f = object (put_some (codes "show") (show_in format f.show) (put_kind f.kind
    (put (codes "required") (boolean f.required) (put (codes "label") (string f.label) (put (codes "kind") (string (kind_name f.kind))
    (put (codes "identity") (boolean f.identity) (put (codes "id") (string f.id) no_members)))))))

abbrev pub step_in : Format → Step → Data
step_in format s = object (put (codes "title") (string s.title) (put (codes "fields") (array (items_of (map (field_in format) s.fields))) no_members))

abbrev pub form_in : Format → Form → Data
form_in format f = object (put (codes "steps") (array (items_of (map (step_in format) f.steps))) no_members)

-- as a form is shown
abbrev pub form_data : Form → Data
form_data = form_in Plain

-- as a form is kept
abbrev pub kept_data : Form → Data
kept_data = form_in Weighed

-- the compact text of the full form
unfoldable pub form_text : Form → List ℕ
form_text f = compact_text (form_data f)
