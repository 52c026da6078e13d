-- The fields of a form in form order, their ids and options, and what their triggers ask.
use Rattle.std.specs.Prelude.{ℕ, List, [], ◌∷◌, ◌++◌, length, map, Bool, true, false}
use Rattle.std.specs.List.{list_any}
use Rattle.wb_base.specs.AnswerList.{is_text}
use Rattle.wb_base.specs.declared.form.Form.{Form}
use Rattle.wb_base.specs.declared.form.Step.{Step}
use Rattle.wb_base.specs.declared.form.Field.{Field}
use Rattle.wb_base.specs.declared.form.FieldKind.{FieldKind}
use Rattle.wb_base.specs.declared.form.FieldKind.TheVariants.{Text, Choice, Multi, Date, Check, Whole, File}
use Rattle.wb_base.specs.declared.form.Choice.{Choice as FieldOption}
use Rattle.wb_base.specs.declared.form.Trigger.{Trigger}
use Rattle.wb_base.specs.declared.form.Trigger.TheVariants.{Always, Any, All, Score}
use Rattle.wb_base.specs.declared.form.Cond.{Cond}
use Rattle.wb_base.specs.declared.form.Part.{Part}

-- the fields, step by step
abbrev pub fields_of : List Step → List Field
fields_of [] = []
fields_of (step ∷ steps) = step.fields ++ fields_of steps

-- the field has the id
abbrev pub is_field : List ℕ → Field → Bool
is_field id f = is_text f.id id

-- the option has the id
abbrev pub is_option : List ℕ → FieldOption → Bool
is_option id o = is_text o.id id

-- the kind takes options
abbrev pub has_options : FieldKind → Bool
has_options (Text max) = false
has_options (Choice options) = true
has_options (Multi options) = true
has_options Date = false
has_options Check = false
has_options Whole = false
has_options File = false

-- the options of a kind, none where it takes none
abbrev pub options_of : FieldKind → List FieldOption
options_of (Text max) = []
options_of (Choice options) = options
options_of (Multi options) = options
options_of Date = []
options_of Check = []
options_of Whole = []
options_of File = []

-- a condition as a part of one point
abbrev pub one_point : Cond → Part
one_point c = record { field = c.field; option = c.option; points = 1 }

-- what a trigger asks of earlier fields, with the points that each part gives
abbrev pub parts_of : Trigger → List Part
parts_of Always = []
parts_of (Any conds) = map one_point conds
parts_of (All conds) = map one_point conds
parts_of (Score least parts) = parts

-- the points that a trigger wants: one for any of its conditions, one each for all of them
abbrev pub least_of : Trigger → ℕ
least_of Always = 0
least_of (Any conds) = 1
least_of (All conds) = length conds
least_of (Score least parts) = least

-- a trigger counts points of its own
abbrev pub is_scored : Trigger → Bool
is_scored Always = false
is_scored (Any conds) = false
is_scored (All conds) = false
is_scored (Score least parts) = true

-- some field is scored
abbrev pub has_score : Form → Bool
has_score form = list_any (λ f. is_scored f.show) (fields_of form.steps)
