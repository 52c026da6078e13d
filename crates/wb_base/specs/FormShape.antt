-- The form that a JSON value (RFC 8259) is built as, if it is built as one.
use Rattle.std.specs.Prelude.{ℕ, ◌+◌, List, [], ◌∷◌, ◌==◌, Bool, true, false, if◌then◌else◌, Option, Some, None, is_some, is_none, option_map, option_and_then, codes}
use Rattle.serde_json.specs.Data.{Data, null, boolean, number, string, array, object, Items, no_items, item}
use Rattle.serde_json.specs.Events.{members_len}
use Rattle.serde_json.specs.Find.{get, as_str, as_bool, as_number, as_u64, as_array}
use Rattle.wb_base.specs.declared.form.Form.{Form}
use Rattle.wb_base.specs.declared.form.Step.{Step}
use Rattle.wb_base.specs.declared.form.Field.{Field}
use Rattle.wb_base.specs.declared.form.FieldKind.{FieldKind}
use Rattle.wb_base.specs.declared.form.FieldKind.TheVariants.{Text as TextKind, Choice as ChoiceKind, Multi as MultiKind, Date, Check, Whole, File}
use Rattle.wb_base.specs.declared.form.Choice.{Choice as FieldOption}
use Rattle.wb_base.specs.declared.form.Trigger.{Trigger}
use Rattle.wb_base.specs.declared.form.Trigger.TheVariants.{Always, Any, All, Score}
use Rattle.wb_base.specs.declared.form.Cond.{Cond}
use Rattle.wb_base.specs.declared.form.Part.{Part}
use Rattle.wb_base.specs.declared.form.Format.{Format}
use Rattle.wb_base.specs.declared.form.Format.TheVariants.{Plain, Weighed}
use Rattle.wb_base.specs.AnswerList.{is_text}
use Rattle.wb_base.specs.FormRanges.{is_id, is_label, is_max, are_points, is_least}

-- ---- objects of given keys

-- how many members an object has
abbrev pub size : Data → ℕ
size (object ms) = members_len ms
size null = 0
size (boolean b) = 0
size (number n) = 0
size (string s) = 0
size (array ds) = 0

-- how many of the keys are there
abbrev pub count_of : List (List ℕ) → Data → ℕ
count_of [] d = 0
count_of (k ∷ ks) d = (if is_some (get k d) then 1 else 0) + count_of ks d

-- no other key is there
abbrev pub has_only : List (List ℕ) → Data → Bool
has_only keys d = size d == count_of keys d

-- the value, where it passes
abbrev pub keep : {X : Type 0} → (X → Bool) → X → Option X
keep test x = if test x then Some x else None

-- any text
abbrev pub is_any : List ℕ → Bool
is_any s = true

-- the text under a key, where it passes
abbrev pub text_at : (List ℕ → Bool) → List ℕ → Data → Option (List ℕ)
text_at test k d = option_and_then (keep test) (option_and_then as_str (get k d))

-- what is read of a value that may be left out
abbrev pub optional : {X : Type 0} → X → (Data → Option X) → Option Data → Option X
optional x read None = Some x
optional x read (Some d) = read d

-- the truth value under a key, false where it is left out
abbrev pub flag_at : List ℕ → Data → Option Bool
flag_at k d = optional false as_bool (get k d)

-- what is read of each value
abbrev pub all_of : {X : Type 0} → (Data → Option X) → Items → Option (List X)
all_of read no_items = Some []
all_of read (item d ds) = option_and_then (λ x. option_map (λ xs. x ∷ xs) (all_of read ds)) (read d)

-- what is read of each value of a list
abbrev pub list_of : {X : Type 0} → (Data → Option X) → Data → Option (List X)
list_of read d = option_and_then (all_of read) (as_array d)

-- ---- the parts of a form

-- `{"id", "label"}`
abbrev pub option_of : Data → Option FieldOption
option_of d = if size d == 2 then
    option_and_then (λ id. option_map (λ label. record { id = id; label = label })
    (text_at is_label (codes "label") d)) (text_at is_id (codes "id") d) else None

-- `{"field", "option"}`
abbrev pub cond_of : Data → Option Cond
cond_of d = if size d == 2 then
    option_and_then (λ field. option_map (λ o. record { field = field; option = o })
    (text_at is_any (codes "option") d)) (text_at is_any (codes "field") d) else None

-- the number under a key, where it passes
abbrev pub number_at : (ℕ → Bool) → List ℕ → Data → Option ℕ
number_at test k d = option_and_then (keep test) (option_and_then as_u64 (option_and_then as_number (get k d)))

-- `{"field", "option", "points"}`
abbrev pub part_of : Data → Option Part
part_of d = if size d == 3 then
    option_and_then (λ field. option_and_then (λ o. option_map (λ points. record { field = field; option = o; points = points })
    (number_at are_points (codes "points") d)) (text_at is_any (codes "option") d)) (text_at is_any (codes "field") d) else None

-- the list under `parts`
abbrev pub parts_at : {X : Type 0} → (Data → Option X) → Data → Option (List X)
parts_at read d = option_and_then (list_of read) (get (codes "parts") d)

-- a score by `least` and `parts`
abbrev pub score_of : Data → Option Trigger
score_of d = option_and_then (λ least. option_map (λ parts. Score least parts) (parts_at part_of d)) (number_at is_least (codes "least") d)

-- `{"least", "parts"}`
abbrev pub plain_score_of : Data → Option Trigger
plain_score_of d = if size d == 2 then score_of d else None

-- a condition that is told as a part: its point is not looked at
abbrev pub one_of : Data → Option Cond
one_of d = option_map (λ p. record { field = p.field; option = p.option }) (part_of d)

abbrev pub cond_by : Format → Data → Option Cond
cond_by Plain = cond_of
cond_by Weighed = one_of

-- `{"any": [..]}`, `{"all": [..]}` or `{"score": {..}}`
abbrev pub plain_trigger_of : Data → Option Trigger
plain_trigger_of d = if size d == 1 then
    (if is_some (get (codes "any") d) then option_map Any (option_and_then (list_of (cond_by Plain)) (get (codes "any") d))
    else if is_some (get (codes "all") d) then option_map All (option_and_then (list_of (cond_by Plain)) (get (codes "all") d))
    else option_and_then plain_score_of (get (codes "score") d)) else None

-- a trigger by its mode; what any and all of its conditions want is not looked at
abbrev pub moded : Data → List ℕ → Option Trigger
moded d mode =
    if is_text mode (codes "any") then option_map Any (parts_at (cond_by Weighed) d)
    else if is_text mode (codes "all") then option_map All (parts_at (cond_by Weighed) d)
    else if is_text mode (codes "score") then score_of d
    else None

-- `{"least", "mode", "parts"}`
abbrev pub weighed_trigger_of : Data → Option Trigger
weighed_trigger_of d = if size d == 3 then option_and_then (moded d) (option_and_then as_str (get (codes "mode") d)) else None

abbrev pub trigger_by : Format → Data → Option Trigger
trigger_by Plain = plain_trigger_of
trigger_by Weighed = weighed_trigger_of

-- a field without `show` is always shown
abbrev pub show_at : Format → Data → Option Trigger
show_at format d = optional Always (trigger_by format) (get (codes "show") d)

abbrev pub max_of : Data → Option ℕ
max_of d = option_and_then (keep is_max) (option_and_then as_u64 (as_number d))

-- a text without `max` has at most 4,096 bytes
abbrev pub max_at : Data → Option ℕ
max_at d = optional 4096 max_of (get (codes "max") d)

abbrev pub options_at : Data → Option (List FieldOption)
options_at d = optional [] (list_of option_of) (get (codes "options") d)

-- the kinds that have no key of their own
abbrev pub plain_kind : List ℕ → Option FieldKind
plain_kind name =
    if is_text name (codes "date") then Some Date
    else if is_text name (codes "check") then Some Check
    else if is_text name (codes "whole") then Some Whole
    else if is_text name (codes "file") then Some File
    else None

-- the kind of a name: text alone may have `max`, choice and multi alone `options`
abbrev pub kind_named : Data → List ℕ → Option FieldKind
kind_named d name =
    if is_text name (codes "text") then (if is_none (get (codes "options") d) then option_map TextKind (max_at d) else None)
    else if is_some (get (codes "max") d) then None
    else if is_text name (codes "choice") then option_map ChoiceKind (options_at d)
    else if is_text name (codes "multi") then option_map MultiKind (options_at d)
    else if is_some (get (codes "options") d) then None
    else plain_kind name

abbrev pub kind_of : Data → Option FieldKind
kind_of d = option_and_then (kind_named d) (option_and_then as_str (get (codes "kind") d))

abbrev pub field_keys : List (List ℕ)
field_keys = codes "id" ∷ codes "label" ∷ codes "kind" ∷ codes "required" ∷ codes "identity" ∷ codes "max" ∷ codes "options" ∷ codes "show" ∷ []

abbrev pub field_by : Format → Data → Option Field
field_by format d = if has_only field_keys d then
    option_and_then (λ id. option_and_then (λ label. option_and_then (λ kind. option_and_then (λ required. option_and_then (λ identity. option_map (λ show.
    record { id = id; label = label; kind = kind; required = required; identity = identity; show = show })
    (show_at format d)) (flag_at (codes "identity") d)) (flag_at (codes "required") d)) (kind_of d)) (text_at is_label (codes "label") d)) (text_at is_id (codes "id") d) else None

-- `{"title", "fields"}`
abbrev pub step_by : Format → Data → Option Step
step_by format d = if size d == 2 then
    option_and_then (λ title. option_map (λ fields. record { title = title; fields = fields })
    (option_and_then (list_of (field_by format)) (get (codes "fields") d))) (text_at is_label (codes "title") d) else None

-- `{"steps": [..]}`
abbrev pub form_by : Format → Data → Option Form
form_by format d = if size d == 1 then
    option_map (λ steps. record { steps = steps }) (option_and_then (list_of (step_by format)) (get (codes "steps") d)) else None

-- a form as it is sent and shown
abbrev pub form_of : Data → Option Form
form_of = form_by Plain

-- a form as it is kept
abbrev pub kept_form_of : Data → Option Form
kept_form_of = form_by Weighed
