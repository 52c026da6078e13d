-- What is wrong with a form, and which forms are good.
use Rattle.std.specs.Prelude.{ℕ, List, [], ◌∷◌, ◌++◌, ◌==◌, ◌&&◌, ◌||◌, length, nat_lt, Bool, false, not, if◌then◌else◌, Option, Some, None, is_none}
use Rattle.std.specs.List.{list_any}
use Rattle.serde_json.specs.Data.{Data}
use Rattle.wb_base.specs.declared.faults.FormFault.{FormFault}
use Rattle.wb_base.specs.declared.faults.TheConstants.FormFault.{SHAPE, DOUBLE_ID, LATE_TRIGGER, SEALED_TRIGGER, NO_OPTION, TOO_MANY}
use Rattle.wb_base.specs.declared.form.Form.{Form}
use Rattle.wb_base.specs.declared.form.Format.{Format}
use Rattle.wb_base.specs.declared.form.Format.TheVariants.{Plain}
use Rattle.wb_base.specs.declared.form.Field.{Field}
use Rattle.wb_base.specs.declared.form.Choice.{Choice as FieldOption}
use Rattle.wb_base.specs.declared.form.Trigger.{Trigger}
use Rattle.wb_base.specs.declared.form.Trigger.TheVariants.{Always, Any, All, Score}
use Rattle.wb_base.specs.FormFields.{fields_of, is_field, is_option, has_options, options_of, parts_of}
use Rattle.wb_base.specs.FormRanges.{is_in_range}
use Rattle.wb_base.specs.FormShape.{form_by}
use Rattle.wb_base.specs.FormJson.{form_text}

-- ---- rules that judge a field after the fields before it

abbrev pub Rule : Type 0
Rule = List Field → Field → Bool

-- an option's id comes again
abbrev pub has_twice : List FieldOption → Bool
has_twice [] = false
has_twice (o ∷ os) = list_any (is_option o.id) os || has_twice os

-- an earlier field has the id, or an option's id comes twice
abbrev pub is_double : Rule
is_double before f = list_any (is_field f.id) before || has_twice (options_of f.kind)

-- a condition or part names no earlier field
abbrev pub is_late : Rule
is_late before f = list_any (λ c. not (list_any (is_field c.field) before)) (parts_of f.show)

-- a public field's condition or part names an identity field
abbrev pub is_sealed : Rule
is_sealed before f = not f.identity && list_any (λ c. list_any (λ g. is_field c.field g && g.identity) before) (parts_of f.show)

-- a field that takes options has none, or a condition or part names an option that its field has not
abbrev pub lacks_option : Rule
lacks_option before f = (has_options f.kind && (length (options_of f.kind) == 0))
    || list_any (λ c. list_any (λ g. is_field c.field g && not (list_any (is_option c.option) (options_of g.kind))) before) (parts_of f.show)

-- the id of the first field that a rule refuses, after the fields before
abbrev pub first_from : Rule → List Field → List Field → Option (List ℕ)
first_from rule before [] = None
first_from rule before (f ∷ fs) = if rule before f then Some f.id else first_from rule (before ++ f ∷ []) fs

-- the id of the first field that a rule refuses
abbrev pub first_by : Rule → List Field → Option (List ℕ)
first_by rule fs = first_from rule [] fs

-- ---- counts

-- a list of conditions or parts is empty or has more than 16
abbrev pub is_full_trigger : Trigger → Bool
is_full_trigger Always = false
is_full_trigger (Any conds) = (length conds == 0) || nat_lt 16 (length conds)
is_full_trigger (All conds) = (length conds == 0) || nat_lt 16 (length conds)
is_full_trigger (Score least parts) = (length parts == 0) || nat_lt 16 (length parts)

-- more than 64 options, or too many conditions or parts
abbrev pub is_full_field : Field → Bool
is_full_field f = nat_lt 64 (length (options_of f.kind)) || is_full_trigger f.show

-- 1 to 32 steps, 1 to 256 fields in all, and a text of at most 32,768 bytes
abbrev pub is_too_many : Form → Bool
is_too_many f = (length f.steps == 0) || nat_lt 32 (length f.steps)
    || (length (fields_of f.steps) == 0) || nat_lt 256 (length (fields_of f.steps))
    || list_any is_full_field (fields_of f.steps) || nat_lt 32_768 (length (form_text f))

-- ---- the fault of least code, at the first field that has it

-- the fault at the field, or what comes after it
abbrev pub or_else : ℕ → Option (List ℕ) → Option FormFault → Option FormFault
or_else code (Some id) rest = Some (record { code = code; field = id })
or_else code None rest = rest

-- what is wrong with a form
abbrev pub fault_of : Form → Option FormFault
fault_of f = let fs = fields_of f.steps in
    or_else DOUBLE_ID (first_by is_double fs)
    (or_else LATE_TRIGGER (first_by is_late fs)
    (or_else SEALED_TRIGGER (first_by is_sealed fs)
    (or_else NO_OPTION (first_by lacks_option fs)
    (or_else TOO_MANY (if is_too_many f then Some [] else None) None))))

abbrev pub fault_or_shape : Option Form → Option FormFault
fault_or_shape None = Some (record { code = SHAPE; field = [] })
fault_or_shape (Some f) = fault_of f

-- what is wrong with a JSON value as a form in a format
abbrev pub fault_by : Format → Data → Option FormFault
fault_by format d = fault_or_shape (form_by format d)

-- what is wrong with a JSON value as a form that is sent
abbrev pub fault_in : Data → Option FormFault
fault_in = fault_by Plain

-- a form that can be read: in range and without a fault
abbrev pub is_good : Form → Bool
is_good f = is_in_range f && is_none (fault_of f)
