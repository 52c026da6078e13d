-- What public answers tell by themselves.
use Rattle.std.specs.Prelude.{◌≡◌, ℕ, false, Some, slice_get, Option}
use Rattle.wb_base.specs.declared.form.Form.{Form}
use Rattle.wb_base.specs.declared.form.Field.{Field}
use Rattle.wb_base.specs.AnswerList.{Answered, answer_to}
use Rattle.wb_base.specs.FormFields.{fields_of}
use Rattle.wb_base.specs.AnswerFaults.{is_marked, public_of, field_fault}
use Rattle.wb_base.specs.ShownFields.{shown_at}

-- the public answers are the same, and both or neither answer an identity field
abbrev pub AreAlike : Form → Answered → Answered → Type 0
AreAlike form a b = (public_of form a ≡ public_of form b) × (is_marked form a ≡ is_marked form b)

-- the field is that at a place of the form, and is no identity field
abbrev pub IsPublicField : Form → ℕ → Field → Type 0
IsPublicField form k field = (slice_get (fields_of form.steps) k ≡ Some field) × (field.identity ≡ false)

-- the fault of a field at a place of the form
abbrev pub fault_in : Form → Answered → ℕ → Field → Option ℕ
fault_in form a k field = field_fault (shown_at form a k) (is_marked form a) field (answer_to a field.id)
