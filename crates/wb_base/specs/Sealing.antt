-- What keeps public fields apart from identity answers.
use Rattle.std.specs.Prelude.{◌≡◌, ℕ, false, Some, slice_get}
use Rattle.wb_base.specs.declared.form.Form.{Form}
use Rattle.wb_base.specs.declared.form.Field.{Field}
use Rattle.wb_base.specs.AnswerList.{Answered}
use Rattle.wb_base.specs.FormFields.{fields_of}
use Rattle.wb_base.specs.ShownFields.{shown_at}
use Rattle.wb_base.specs.AnswerFaults.{public_of}

-- whether a public field is shown hangs on the public answers alone
abbrev pub HangsOnPublicAnswers : Form → Type 0
HangsOnPublicAnswers form = (answers : Answered) (k : ℕ) (field : Field) → slice_get (fields_of form.steps) k ≡ Some field → field.identity ≡ false
    → shown_at form answers k ≡ shown_at form (public_of form answers) k
