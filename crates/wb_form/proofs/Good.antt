-- Good forms are those that are read, and no public field of one hangs on an identity answer.
use Rattle.std.proofs.Common.{◌≡◌, ◌&&◌, true, Option, Some, None, is_none, refl, ap, ◌∙◌}
use Rattle.std.proofs.lemmas.Bool.{and_parts}
use Rattle.serde_json.specs.Data.{Data}
use Rattle.wb_base.specs.declared.faults.FormFault.{FormFault}
use Rattle.wb_base.specs.declared.form.Form.{Form}
use Rattle.wb_base.specs.declared.form.Format.{Format}
use Rattle.wb_base.specs.declared.form.Format.TheVariants.{Plain}
use Rattle.wb_base.specs.AnswerList.{answer_to}
use Rattle.wb_base.specs.FormFields.{fields_of}
use Rattle.wb_base.specs.FormRanges.{is_in_range}
use Rattle.wb_base.specs.FormShape.{form_by}
use Rattle.wb_base.specs.FormJson.{form_data, form_in}
use Rattle.wb_base.specs.FormFaults.{fault_of, fault_or_shape, fault_in, is_good}
use Rattle.wb_base.specs.AnswerFaults.{public_of}
use Rattle.wb_base.specs.Sealing.{HangsOnPublicAnswers}
use Rattle.wb_base.proofs.GoodForms.{good_parts}
use Rattle.wb_base.proofs.Sealing.{public-same, public-answers}
use Rattle.wb_form.proofs.InRange.{form_in_range}
use Rattle.wb_form.proofs.Back.{back-form}

none-is : (o : Option FormFault) → is_none o ≡ true → o ≡ None
none-is None e = refl
none-is (Some fault) e = absurd cc

pub good-read : (format : Format) (d : Data) (form : Form) → form_by format d ≡ Some form → fault_of form ≡ None → is_good form ≡ true
good-read format d form shape none =
    ap (λ o. is_in_range form && is_none o) none ∙ ap (λ b. b && true) (form_in_range format d form shape)

pub faultless-good : (form : Form) → is_good form ≡ true → fault_of form ≡ None
faultless-good form good = none-is (fault_of form) (and_parts (is_in_range form) (is_none (fault_of form)) good).1

pub back-good : (format : Format) (form : Form) → is_good form ≡ true → form_by format (form_in format form) ≡ Some form
back-good format form good = back-form format form (and_parts (is_in_range form) (is_none (fault_of form)) good).0

pub faultless-back : (form : Form) → is_good form ≡ true → fault_in (form_data form) ≡ None
faultless-back form good = ap fault_or_shape (back-good Plain form good) ∙ faultless-good form good

pub sealed-good : (form : Form) → is_good form ≡ true → HangsOnPublicAnswers form
sealed-good form good = λ answers k field here public.
    let parts = good_parts form good in
    public-same (answer_to answers) (answer_to (public_of form answers)) (fields_of form.steps) (public-answers form answers) parts.in_time parts.unsealed k field here public
