use Rattle.wb_base.specs.declared.form.Format.TheVariants.{Plain}
use Rattle.wb_base.specs.FormJson.{form_data}
use Rattle.wb_form.proofs.Good.{back-good, faultless-good, good-read}
use Rattle.wb_form.proofs.laws.good_forms_are_those_that_are_read.Goals as goal

pub returns-clause-read : goal.returns-clause-read
returns-clause-read c = λ form good. (form_data form, back-good Plain form good, faultless-good form good)

pub returns-clause-good : goal.returns-clause-good
returns-clause-good c = good-read Plain
