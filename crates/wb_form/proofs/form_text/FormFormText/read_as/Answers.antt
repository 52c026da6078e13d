use Rattle.std.proofs.Common.{◌≡◌, None, sym}
use Rattle.serde_json.specs.View.{view}
use Rattle.wb_base.specs.FormFaults.{fault_of}
use Rattle.wb_form.proofs.Good.{good-read, sealed-good}
use Rattle.wb_form.proofs.form_text.FormFormText.read_as.Goals as goal

pub returns-in-Ok-None-clause-good : goal.returns-in-Ok-None-clause-good
returns-in-Ok-None-clause-good c =
    let none : fault_of c.in-Ok.form ≡ None = sym (rw c.in-Ok-None.field-0-is at c.in-Ok-None.ensures.value) in
    good-read c.args.format (view c.args.value.now) c.in-Ok.form c.in-Ok.ensures.ok none

pub returns-in-Ok-None-clause-sealed : goal.returns-in-Ok-None-clause-sealed
returns-in-Ok-None-clause-sealed c = sealed-good c.in-Ok.form (returns-in-Ok-None-clause-good c)
