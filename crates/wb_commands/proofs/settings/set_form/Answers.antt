use Rattle.std.proofs.Common.{◌≡◌, true, Ok, sym, ap, ◌∙◌, subst}
use Rattle.wb_base.specs.FormFaults.{is_good}
use Rattle.wb_base.specs.declared.form.Form.{Form}
use Rattle.wb_model.specs.Fits.{fits_form}
use Rattle.wb_model.specs.Settings.{ToForm}
use Rattle.wb_commands.proofs.settings.set_form.Goals as goal

pub returns-in_ok-versioned-in-Ok : goal.returns-in_ok-versioned-in-Ok
returns-in_ok-versioned-in-Ok c =
    let same : c.in_ok-copy_form-in-Ok.field-0 ≡ c.in-Ok.form = c.in_ok-copy_form-in-Ok.ensures in (
      ap (ToForm c.args.f) (ap Ok same ∙ sym c.in-Ok.is),
      subst (λ (x : Form). is_good x ≡ true) (sym same) (subst (λ o. fits_form o ≡ true) c.in-Ok.is c.requires.fits),
      c.in_ok-versioned-in-Ok.ensures c.args.form.now,
    )
