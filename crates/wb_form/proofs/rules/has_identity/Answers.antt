use Rattle.std.proofs.Common.{sym}
use Rattle.wb_base.specs.declared.form.Field.{Field}
use Rattle.wb_form.proofs.rules.has_identity.Goals as goal

pub returns-in-Some : goal.returns-in-Some
returns-in-Some c = sym (c.in-Some.ensures (λ (f : Field). f.identity))

pub returns-in-None : goal.returns-in-None
returns-in-None c = sym (c.in-None.ensures (λ (f : Field). f.identity))
