-- What was read so far with what is left is all.
use Rattle.std.proofs.Common.{◌≡◌, ◌++◌, drop, option_map}
use Rattle.wb_setup.specs.Rules.{forms_of}
use Rattle.wb_setup.proofs.rules.read_forms.Given as goal

abbrev pub invariant-loop-tenant : goal.invariant-loop-tenant
invariant-loop-tenant l = forms_of l.tenants ≡ option_map (λ xs. l.forms ++ xs) (forms_of (drop l.tenant-index l.tenants))
