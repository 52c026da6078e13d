-- What was read so far with what is left is all.
use Rattle.std.proofs.Common.{◌≡◌, ◌++◌, drop, option_map}
use Rattle.wb_setup.specs.Rules.{first_versions}
use Rattle.wb_setup.proofs.rules.push_forms.Given as goal

abbrev pub invariant-loop-form : goal.invariant-loop-form
invariant-loop-form l = option_map (λ xs. l.initial.forms ++ xs) (first_versions l.tenant l.given) ≡ option_map (λ xs. l.forms ++ xs) (first_versions l.tenant (drop l.form-index l.given))
