-- What an administrator asks to set that is not there.
use Rattle.std.proofs.Common.{◌≡◌, ℕ, ◌≤◌, Bool, true, false, Some, refl, sym, ap, ◌∙◌, arith}
use Rattle.std.specs.Prelude.{nat_le, ◌&&◌}
use Rattle.std.proofs.lemmas.Bool.Decides.{nat_tests}
use Rattle.wb_model.specs.declared.command.UserSet.{UserSet}
use Rattle.wb_model.specs.Faults.{admin_told}
use Rattle.wb_model.specs.Refusals.{not_found}
use Rattle.wb_model.specs.Settings as settings
use Rattle.wb_model.specs.Settings.{Proposal, in_range, proposal_refusal}
use Rattle.wb_model.specs.Tables.{Registry}
use Rattle.wb_commands.specs.declared.draft.Draft.{Draft}
use Rattle.wb_commands.specs.declared.draft.Draft.TheVariants as steps
use Rattle.wb_commands.specs.Steps.{IsProposed, IsTold}

pub told_proposed : (g : Registry) (next : Proposal) (step : Draft) → proposal_refusal g next ≡ Some not_found → IsTold not_found step → IsProposed g next step
told_proposed g next (steps.Done plan) e is = (e ∙ ap Some (sym is.0), is.1)
told_proposed g next (steps.Writes w) e is = absurd is
told_proposed g next (steps.Sets s) e is = absurd is

-- no user has a number out of range
pub no_user : (g : Registry) (u : ℕ) (next : UserSet) → ((1 ≤ u) × (u ≤ 256) → ⊥) → proposal_refusal g (settings.ToUser u next) ≡ Some not_found
unfolding admin_told
no_user g u next out = (let no : in_range 256 u ≡ false = range (nat_le 1 u) (nat_le u 256) refl refl in rw no refl)
  where
    range : (a b : Bool) → nat_le 1 u ≡ a → nat_le u 256 ≡ b → (a && b) ≡ false
    range true true e f = absurd (out (grind (arith, nat_tests, e), grind (arith, nat_tests, f)))
    range true false e f = refl
    range false b e f = refl
