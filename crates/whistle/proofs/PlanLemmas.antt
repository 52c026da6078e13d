-- What two equal plans have in common, and what one that exports comes to.
use Rattle.std.proofs.Common.{ℕ, ℤ, pos, ◌≡◌, ◌≢◌, List, Option, Bool, ap, subst}
use Rattle.wb_rows.specs.Held.{Held}
use Rattle.wb_cli.specs.declared.plans.Plan.{Plan}
use Rattle.wb_cli.specs.declared.plans.Plan.TheVariants.{Register, Forecast}
use Rattle.wb_cli.specs.declared.status.Status.{Status}
use Rattle.wb_cli.specs.declared.status.Status.TheVariants.{Usage}
use Rattle.wb_export.specs.Exports.{Exported}
use Rattle.wb_base.specs.Ends.{KeeperEnd, SinkEnd}

abbrev tenant_in : Plan → ℕ
tenant_in (Register t u m s) = t
tenant_in (Forecast t d s) = t
tenant_in p = 0

abbrev user_in : Plan → ℕ
user_in (Register t u m s) = u
user_in p = 0

abbrev moment_in : Plan → ℕ
moment_in (Register t u m s) = m
moment_in p = 0

abbrev day_in : Plan → ℤ
day_in (Forecast t d s) = d
day_in p = pos 0

pub same_register : (t u m t' u' m' : ℕ) (s s' : Option (List ℕ)) → Register t u m s ≡ Register t' u' m' s' → (t ≡ t') × (u ≡ u') × (m ≡ m')
same_register t u m t' u' m' s s' e = (ap tenant_in e, ap user_in e, ap moment_in e)

pub same_forecast : (t t' : ℕ) (d d' : ℤ) (s s' : Option (List ℕ)) → Forecast t d s ≡ Forecast t' d' s' → (t ≡ t') × (d ≡ d')
same_forecast t t' d d' s s' e = (ap tenant_in e, ap day_in e)

-- a call that exports never says that the words are no form
pub exports_forms : (keeper keeper' : KeeperEnd) (sink sink' : SinkEnd) (is_there : Held → Bool) (IsText : Held → List ℕ → Type 0) (status : Status)
    → Exported keeper keeper' sink sink' is_there IsText status → status ≢ Usage
exports_forms keeper keeper' sink sink' is_there IsText status did is =
    let said = subst (λ (s : Status). Exported keeper keeper' sink sink' is_there IsText s) is did in said.0
