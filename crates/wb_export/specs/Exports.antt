-- What a call did that writes a text over kept rows.
use Rattle.std.specs.Prelude.{◌≡◌, ℕ, ℤ, Bool, true, false, ◌&&◌, max, List, find, is_some}
use Rattle.std.specs.Option.{option_map_or}
use Rattle.std.specs.Io.KnownBytes.{Appends, Keeps}
use Rattle.wb_base.specs.Outside.{AppendsFront, Rose}
use Rattle.wb_base.specs.declared.callers.Role.TheVariants.{Recipient}
use Rattle.wb_model.specs.Openings.{registry_of}
use Rattle.wb_model.specs.Tables.{user, same_role}
use Rattle.wb_tenants.specs.Sets.{is_tenant}
use Rattle.wb_rows.specs.Held.{Held}
use Rattle.wb_rows.specs.Openings.{cases_of, time_of}
use Rattle.wb_cli.specs.declared.status.Status.{Status}
use Rattle.wb_cli.specs.declared.status.Status.TheVariants.{Done, WriteFault, NotThere}
use Rattle.wb_cli.specs.Loads.{AreRead, ReadsNone}
use Rattle.wb_export.specs.declared.forecasts.Expiring.{Expiring}
use Rattle.wb_export.specs.Forecasts.{IsForecast, forecast_text}
use Rattle.wb_export.specs.Registers.{register_text}
use Rattle.wb_base.specs.Ends.{KeeperEnd, SinkEnd}

-- the time of a call: its moment, or the greatest that is kept
abbrev pub time_at : ℕ → Held → ℕ
time_at moment kept = max moment (time_of kept)

-- a tenant is there
abbrev pub has_tenant : ℕ → Held → Bool
has_tenant t kept = is_some (find (is_tenant t) kept.lists.tenants)

-- a tenant is there, and a user of it, who is a recipient
abbrev pub has_recipient : ℕ → ℕ → Held → Bool
has_recipient t u kept = has_tenant t kept && option_map_or (λ x. same_role x.role Recipient) (user u (registry_of kept.lists t).users) false

-- the register of a tenant's user at a moment
abbrev pub IsRegisterOf : ℕ → ℕ → ℕ → Held → List ℕ → Type 0
IsRegisterOf t u moment kept text = text ≡ register_text (registry_of kept.lists t) (time_at moment kept) u (cases_of kept.reports t)

-- what expires of a tenant by a day
abbrev pub IsForecastOf : ℕ → ℤ → Held → List ℕ → Type 0
IsForecastOf t day kept text = (found : List Expiring) × IsForecast day (cases_of kept.reports t) found × (text ≡ forecast_text found)

-- the keeper's and the sink's ends before and now; what is to be there; and what is written
module _ (keeper keeper' : KeeperEnd) (sink sink' : SinkEnd) (is_there : Held → Bool) (IsText : Held → List ℕ → Type 0) where
  -- the rows are read, and this is how it is there
  pub record Looked (is : Bool) : Type 0 where
    pub kept : Held
    pub read : AreRead keeper keeper' kept
    pub there : is_there kept ≡ is

  -- what the call did, by its status
  abbrev pub Exported : Status → Type 0
  Exported Done = (looked : Looked true) × ((text : List ℕ) × IsText looked.kept text × Appends sink.held sink'.held text)
  Exported WriteFault = (looked : Looked true) × Rose sink.count sink'.count × ((text : List ℕ) × IsText looked.kept text × AppendsFront sink.held sink'.held text)
  Exported NotThere = Looked false × Keeps sink.held sink'.held
  Exported status = ReadsNone keeper keeper' status × Keeps sink.held sink'.held
