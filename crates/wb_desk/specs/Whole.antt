-- What holds of a host between any two turns.
use Rattle.std.specs.Prelude.{◌≡◌, ℕ, ◌+◌, List, [], ◌∷◌, is_some}
use Rattle.wb_model.specs.Drawn.{numbers_of}
use Rattle.wb_model.specs.Legal.{AreLegal, reckoning}
use Rattle.wb_model.specs.Opened.{entries_of}
use Rattle.wb_model.specs.Tables.{report}
use Rattle.wb_model.specs.Tenants.{Tenancy}
use Rattle.wb_model.specs.Trails.{has_identity}
use Rattle.wb_tables.specs.Standing.{hosts_of}
use Rattle.wb_desk.specs.GoneOn.{IsLater}
use Rattle.wb_desk.specs.Hosted.{Hosted}

-- a tenant's trails are legal at a moment, and identity answers stand exactly where its reports' trails say that some were given
pub record IsWholeAt (now : ℕ) (x : Tenancy) : Type 0 where
  pub legal : AreLegal (reckoning x.tables.plain.registry.settings) now x.tables.plain.cases
  pub sealed : (r : ℕ) → is_some (x.tables.sealed r) ≡ has_identity (entries_of (report r x.tables.plain.cases))

abbrev pub AreWhole : ℕ → List Tenancy → Type 0
AreWhole now [] = Unit {0}
AreWhole now (x ∷ xs) = IsWholeAt now x × AreWhole now xs

-- so it is with each tenant, the books add up, and the host is the one that was opened, gone on by the turns of its book
pub record IsWholeHost (h : Hosted) : Type 0 where
  pub tenants : AreWhole h.desk.time (hosts_of h.desk).list
  pub turns : h.desk.turns ≡ h.opened.turns + h.turns
  pub numbers : numbers_of (hosts_of h.desk) ≡ numbers_of (hosts_of h.opened) + h.numbers
  pub gone_on : IsLater h.opened h.turns h.desk
