-- A report whose trail is read so far.
use Rattle.std.specs.Prelude.{◌≡◌, true}
use Rattle.wb_model.specs.Access.{requests}
use Rattle.wb_model.specs.Legal.{Reckoning, is_legal, last_at}
use Rattle.wb_rows.specs.declared.open.Open.{Open}
use Rattle.wb_rows.specs.Reports.{Report}

abbrev pub report_of : Open → Report
report_of o = record { tenant = o.tenant; number = o.number; trail = o.case.items }

-- it is legal as a tenant reckons days, and its requests and its last moment are those of its trail
pub record IsOpen (days : Reckoning) (o : Open) : Type 0 where
  pub legal : is_legal days o.case.items ≡ true
  pub requests : o.desk.items ≡ requests o.case.items
  pub last : o.last ≡ last_at 0 o.case.items

-- the same report with the same trail, requests and last moment; room may have been made
pub record IsStill (old new : Open) : Type 0 where
  pub tenant : new.tenant ≡ old.tenant
  pub number : new.number ≡ old.number
  pub trail : new.case.items ≡ old.case.items
  pub requests : new.desk.items ≡ old.desk.items
  pub last : new.last ≡ old.last
