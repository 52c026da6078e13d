-- The host that a text opened, by what the call says that opened it.
use Rattle.std.proofs.Common.{List, ℕ}
use Rattle.wb_base.specs.declared.rows.Row.{Row}
use Rattle.wb_base.specs.Ends.{KeeperEnd, SourceEnd}
use Rattle.wb_model.specs.Past.{Past}
use Rattle.wb_model.specs.Pasts.{AllOpened}
use Rattle.wb_tables.specs.Standing.{Standing, hosts_of}
use Rattle.wb_server.specs.Opens.{Opens}
use Rattle.wb_server.specs.Serves.{IsText, OpensOne}

-- and of a keeper that was honest then where it is honest later
abbrev pub opens_one : (source source' : SourceEnd) (keeper keeper' later : KeeperEnd) (desk : Standing)
    → ((text : List ℕ) × IsText source source' text × ((loaded : List Row) × (start : Past AllOpened) × Opens keeper keeper' loaded text start (hosts_of desk)))
    → (later.honest → keeper'.honest) → OpensOne source source' keeper later desk
opens_one source source' keeper keeper' later desk x back =
    record { text = x.0; is_text = x.1; loaded = x.2.0; were_held = λ honest before held. (x.2.2.kept (back honest) before held).0; start = x.2.1; opened = x.2.2.opened; stands = x.2.2.stands }
