-- The rows of the hosts that a desk stands for are read as what they hold.
use Rattle.std.proofs.Common.{◌≡◌, ◌∙◌, sym, subst}
use Rattle.std.specs.Prelude.{Ok}
use Rattle.wb_desk.specs.Desks.{IsDesk}
use Rattle.wb_desk.specs.Turns.{StandsFor}
use Rattle.wb_model.specs.Past.{Past}
use Rattle.wb_model.specs.Pasts.{AllOpened}
use Rattle.wb_model.specs.Rows.{rows, rows_of}
use Rattle.wb_model.specs.Tenants.{Hosts}
use Rattle.wb_rows.specs.Judged.{judged}
use Rattle.wb_rows.specs.Left.{left, held_of, IsReadBack}
use Rattle.wb_tables.specs.Standing.{Standing, hosts_of}

module _ (read : (past : Past AllOpened) → IsReadBack past → judged (rows past) ≡ Ok (left past)) where
  pub left_are_read : (desk : Standing) (past : Past AllOpened) → IsDesk desk → StandsFor (hosts_of desk) past → judged (rows past) ≡ Ok (left past)
  left_are_read desk past is stands =
      subst (λ (h : Hosts). judged (rows_of h.list) ≡ Ok (held_of h.list)) (sym is.past.stands ∙ stands) (read is.past.past is.past.read_back)
