-- A report's requests, and the room that was made for one more.
use Rattle.std.specs.Prelude.{◌≡◌, ◌<◌, ℕ, Bool, List, Option, Some}
use Rattle.std.specs.List.{list_all}
use Rattle.wb_model.specs.declared.access.AccessRequest.{AccessRequest}
use Rattle.wb_model.specs.declared.entry.Entry.{Entry}
use Rattle.wb_model.specs.declared.entry.Deed.{Deed}
use Rattle.wb_model.specs.declared.entry.Deed.TheVariants as deeds
use Rattle.wb_model.specs.Legal.{right_actor}

-- the requests, how many more have a place without memory, and the copy of a reason that is ready for one
pub record Desk : Type 0 where
  pub items : List AccessRequest
  pub spare : ℕ
  pub ready : Option (List ℕ)

-- there is room for a deed: an ask needs a place and a copy of its reason, and no other needs any
abbrev pub HasRoom : Desk → Deed → Type 0
HasRoom desk (deeds.Asked reason stamp) = (0 < desk.spare) × (desk.ready ≡ Some reason)
HasRoom desk _ = Unit {0}

-- each entry is by whom it may be
abbrev pub have_right_actors : List Entry → Bool
have_right_actors trail = list_all (λ (e : Entry). right_actor e.deed e.by) trail
