-- What no past tells of a desk's tenants.
use Rattle.std.specs.Prelude.{◌≤◌, ◌<◌, ℕ, List, [], ◌∷◌}
use Rattle.wb_base.specs.Days.{IsOffset}
use Rattle.wb_tables.specs.Kept.{PlainTenancy}
use Rattle.wb_tables.specs.Places.{AreGoodForms}

-- a tenant's id is at most 64, its offset is in range, and its forms are good
pub record IsSetUpRight (x : PlainTenancy) : Type 0 where
  pub id : x.id ≤ 64
  pub offset : IsOffset x.plain.registry.settings.offset
  pub forms : AreGoodForms x.plain.registry.forms

-- the tenants ascend by their ids, from one that is above k
abbrev pub AreSetUpRight : ℕ → List PlainTenancy → Type 0
AreSetUpRight k [] = Unit {0}
AreSetUpRight k (x ∷ xs) = ((k < x.id) × IsSetUpRight x) × AreSetUpRight x.id xs
