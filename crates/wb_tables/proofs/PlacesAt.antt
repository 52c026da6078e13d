-- A tenant at its place among all tenants.
use Rattle.std.proofs.Common.{ℕ, ◌<◌, List, [], ◌∷◌, length, map, get_or, zero, suc, arith}
use Rattle.wb_custody.specs.declared.sealed.SealedItem.{SealedItem}
use Rattle.wb_tables.specs.Kept.{place_of}
use Rattle.wb_tables.specs.Places.{IsPlace, ArePlaces}
use Rattle.wb_tables.specs.declared.tenancy.Tenancy.{Tenancy as KeptTenancy}

pub place_at : (turns k i : ℕ) (items : List SealedItem) (ks : List KeptTenancy) (d : KeptTenancy) → ArePlaces turns k items (map place_of ks) → i < length ks → IsPlace turns items (place_of (get_or ks i d))
place_at turns k i items [] d all lt = absurd (omega arith)
place_at turns k zero items (x ∷ ks) d all lt = all.0.1
place_at turns k (suc i) items (x ∷ ks) d all lt = place_at turns x.configuration.tenant i items ks d all.1 (omega arith)
