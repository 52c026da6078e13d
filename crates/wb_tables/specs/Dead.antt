-- The reports that are held and are not live, and what is dropped of the kept rows.
use Rattle.std.specs.Prelude.{◌≡◌, ℕ, ◌==◌, ◌&&◌, not, Bool, List, ◌++◌, map}
use Rattle.std.specs.List.{list_any}
use Rattle.wb_base.specs.declared.rows.Change.{Change as RowChange}
use Rattle.wb_base.specs.declared.rows.Change.TheVariants.{DropReport}
use Rattle.wb_model.specs.Tables.{Plain, has_number, is_live}
use Rattle.wb_tables.specs.Kept.{PlainTenancy}

-- a report is held that is not live
abbrev pub has_dead : ℕ → Plain → Bool
has_dead now p = list_any (λ c. not (is_live p.registry.settings now c)) p.cases

-- so it is at some tenant
abbrev pub any_dead : ℕ → List PlainTenancy → Bool
any_dead now xs = list_any (λ (x : PlainTenancy). has_dead now x.plain) xs

-- these are the numbers of the reports that are not live, in whatever order
abbrev pub AreDead : ℕ → Plain → List ℕ → Type 0
AreDead now p ns = (n : ℕ) → list_any (λ m. m == n) ns ≡ list_any (λ c. has_number n c && not (is_live p.registry.settings now c)) p.cases

-- the reports of a tenant that are not live are to be dropped besides
pub record AreDropped (now : ℕ) (x : PlainTenancy) (old new : List RowChange) : Type 0 where
  pub numbers : List ℕ
  pub dead : AreDead now x.plain numbers
  pub pushed : new ≡ old ++ map (λ n. DropReport x.id n) numbers
