-- Told rows of a file that may not be open yet.
use Rattle.std.proofs.Common.{List, Option, Some, None}
use Rattle.std.specs.List.{AllByRecursion}
use Rattle.sqlite_trees.specs.declared.store.Store.{Ghosts}
use Rattle.sqlite.specs.Held.{Held}
use Rattle.wb_base.specs.declared.rows.Row.{Row}
use Rattle.wb_base.specs.declared.rows.Change.{Change}
use Rattle.wb_base.specs.KeptRows.{all_changed, IsGoodChange}
use Rattle.wb_sqlite.specs.NewFiles.{IsHonestIfOpen, HoldsIfOpen}
use Rattle.wb_sqlite.specs.Statements.{CommitsOpen, KeepsOpen}
use Rattle.wb_sqlite.proofs.Batches.{commits_hold, kept_hold}

module _ {S : Type 0} (g : Ghosts S) where
  pub commits_if_open : (changes : List Change) (a b : Option (Held S)) (rows : List Row) → AllByRecursion IsGoodChange changes → CommitsOpen g changes a b → IsHonestIfOpen g b → HoldsIfOpen g a rows
      → HoldsIfOpen g b (all_changed rows changes)
  commits_if_open changes (Some a) (Some b) rows good made honest holds = commits_hold g changes a b rows good holds (made honest.0)
  commits_if_open changes (Some a) None rows good made honest holds = absurd made
  commits_if_open changes None (Some b) rows good made honest holds = absurd made
  commits_if_open changes None None rows good made honest holds = absurd made

  pub keeps_if_open : (a b : Option (Held S)) (rows : List Row) → KeepsOpen g a b → IsHonestIfOpen g b → HoldsIfOpen g a rows → HoldsIfOpen g b rows
  keeps_if_open (Some a) (Some b) rows kept honest holds = kept_hold g a b rows holds (kept honest.0 honest.1)
  keeps_if_open (Some a) None rows kept honest holds = absurd kept
  keeps_if_open None (Some b) rows kept honest holds = absurd kept
  keeps_if_open None None rows kept honest holds = holds
