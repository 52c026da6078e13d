-- Rows from one run to the next, over a database file and its log.
use Rattle.std.proofs.Common.{◌≡◌, inl, inr, List, length, refl, sym, ap, ap₂, subst, ◌∙◌, arith}
use Rattle.std.proofs.Math.Logic.{∥∥₁_elim}
use Rattle.sqlite_wal.specs.Recovery.{Image}
use Rattle.sqlite_trees.specs.Tree.{Trees}
use Rattle.sqlite_trees.specs.Props.{Trees-set}
use Rattle.sqlite_trees.specs.Objects.{catalog_tree}
use Rattle.sqlite_schema.specs.declared.schema.Schema.{Schema}
use Rattle.sqlite_catalog.specs.Listing.{IsSound, Lists}
use Rattle.sqlite_catalog.proofs.ReadLemmas.{lists_once}
use Rattle.sqlite.specs.Closing.{HoldsAlone}
use Rattle.sqlite.specs.Effect.{Database}
use Rattle.sqlite.specs.Files.{HoldsDatabase, AreFoundIn}
use Rattle.sqlite.specs.State.{State, Opens, IsLive}
use Rattle.sqlite.proofs.ListingLemmas.{empty_is_sound}
use Rattle.wb_base.specs.declared.rows.Row.{Row}
use Rattle.wb_stored.specs.KeptFiles.{FilesHold, FilesHoldAlone}
use Rattle.wb_stored.specs.Tables.{no_schema}
use Rattle.wb_stored.specs.Told.{HoldsRows, Tells}
use Rattle.wb_stored.proofs.Empty.{none_hold, commit_leaves}

-- trees are those of one schema at most
one_schema : (a b : Trees) (s t : Schema) → a ≡ b → IsSound s a → IsSound t b → s ≡ t
one_schema a b s t same p q = lists_once (b catalog_tree) s t (subst (λ (d : Trees). Lists (d catalog_tree) s) same p.lists) q.lists

-- a connection over the files tells their rows
pub files_told : (image : Image) (s : State) (rows : List Row) → Opens s → IsLive s → ((db : Trees) → HoldsDatabase image db → s.committed.trees ≡ db) → AreFoundIn image s.committed.trees → FilesHold image rows → HoldsRows s rows
files_told image s rows opens live holds found (inl (db, has, left)) =
    let same : s.committed.trees ≡ db = ∥∥₁_elim has (Trees-set _ _) (holds db) in
    let is : s.committed.schema ≡ left.0 = one_schema s.committed.trees db s.committed.schema left.0 same (live opens.is_open).1 left.1.sound in
    let whole : record { schema = left.0; trees = db } ≡ s.now = ap₂ (λ (c : Schema) (t : Trees). record { schema = c; trees = t }) (sym is) (sym same) ∙ sym opens.clean in
    record { settled = opens.clean; told = subst (λ (d : Database). Tells d rows) whole left.1 }
files_told image s rows opens live holds (inl f) (inr (none, is)) = absurd (omega (arith, ap length none, f.3.found.present))
files_told image s rows opens live holds (inr f) (inr (none, is)) =
    let sound = (live opens.is_open).1 in
    let bare : s.committed.schema ≡ no_schema = one_schema s.committed.trees s.committed.trees s.committed.schema no_schema refl sound (empty_is_sound s.committed.trees f.1.1) in
    subst (HoldsRows s) (sym is) (none_hold s opens live (ap (λ (d : Database). d.schema) opens.clean ∙ bare))

-- files that were closed hold the rows that were told
pub closed_hold : (image : Image) (s : State) (rows : List Row) → HoldsAlone image s.committed.trees → HoldsRows s rows → FilesHoldAlone image rows
closed_hold image s rows alone holds =
    let left = commit_leaves s rows s.committed.trees holds refl in
    (inl (s.committed.trees, alone.both, left), inl (s.committed.trees, alone.alone, left))
