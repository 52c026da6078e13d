-- Where the two tables stand in a schema, and what the statements mean there.
use Rattle.std.proofs.Common.{◌≡◌, ◌≢◌, ◌↔◌, ℕ, ℤ, Some, true, false, codes, slice_get, List, [], ◌∷◌, refl}
use Rattle.std.specs.List.{AllByRecursion}
use Rattle.sqlite_trees.specs.Tree.{Trees}
use Rattle.sqlite_schema.specs.declared.schema.Keys.TheVariants.{Enforced}
use Rattle.sqlite_schema.specs.declared.command.Conflict.TheVariants.{Abort}
use Rattle.sqlite_rules.specs.Action.{works}
use Rattle.sqlite_rules.specs.Keys.{conflicts}
use Rattle.sqlite.specs.Command.TheVariants.{Select, Insert, InsertOr, Delete}
use Rattle.sqlite.specs.Source.TheVariants.{Values}
use Rattle.sqlite.specs.Order.{Row as SqlRow}
use Rattle.sqlite.specs.Schema.{Schema}
use Rattle.sqlite.specs.Listing.{understood, reads_listing}
use Rattle.sqlite.proofs.Callers.{IsPlain, command_of}
use Rattle.wb_base.specs.declared.rows.Row.{Row}
use Rattle.wb_stored.specs.Tables.{record_table, record_key, sealed_table, sealed_key, both_schema, turned_schema}
use Rattle.wb_stored.specs.Told.{stored_record, stored_sealed, IsOfRecord, IsOfSealed}
use Rattle.wb_stored.proofs.Texts as text
use Rattle.wb_stored.proofs.Values as value

pub record Layout : Type 0 where
  pub schema : Schema
  pub record_at : ℕ
  pub record_tree : ℕ
  pub sealed_at : ℕ
  pub sealed_tree : ℕ
  pub record_place : slice_get schema.tables record_at ≡ Some (record_table record_tree)
  pub sealed_place : slice_get schema.tables sealed_at ≡ Some (sealed_table sealed_tree)
  -- no foreign key acts
  pub record_free : (olds news : List SqlRow) → works schema Enforced 0 record_tree olds news ≡ []
  pub sealed_free : (olds news : List SqlRow) → works schema Enforced 0 sealed_tree olds news ≡ []
  -- what leaves all tables but one as they were leaves the other one
  pub record_alone : (db next : Trees) → AllByRecursion (λ t. t.tree ≢ record_tree → next t.tree ≡ db t.tree) schema.tables → next sealed_tree ≡ db sealed_tree
  pub sealed_alone : (db next : Trees) → AllByRecursion (λ t. t.tree ≢ sealed_tree → next t.tree ≡ db t.tree) schema.tables → next record_tree ≡ db record_tree
  pub record_meets : (i j : ℤ) (x y : Row) → IsOfRecord x → IsOfRecord y → (conflicts (Some record_key) schema.indexes (record_table record_tree) (stored_record i x) (stored_record j y) ≡ true) ↔ (y.key ≡ x.key)
  pub sealed_meets : (i j : ℤ) (x y : Row) → IsOfSealed x → IsOfSealed y → (conflicts (Some sealed_key) schema.indexes (sealed_table sealed_tree) (stored_sealed i x) (stored_sealed j y) ≡ true) ↔ (y.key ≡ x.key)
  pub select_record : command_of (understood schema text.read_record) ≡ Select (record { lets = []; body = text.all_records record_tree }) (codes "kind" ∷ codes "tenant" ∷ codes "a" ∷ codes "b" ∷ codes "body" ∷ [])
  pub select_record_plain : IsPlain (understood schema text.read_record)
  pub select_record_unlisted : reads_listing schema text.read_record ≡ false
  pub select_sealed : command_of (understood schema text.read_sealed) ≡ Select (record { lets = []; body = text.all_sealed sealed_tree }) (codes "tenant" ∷ codes "a" ∷ codes "body" ∷ [])
  pub select_sealed_plain : IsPlain (understood schema text.read_sealed)
  pub select_sealed_unlisted : reads_listing schema text.read_sealed ≡ false
  pub drop_trail : command_of (understood schema text.drop_trail) ≡ Delete record_at (record { lets = []; body = text.doomed_by record_tree text.trail_terms })
  pub drop_trail_plain : IsPlain (understood schema text.drop_trail)
  pub drop_sealed : command_of (understood schema text.drop_sealed) ≡ Delete sealed_at (record { lets = []; body = text.doomed_by sealed_tree text.answers_terms })
  pub drop_sealed_plain : IsPlain (understood schema text.drop_sealed)
  pub put_record : command_of (understood schema text.put_record) ≡ InsertOr record_at Abort (Values text.record_terms 6) (text.on_key record_key (text.record_rewritten record_tree) ∷ [])
  pub put_record_plain : IsPlain (understood schema text.put_record)
  pub put_sealed : command_of (understood schema text.put_sealed) ≡ InsertOr sealed_at Abort (Values text.sealed_terms 4) (text.on_key sealed_key (text.sealed_rewritten sealed_tree) ∷ [])
  pub put_sealed_plain : IsPlain (understood schema text.put_sealed)
  pub insert_record : command_of (understood schema text.insert_record) ≡ Insert record_at (Values text.record_terms 6)
  pub insert_record_plain : IsPlain (understood schema text.insert_record)
  pub insert_sealed : command_of (understood schema text.insert_sealed) ≡ Insert sealed_at (Values text.sealed_terms 4)
  pub insert_sealed_plain : IsPlain (understood schema text.insert_sealed)

pub apart_first : ◌≢◌ {A = ℕ} 0 2
apart_first e = cc

pub apart_last : ◌≢◌ {A = ℕ} 2 0
apart_last e = cc

abbrev pub both : Layout
both = record {
  schema = both_schema;
  record_at = 0;
  record_tree = 0;
  sealed_at = 1;
  sealed_tree = 2;
  record_place = refl;
  sealed_place = refl;
  record_free = λ olds news. refl;
  sealed_free = λ olds news. refl;
  record_alone = λ db next all. all.1.0 apart_last;
  sealed_alone = λ db next all. all.0 apart_first;
  record_meets = value.record_meets_both;
  sealed_meets = value.sealed_meets_both;
  select_record = text.select_record_both;
  select_record_plain = text.select_record_both_plain;
  select_record_unlisted = text.select_record_both_unlisted;
  select_sealed = text.select_sealed_both;
  select_sealed_plain = text.select_sealed_both_plain;
  select_sealed_unlisted = text.select_sealed_both_unlisted;
  drop_trail = text.drop_trail_both;
  drop_trail_plain = text.drop_trail_both_plain;
  drop_sealed = text.drop_sealed_both;
  drop_sealed_plain = text.drop_sealed_both_plain;
  put_record = text.put_record_both;
  put_record_plain = text.put_record_both_plain;
  put_sealed = text.put_sealed_both;
  put_sealed_plain = text.put_sealed_both_plain;
  insert_record = text.insert_record_both;
  insert_record_plain = text.insert_record_both_plain;
  insert_sealed = text.insert_sealed_both;
  insert_sealed_plain = text.insert_sealed_both_plain;
}

abbrev pub turned : Layout
turned = record {
  schema = turned_schema;
  record_at = 1;
  record_tree = 2;
  sealed_at = 0;
  sealed_tree = 0;
  record_place = refl;
  sealed_place = refl;
  record_free = λ olds news. refl;
  sealed_free = λ olds news. refl;
  record_alone = λ db next all. all.0 apart_first;
  sealed_alone = λ db next all. all.1.0 apart_last;
  record_meets = value.record_meets_turned;
  sealed_meets = value.sealed_meets_turned;
  select_record = text.select_record_turned;
  select_record_plain = text.select_record_turned_plain;
  select_record_unlisted = text.select_record_turned_unlisted;
  select_sealed = text.select_sealed_turned;
  select_sealed_plain = text.select_sealed_turned_plain;
  select_sealed_unlisted = text.select_sealed_turned_unlisted;
  drop_trail = text.drop_trail_turned;
  drop_trail_plain = text.drop_trail_turned_plain;
  drop_sealed = text.drop_sealed_turned;
  drop_sealed_plain = text.drop_sealed_turned_plain;
  put_record = text.put_record_turned;
  put_record_plain = text.put_record_turned_plain;
  put_sealed = text.put_sealed_turned;
  put_sealed_plain = text.put_sealed_turned_plain;
  insert_record = text.insert_record_turned;
  insert_record_plain = text.insert_record_turned_plain;
  insert_sealed = text.insert_sealed_turned;
  insert_sealed_plain = text.insert_sealed_turned_plain;
}
