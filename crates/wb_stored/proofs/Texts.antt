-- What each text means over each schema: found by computing.
use Rattle.std.proofs.Common.{◌≡◌, List, ℕ, [], ◌∷◌, codes, Ok, Some, None, refl, false, negsuc, pos}
use Rattle.sqlite.specs.declared.types.Value.TheVariants.{Null, Int}
use Rattle.sqlite.specs.Command.TheVariants.{CreateTable, Nothing, Select, Insert, InsertOr, Delete}
use Rattle.sqlite.specs.Compile.{table_defined_by}
use Rattle.sqlite.specs.Term.{Term, lit, col, op1, op2}
use Rattle.sqlite_sql.specs.declared.ops.BinaryOp.TheVariants.{Compare}
use Rattle.sqlite_sql.specs.declared.ops.CompareOp.TheVariants.{Eq}
use Rattle.sqlite_sql.specs.declared.ops.UnaryOp.TheVariants.{ToNumeric}
use Rattle.sqlite.specs.Query.{Query, inner, end}
use Rattle.sqlite.specs.Collation.TheVariants.{Binary}
use Rattle.sqlite_value.specs.Keys.{ascending}
use Rattle.sqlite_value.specs.declared.keys.Key.{Key}
use Rattle.sqlite.specs.Source.TheVariants.{Values}
use Rattle.sqlite_schema.specs.declared.command.Conflict.TheVariants.{Abort}
use Rattle.sqlite_schema.specs.declared.command.Upsert.{Upsert}
use Rattle.sqlite_tied.specs.Compute.{everything}
use Rattle.sqlite.specs.Listing.{understood, reads_listing}
use Rattle.sqlite.proofs.Callers.{IsPlain, command_of, statement_of}
pub use Rattle.wb_stored.specs.Texts.{make_record, make_sealed, put_record, put_sealed, insert_record, insert_sealed, drop_trail, drop_sealed, read_record, read_sealed}
use Rattle.wb_stored.specs.Tables.{record_table, record_key, sealed_table, sealed_key, no_schema, record_schema, sealed_schema, both_schema, turned_schema}

-- ---- queries

abbrev pub query_over : ℕ → List Term → List Term → List (Term × Key) → Query
query_over tree filter project order = record {
  from = inner tree end;
  filter = filter;
  group = None;
  project = project;
  distinct = false;
  collations = [];
  order = order;
  limit = lit (Int (negsuc 0));
  offset = lit (Int (pos 0));
}

abbrev pub same_as : Term → Term → Term
same_as = op2 (Compare Eq Binary)

abbrev pub trail_terms : List Term
trail_terms = same_as (col 1 1) (lit (Int (pos 6))) ∷ same_as (col 1 2) (op1 ToNumeric (col 0 0)) ∷ same_as (col 1 3) (op1 ToNumeric (col 0 1)) ∷ []

abbrev pub answers_terms : List Term
answers_terms = same_as (col 1 1) (op1 ToNumeric (col 0 0)) ∷ same_as (col 1 2) (op1 ToNumeric (col 0 1)) ∷ []

-- the rowids of the rows that pass
abbrev pub doomed_by : ℕ → List Term → Query
doomed_by tree terms = query_over tree terms (col 1 0 ∷ []) []

abbrev pub all_records : ℕ → Query
all_records tree = query_over tree [] (col 1 1 ∷ col 1 2 ∷ col 1 3 ∷ col 1 4 ∷ col 1 5 ∷ []) ((col 1 1, ascending Binary) ∷ (col 1 2, ascending Binary) ∷ (col 1 3, ascending Binary) ∷ (col 1 4, ascending Binary) ∷ [])

abbrev pub all_sealed : ℕ → Query
all_sealed tree = query_over tree [] (col 1 1 ∷ col 1 2 ∷ col 1 3 ∷ []) ((col 1 1, ascending Binary) ∷ (col 1 2, ascending Binary) ∷ [])

abbrev pub record_terms : List Term
record_terms = lit Null ∷ col 0 0 ∷ col 0 1 ∷ col 0 2 ∷ col 0 3 ∷ col 0 4 ∷ []

abbrev pub sealed_terms : List Term
sealed_terms = lit Null ∷ col 0 0 ∷ col 0 1 ∷ col 0 2 ∷ []

-- the row that is there, and what becomes of it
abbrev pub record_hits : List Term
record_hits = same_as (col 1 0) (col 0 5) ∷ []

abbrev pub record_project : List Term
record_project = col 1 0 ∷ col 1 0 ∷ col 1 1 ∷ col 1 2 ∷ col 1 3 ∷ col 1 4 ∷ col 0 11 ∷ []

abbrev pub record_rewritten : ℕ → Query
record_rewritten tree = query_over tree record_hits record_project []

abbrev pub sealed_hits : List Term
sealed_hits = same_as (col 1 0) (col 0 3) ∷ []

abbrev pub sealed_project : List Term
sealed_project = col 1 0 ∷ col 1 0 ∷ col 1 1 ∷ col 1 2 ∷ col 0 7 ∷ []

abbrev pub sealed_rewritten : ℕ → Query
sealed_rewritten tree = query_over tree sealed_hits sealed_project []

abbrev pub on_key : List ℕ → Query → Upsert
on_key places rewritten = record { target = Some places; update = Some (record { lets = []; body = rewritten }) }

-- ---- making the tables

pub record_defined : table_defined_by make_record ≡ Ok (record_table 0)
unfolding understood everything
record_defined = refl

pub sealed_defined : table_defined_by make_sealed ≡ Ok (sealed_table 0)
unfolding understood everything
sealed_defined = refl

pub record_over_none : command_of (understood no_schema make_record) ≡ CreateTable
unfolding understood everything
record_over_none = refl

pub record_over_none_text : statement_of make_record (understood no_schema make_record) ≡ make_record
unfolding understood everything
record_over_none_text = refl

pub record_over_none_plain : IsPlain (understood no_schema make_record)
unfolding understood everything
record_over_none_plain = (refl, refl)

pub record_over_sealed : command_of (understood sealed_schema make_record) ≡ CreateTable
unfolding understood everything
record_over_sealed = refl

pub record_over_sealed_text : statement_of make_record (understood sealed_schema make_record) ≡ make_record
unfolding understood everything
record_over_sealed_text = refl

pub record_over_sealed_plain : IsPlain (understood sealed_schema make_record)
unfolding understood everything
record_over_sealed_plain = (refl, refl)

pub record_again : command_of (understood record_schema make_record) ≡ Nothing
unfolding understood everything
record_again = refl

pub record_again_plain : IsPlain (understood record_schema make_record)
unfolding understood everything
record_again_plain = (refl, refl)

pub record_over_both : command_of (understood both_schema make_record) ≡ Nothing
unfolding understood everything
record_over_both = refl

pub record_over_both_plain : IsPlain (understood both_schema make_record)
unfolding understood everything
record_over_both_plain = (refl, refl)

pub record_over_turned : command_of (understood turned_schema make_record) ≡ Nothing
unfolding understood everything
record_over_turned = refl

pub record_over_turned_plain : IsPlain (understood turned_schema make_record)
unfolding understood everything
record_over_turned_plain = (refl, refl)

pub sealed_over_record : command_of (understood record_schema make_sealed) ≡ CreateTable
unfolding understood everything
sealed_over_record = refl

pub sealed_over_record_text : statement_of make_sealed (understood record_schema make_sealed) ≡ make_sealed
unfolding understood everything
sealed_over_record_text = refl

pub sealed_over_record_plain : IsPlain (understood record_schema make_sealed)
unfolding understood everything
sealed_over_record_plain = (refl, refl)

pub sealed_over_both : command_of (understood both_schema make_sealed) ≡ Nothing
unfolding understood everything
sealed_over_both = refl

pub sealed_over_both_plain : IsPlain (understood both_schema make_sealed)
unfolding understood everything
sealed_over_both_plain = (refl, refl)

pub sealed_over_turned : command_of (understood turned_schema make_sealed) ≡ Nothing
unfolding understood everything
sealed_over_turned = refl

pub sealed_over_turned_plain : IsPlain (understood turned_schema make_sealed)
unfolding understood everything
sealed_over_turned_plain = (refl, refl)

-- ---- the other statements, over both tables

pub select_record_both : command_of (understood both_schema read_record) ≡ Select (record { lets = []; body = all_records 0 }) (codes "kind" ∷ codes "tenant" ∷ codes "a" ∷ codes "b" ∷ codes "body" ∷ [])
unfolding understood everything
select_record_both = refl

pub select_record_both_plain : IsPlain (understood both_schema read_record)
unfolding understood everything
select_record_both_plain = (refl, refl)

pub select_record_both_unlisted : reads_listing both_schema read_record ≡ false
unfolding understood everything
select_record_both_unlisted = refl

pub select_sealed_both : command_of (understood both_schema read_sealed) ≡ Select (record { lets = []; body = all_sealed 2 }) (codes "tenant" ∷ codes "a" ∷ codes "body" ∷ [])
unfolding understood everything
select_sealed_both = refl

pub select_sealed_both_plain : IsPlain (understood both_schema read_sealed)
unfolding understood everything
select_sealed_both_plain = (refl, refl)

pub select_sealed_both_unlisted : reads_listing both_schema read_sealed ≡ false
unfolding understood everything
select_sealed_both_unlisted = refl

pub drop_trail_both : command_of (understood both_schema drop_trail) ≡ Delete 0 (record { lets = []; body = doomed_by 0 trail_terms })
unfolding understood everything
drop_trail_both = refl

pub drop_trail_both_plain : IsPlain (understood both_schema drop_trail)
unfolding understood everything
drop_trail_both_plain = (refl, refl)

pub drop_sealed_both : command_of (understood both_schema drop_sealed) ≡ Delete 1 (record { lets = []; body = doomed_by 2 answers_terms })
unfolding understood everything
drop_sealed_both = refl

pub drop_sealed_both_plain : IsPlain (understood both_schema drop_sealed)
unfolding understood everything
drop_sealed_both_plain = (refl, refl)

pub put_record_both : command_of (understood both_schema put_record) ≡ InsertOr 0 Abort (Values record_terms 6) (on_key record_key (record_rewritten 0) ∷ [])
unfolding understood everything
put_record_both = refl

pub put_record_both_plain : IsPlain (understood both_schema put_record)
unfolding understood everything
put_record_both_plain = (refl, refl)

pub put_sealed_both : command_of (understood both_schema put_sealed) ≡ InsertOr 1 Abort (Values sealed_terms 4) (on_key sealed_key (sealed_rewritten 2) ∷ [])
unfolding understood everything
put_sealed_both = refl

pub put_sealed_both_plain : IsPlain (understood both_schema put_sealed)
unfolding understood everything
put_sealed_both_plain = (refl, refl)

pub insert_record_both : command_of (understood both_schema insert_record) ≡ Insert 0 (Values record_terms 6)
unfolding understood everything
insert_record_both = refl

pub insert_record_both_plain : IsPlain (understood both_schema insert_record)
unfolding understood everything
insert_record_both_plain = (refl, refl)

pub insert_sealed_both : command_of (understood both_schema insert_sealed) ≡ Insert 1 (Values sealed_terms 4)
unfolding understood everything
insert_sealed_both = refl

pub insert_sealed_both_plain : IsPlain (understood both_schema insert_sealed)
unfolding understood everything
insert_sealed_both_plain = (refl, refl)

pub select_record_turned : command_of (understood turned_schema read_record) ≡ Select (record { lets = []; body = all_records 2 }) (codes "kind" ∷ codes "tenant" ∷ codes "a" ∷ codes "b" ∷ codes "body" ∷ [])
unfolding understood everything
select_record_turned = refl

pub select_record_turned_plain : IsPlain (understood turned_schema read_record)
unfolding understood everything
select_record_turned_plain = (refl, refl)

pub select_record_turned_unlisted : reads_listing turned_schema read_record ≡ false
unfolding understood everything
select_record_turned_unlisted = refl

pub select_sealed_turned : command_of (understood turned_schema read_sealed) ≡ Select (record { lets = []; body = all_sealed 0 }) (codes "tenant" ∷ codes "a" ∷ codes "body" ∷ [])
unfolding understood everything
select_sealed_turned = refl

pub select_sealed_turned_plain : IsPlain (understood turned_schema read_sealed)
unfolding understood everything
select_sealed_turned_plain = (refl, refl)

pub select_sealed_turned_unlisted : reads_listing turned_schema read_sealed ≡ false
unfolding understood everything
select_sealed_turned_unlisted = refl

pub drop_trail_turned : command_of (understood turned_schema drop_trail) ≡ Delete 1 (record { lets = []; body = doomed_by 2 trail_terms })
unfolding understood everything
drop_trail_turned = refl

pub drop_trail_turned_plain : IsPlain (understood turned_schema drop_trail)
unfolding understood everything
drop_trail_turned_plain = (refl, refl)

pub drop_sealed_turned : command_of (understood turned_schema drop_sealed) ≡ Delete 0 (record { lets = []; body = doomed_by 0 answers_terms })
unfolding understood everything
drop_sealed_turned = refl

pub drop_sealed_turned_plain : IsPlain (understood turned_schema drop_sealed)
unfolding understood everything
drop_sealed_turned_plain = (refl, refl)

pub put_record_turned : command_of (understood turned_schema put_record) ≡ InsertOr 1 Abort (Values record_terms 6) (on_key record_key (record_rewritten 2) ∷ [])
unfolding understood everything
put_record_turned = refl

pub put_record_turned_plain : IsPlain (understood turned_schema put_record)
unfolding understood everything
put_record_turned_plain = (refl, refl)

pub put_sealed_turned : command_of (understood turned_schema put_sealed) ≡ InsertOr 0 Abort (Values sealed_terms 4) (on_key sealed_key (sealed_rewritten 0) ∷ [])
unfolding understood everything
put_sealed_turned = refl

pub put_sealed_turned_plain : IsPlain (understood turned_schema put_sealed)
unfolding understood everything
put_sealed_turned_plain = (refl, refl)

pub insert_record_turned : command_of (understood turned_schema insert_record) ≡ Insert 1 (Values record_terms 6)
unfolding understood everything
insert_record_turned = refl

pub insert_record_turned_plain : IsPlain (understood turned_schema insert_record)
unfolding understood everything
insert_record_turned_plain = (refl, refl)

pub insert_sealed_turned : command_of (understood turned_schema insert_sealed) ≡ Insert 0 (Values sealed_terms 4)
unfolding understood everything
insert_sealed_turned = refl

pub insert_sealed_turned_plain : IsPlain (understood turned_schema insert_sealed)
unfolding understood everything
insert_sealed_turned_plain = (refl, refl)
