-- What the statements that make the two tables do.
use Rattle.std.proofs.Common.{◌≡◌, ◌⊎◌, inl, inr, ℕ, List, [], Ok, None, false, refl, sym, ap, subst, ◌∙◌}
use Rattle.sqlite_catalog.specs.Change.{KeepsRows}
use Rattle.sqlite.specs.Compile.{table_defined_by}
use Rattle.sqlite.specs.Command.TheVariants.{CreateTable, Nothing}
use Rattle.sqlite.specs.Change.{created, next_tree}
use Rattle.sqlite.specs.Does.{Tally, lacks_sequence}
use Rattle.sqlite.specs.Order.{Row}
use Rattle.sqlite.specs.Table.{Table}
use Rattle.sqlite.specs.Schema.{Schema}
use Rattle.sqlite.specs.Listing.{understood}
use Rattle.sqlite.specs.Effect.{Database, IsDatabase}
use Rattle.sqlite.specs.State.{State, Writes, Executes}
use Rattle.sqlite.proofs.Callers.{IsPlain, command_of, statement_of, runs_as}
use Rattle.wb_stored.specs.Tables.{record_table, sealed_table, no_schema, record_schema, sealed_schema, both_schema, turned_schema}
use Rattle.wb_stored.specs.Told.{HasTables}
use Rattle.wb_stored.proofs.Parts.{went, same_value}
use Rattle.wb_stored.proofs.Texts as text

-- the table is made, and empty, and the others are as they were
makes : (sql : List ℕ) (from : Schema) (table : Table) (old new : State) (count : ℕ) → table_defined_by sql ≡ Ok table → lacks_sequence (created from table) ≡ false
    → old.now.schema ≡ from → command_of (understood from sql) ≡ CreateTable → statement_of sql (understood from sql) ≡ sql → IsPlain (understood from sql) → Executes sql [] old new (Ok count)
    → (new.now.schema ≡ created from table) × (new.now.trees (next_tree from) ≡ []) × KeepsRows from.tables old.now.trees new.now.trees
makes sql from table old new count is uncounted has command text plain h =
    let w = subst (λ t. Writes old new None CreateTable t [] count) text (runs_as sql [] old new from has CreateTable command plain count h) in
    let all = went w.changed in
    let first = went all.1 in
    let made = first.1 in
    let same : made.table ≡ table = same_value (sym made.defined ∙ is) in
    let schema : first.0.schema ≡ created from table = made.is ∙ ap (λ s. created s made.table) has ∙ ap (created from) same in
    let none : lacks_sequence first.0.schema ≡ false = ap lacks_sequence schema ∙ uncounted in
    let now : new.now ≡ first.0 = ap (λ (p : Tally × Database). p.1) (same_value all.2) ∙ same_value (rw none at first.2) in (
      ap (λ (d : Database). d.schema) now ∙ schema,
      ap (λ (d : Database). d.trees (next_tree from)) now ∙ subst (λ s. first.0.trees (next_tree s) ≡ []) has made.empty,
      subst (λ (d : Database). KeepsRows from.tables old.now.trees d.trees) (sym now) (subst (λ (s : Schema). KeepsRows s.tables old.now.trees first.0.trees) has made.others),
    )

-- it was there, and nothing is done
again : (sql : List ℕ) (from : Schema) (old new : State) (count : ℕ) → old.now.schema ≡ from → command_of (understood from sql) ≡ Nothing → IsPlain (understood from sql) → Executes sql [] old new (Ok count) → new.now ≡ old.now
again sql from old new count has command plain h = (runs_as sql [] old new from has Nothing command plain count h).0.0.now_is

-- both tables are there
abbrev pub HasBoth : Database → List Row → List Row → Type 0
HasBoth db records sealed =
    ((db.schema ≡ both_schema) × (records ≡ db.trees 0) × (sealed ≡ db.trees 2))
    ⊎ ((db.schema ≡ turned_schema) × (records ≡ db.trees 2) × (sealed ≡ db.trees 0))

abbrev pub HasRecord : Database → List Row → List Row → Type 0
HasRecord db records sealed = ((db.schema ≡ record_schema) × (records ≡ db.trees 0) × (sealed ≡ [])) ⊎ HasBoth db records sealed

pub record_made : (old new : State) (count : ℕ) (records sealed : List Row) → HasTables old.now records sealed → Executes text.make_record [] old new (Ok count) → HasRecord new.now records sealed
record_made old new count records sealed (inl (has, r, s)) h =
    let m = makes text.make_record no_schema (record_table 0) old new count text.record_defined refl has text.record_over_none text.record_over_none_text text.record_over_none_plain h in
    inl (m.0, r ∙ sym m.1, s)
record_made old new count records sealed (inr (inl (has, r, s))) h =
    let same = again text.make_record record_schema old new count has text.record_again text.record_again_plain h in
    inl (subst (λ (d : Database). (d.schema ≡ record_schema) × (records ≡ d.trees 0) × (sealed ≡ [])) (sym same) (has, r, s))
record_made old new count records sealed (inr (inr (inl (has, r, s)))) h =
    let m = makes text.make_record sealed_schema (record_table 0) old new count text.record_defined refl has text.record_over_sealed text.record_over_sealed_text text.record_over_sealed_plain h in
    inr (inr (m.0, r ∙ sym m.1, s ∙ sym m.2.0))
record_made old new count records sealed (inr (inr (inr (inl (has, r, s))))) h =
    let same = again text.make_record both_schema old new count has text.record_over_both text.record_over_both_plain h in
    inr (subst (λ (d : Database). HasBoth d records sealed) (sym same) (inl (has, r, s)))
record_made old new count records sealed (inr (inr (inr (inr (has, r, s))))) h =
    let same = again text.make_record turned_schema old new count has text.record_over_turned text.record_over_turned_plain h in
    inr (subst (λ (d : Database). HasBoth d records sealed) (sym same) (inr (has, r, s)))

pub sealed_made : (old new : State) (count : ℕ) (records sealed : List Row) → HasRecord old.now records sealed → Executes text.make_sealed [] old new (Ok count) → HasBoth new.now records sealed
sealed_made old new count records sealed (inl (has, r, s)) h =
    let m = makes text.make_sealed record_schema (sealed_table 0) old new count text.sealed_defined refl has text.sealed_over_record text.sealed_over_record_text text.sealed_over_record_plain h in
    inl (m.0, r ∙ sym m.2.0, s ∙ sym m.1)
sealed_made old new count records sealed (inr (inl (has, r, s))) h =
    let same = again text.make_sealed both_schema old new count has text.sealed_over_both text.sealed_over_both_plain h in
    subst (λ (d : Database). HasBoth d records sealed) (sym same) (inl (has, r, s))
sealed_made old new count records sealed (inr (inr (has, r, s))) h =
    let same = again text.make_sealed turned_schema old new count has text.sealed_over_turned text.sealed_over_turned_plain h in
    subst (λ (d : Database). HasBoth d records sealed) (sym same) (inr (has, r, s))

-- and the database is sound then
made_sound : (sql : List ℕ) (from : Schema) (old new : State) (count : ℕ) → old.now.schema ≡ from → command_of (understood from sql) ≡ CreateTable → IsPlain (understood from sql) → Executes sql [] old new (Ok count) → IsDatabase new.now
made_sound sql from old new count has command plain h = (runs_as sql [] old new from has CreateTable command plain count h).sound

still_sound : (sql : List ℕ) (from : Schema) (old new : State) (count : ℕ) → IsDatabase old.now → old.now.schema ≡ from → command_of (understood from sql) ≡ Nothing → IsPlain (understood from sql) → Executes sql [] old new (Ok count) → IsDatabase new.now
still_sound sql from old new count sound has command plain h = subst IsDatabase (sym (again sql from old new count has command plain h)) sound

pub record_sound : (old new : State) (count : ℕ) (records sealed : List Row) → IsDatabase old.now → HasTables old.now records sealed → Executes text.make_record [] old new (Ok count) → IsDatabase new.now
record_sound old new count records sealed sound (inl it) h = made_sound text.make_record no_schema old new count it.0 text.record_over_none text.record_over_none_plain h
record_sound old new count records sealed sound (inr (inl it)) h = still_sound text.make_record record_schema old new count sound it.0 text.record_again text.record_again_plain h
record_sound old new count records sealed sound (inr (inr (inl it))) h = made_sound text.make_record sealed_schema old new count it.0 text.record_over_sealed text.record_over_sealed_plain h
record_sound old new count records sealed sound (inr (inr (inr (inl it)))) h = still_sound text.make_record both_schema old new count sound it.0 text.record_over_both text.record_over_both_plain h
record_sound old new count records sealed sound (inr (inr (inr (inr it)))) h = still_sound text.make_record turned_schema old new count sound it.0 text.record_over_turned text.record_over_turned_plain h

pub sealed_sound : (old new : State) (count : ℕ) (records sealed : List Row) → IsDatabase old.now → HasRecord old.now records sealed → Executes text.make_sealed [] old new (Ok count) → IsDatabase new.now
sealed_sound old new count records sealed sound (inl it) h = made_sound text.make_sealed record_schema old new count it.0 text.sealed_over_record text.sealed_over_record_plain h
sealed_sound old new count records sealed sound (inr (inl it)) h = still_sound text.make_sealed both_schema old new count sound it.0 text.sealed_over_both text.sealed_over_both_plain h
sealed_sound old new count records sealed sound (inr (inr it)) h = still_sound text.make_sealed turned_schema old new count sound it.0 text.sealed_over_turned text.sealed_over_turned_plain h
