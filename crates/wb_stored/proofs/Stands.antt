-- What each statement of a change does to the told rows.
use Rattle.std.proofs.Common.{◌≡◌, ◌≢◌, ◌⊎◌, inl, inr, ℕ, codes, slice_get, Some, Ok, List, [], ◌∷◌, filter, not, refl, sym, ap, subst, ◌∙◌}
use Rattle.std.specs.List.{AllByRecursion}
use Rattle.sqlite_value.specs.Order.{Row as SqlRow}
use Rattle.sqlite_trees.specs.Tree.{Trees}
use Rattle.sqlite_schema.specs.declared.schema.Column.{Column}
use Rattle.sqlite_sql.specs.Term.{Term}
use Rattle.sqlite.specs.Query.{Query}
use Rattle.sqlite.specs.Schema.{Schema}
use Rattle.sqlite.specs.Effect.{Database, IsDatabase}
use Rattle.sqlite.specs.Given.{IsPlain}
use Rattle.sqlite.specs.Listing.{understood}
use Rattle.sqlite.specs.State.{State, Executes}
use Rattle.wb_base.specs.declared.rows.Row.{Row}
use Rattle.wb_base.specs.declared.rows.Change.TheVariants.{Put, DropReport}
use Rattle.wb_base.specs.KeptRows.{changed}
use Rattle.wb_stored.specs.Tables.{record_table, record_columns, record_key, sealed_table, sealed_columns, sealed_key}
use Rattle.wb_stored.specs.Told.{IsKept, AreTold, Tells, stored_record, stored_sealed, IsOfRecord, IsOfSealed}
use Rattle.wb_stored.proofs.Texts as text
use Rattle.wb_stored.proofs.Parts.{passes}
use Rattle.wb_stored.proofs.Deleting.{deletes}
use Rattle.wb_stored.proofs.Upserting.{LeftBy, Upserted, upserts}
use Rattle.wb_stored.proofs.Inserting.{inserts}
use Rattle.wb_stored.proofs.Making.{HasBoth, record_made, sealed_made, record_sound, sealed_sound}
use Rattle.wb_stored.proofs.Once.{record_once, sealed_once}
use Rattle.wb_stored.proofs.Kept.{keyed}
use Rattle.wb_stored.proofs.KeptDeletes.{deleted_is}
use Rattle.wb_stored.proofs.KeptPuts.{puts}
use Rattle.wb_stored.proofs.KeptInserts.{puts_new}
use Rattle.wb_stored.proofs.Values.{bound_record, bound_sealed, report_given, record_back, sealed_back, record_casts, sealed_casts, record_offers, sealed_offers, record_hit, sealed_hit, record_rewrites, sealed_rewrites}
use Rattle.wb_stored.proofs.Layouts.{Layout, both, turned}
use Rattle.wb_stored.proofs.ToldRows.{PutsRecord, PutsSealed, told_put_record, told_put_sealed, told_drop}

found_others : (schema : Schema) (name : List ℕ) (columns : List Column) (places : List ℕ) (tree : ℕ) (terms : List Term) (q : Query) (params new : SqlRow) (db next : Trees) (found : List SqlRow)
    → LeftBy schema name columns places tree terms q params new db next found → AllByRecursion (λ t. t.tree ≢ tree → next t.tree ≡ db t.tree) schema.tables
found_others schema name columns places tree terms q params new db next [] left = left.tables
found_others schema name columns places tree terms q params new db next (there ∷ more) left = left.2.tables

-- the other tables are as they were
others : (schema : Schema) (name : List ℕ) (columns : List Column) (places : List ℕ) (tree : ℕ) (terms : List Term) (q : Query) (params new : SqlRow) (db next : Trees)
    → Upserted schema name columns places tree terms q params new db next → AllByRecursion (λ t. t.tree ≢ tree → next t.tree ≡ db t.tree) schema.tables
others schema name columns places tree terms q params new db next u = found_others schema name columns places tree terms q params new db next u.found u.left_is

module _ (l : Layout) where
  abbrev pub Lays : Database → List SqlRow → List SqlRow → Type 0
  Lays db records sealed = (db.schema ≡ l.schema) × (records ≡ db.trees l.record_tree) × (sealed ≡ db.trees l.sealed_tree)

  put_record : (old new : State) (row : Row) (count : ℕ) (records sealed : List SqlRow) → IsOfRecord row → IsDatabase old.now → IsKept stored_record IsOfRecord records → Lays old.now records sealed
      → Executes text.put_record (bound_record row) old new (Ok count) → (left : List SqlRow) × Lays new.now left sealed × PutsRecord records left row × IsDatabase new.now
  put_record old new row count records sealed of sound kept lays h =
      let name = codes "record" in
      let q = text.record_rewritten l.record_tree in
      let db = old.now.trees in
      let next = new.now.trees in
      let u = upserts l.schema name record_columns record_key l.record_tree text.record_terms q l.record_free l.record_at l.record_place 6 (λ given. refl) text.put_record (bound_record row) old new count lays.0 l.put_record l.put_record_plain h in
      let other = others l.schema name record_columns record_key l.record_tree text.record_terms q (bound_record row) _ db next u.1 in
      let here : IsKept stored_record IsOfRecord (db l.record_tree) = subst (IsKept stored_record IsOfRecord) lays.1 kept in
      let put = puts stored_record IsOfRecord (λ id x. refl) record_back l.schema name record_columns record_key l.record_tree text.record_terms text.record_hits text.record_project bound_record
      (record_offers l.schema l.record_tree q) (record_casts l.record_tree) l.record_meets (record_hit l.schema l.record_tree q) (record_rewrites l.schema l.record_tree q) db next row of here (record_once old.now.schema db l.record_at name record_columns l.record_tree sound (subst (λ (known : Schema). slice_get known.tables l.record_at ≡ Some (record_table l.record_tree)) (sym lays.0) l.record_place)) u.1 in
      (next l.record_tree, (u.0, refl, lays.2 ∙ sym (l.record_alone db next other)), subst (λ t. PutsRecord t (next l.record_tree) row) (sym lays.1) put, u.2)

  put_sealed : (old new : State) (row : Row) (count : ℕ) (records sealed : List SqlRow) → IsOfSealed row → IsDatabase old.now → IsKept stored_sealed IsOfSealed sealed → Lays old.now records sealed
      → Executes text.put_sealed (bound_sealed row) old new (Ok count) → (left : List SqlRow) × Lays new.now records left × PutsSealed sealed left row × IsDatabase new.now
  put_sealed old new row count records sealed of sound kept lays h =
      let name = codes "sealed" in
      let q = text.sealed_rewritten l.sealed_tree in
      let db = old.now.trees in
      let next = new.now.trees in
      let u = upserts l.schema name sealed_columns sealed_key l.sealed_tree text.sealed_terms q l.sealed_free l.sealed_at l.sealed_place 4 (λ given. refl) text.put_sealed (bound_sealed row) old new count lays.0 l.put_sealed l.put_sealed_plain h in
      let other = others l.schema name sealed_columns sealed_key l.sealed_tree text.sealed_terms q (bound_sealed row) _ db next u.1 in
      let here : IsKept stored_sealed IsOfSealed (db l.sealed_tree) = subst (IsKept stored_sealed IsOfSealed) lays.2 kept in
      let put = puts stored_sealed IsOfSealed (λ id x. refl) sealed_back l.schema name sealed_columns sealed_key l.sealed_tree text.sealed_terms text.sealed_hits text.sealed_project bound_sealed
      (sealed_offers l.schema l.sealed_tree q) (sealed_casts l.sealed_tree) l.sealed_meets (sealed_hit l.schema l.sealed_tree q) (sealed_rewrites l.schema l.sealed_tree q) db next row of here (sealed_once old.now.schema db l.sealed_at name sealed_columns l.sealed_tree sound (subst (λ (known : Schema). slice_get known.tables l.sealed_at ≡ Some (sealed_table l.sealed_tree)) (sym lays.0) l.sealed_place)) u.1 in
      (next l.sealed_tree, (u.0, lays.1 ∙ sym (l.sealed_alone db next other), refl), subst (λ t. PutsSealed t (next l.sealed_tree) row) (sym lays.2) put, u.2)

  insert_record : (old new : State) (row : Row) (count : ℕ) (records sealed : List SqlRow) → IsOfRecord row → IsKept stored_record IsOfRecord records → Lays old.now records sealed
      → Executes text.insert_record (bound_record row) old new (Ok count) → (left : List SqlRow) × Lays new.now left sealed × PutsRecord records left row × IsDatabase new.now
  insert_record old new row count records sealed of kept lays h =
      let name = codes "record" in
      let db = old.now.trees in
      let next = new.now.trees in
      let u = inserts l.schema name record_columns record_key l.record_tree text.record_terms l.record_free l.record_at l.record_place 6 (λ given. refl) text.insert_record (bound_record row) old new count lays.0 l.insert_record l.insert_record_plain h in
      let here : IsKept stored_record IsOfRecord (db l.record_tree) = subst (IsKept stored_record IsOfRecord) lays.1 kept in
      let once = record_once new.now.schema next l.record_at name record_columns l.record_tree u.2 (subst (λ (known : Schema). slice_get known.tables l.record_at ≡ Some (record_table l.record_tree)) (sym u.0) l.record_place) in
      let put = puts_new stored_record IsOfRecord (λ id x. refl) record_back l.schema name record_columns record_key l.record_tree text.record_terms bound_record
      (record_offers l.schema l.record_tree (text.record_rewritten l.record_tree)) db next row of here once u.1 in
      (next l.record_tree, (u.0, refl, lays.2 ∙ sym (l.record_alone db next u.1.tables)), subst (λ t. PutsRecord t (next l.record_tree) row) (sym lays.1) put, u.2)

  insert_sealed : (old new : State) (row : Row) (count : ℕ) (records sealed : List SqlRow) → IsOfSealed row → IsKept stored_sealed IsOfSealed sealed → Lays old.now records sealed
      → Executes text.insert_sealed (bound_sealed row) old new (Ok count) → (left : List SqlRow) × Lays new.now records left × PutsSealed sealed left row × IsDatabase new.now
  insert_sealed old new row count records sealed of kept lays h =
      let name = codes "sealed" in
      let db = old.now.trees in
      let next = new.now.trees in
      let u = inserts l.schema name sealed_columns sealed_key l.sealed_tree text.sealed_terms l.sealed_free l.sealed_at l.sealed_place 4 (λ given. refl) text.insert_sealed (bound_sealed row) old new count lays.0 l.insert_sealed l.insert_sealed_plain h in
      let here : IsKept stored_sealed IsOfSealed (db l.sealed_tree) = subst (IsKept stored_sealed IsOfSealed) lays.2 kept in
      let once = sealed_once new.now.schema next l.sealed_at name sealed_columns l.sealed_tree u.2 (subst (λ (known : Schema). slice_get known.tables l.sealed_at ≡ Some (sealed_table l.sealed_tree)) (sym u.0) l.sealed_place) in
      let put = puts_new stored_sealed IsOfSealed (λ id x. refl) sealed_back l.schema name sealed_columns sealed_key l.sealed_tree text.sealed_terms bound_sealed
      (sealed_offers l.schema l.sealed_tree (text.sealed_rewritten l.sealed_tree)) db next row of here once u.1 in
      (next l.sealed_tree, (u.0, lays.1 ∙ sym (l.sealed_alone db next u.1.tables), refl), subst (λ t. PutsSealed t (next l.sealed_tree) row) (sym lays.2) put, u.2)

  drop_trail : (old new : State) (tenant number count : ℕ) (records sealed : List SqlRow) → IsKept stored_record IsOfRecord records → Lays old.now records sealed
      → Executes text.drop_trail (report_given tenant number) old new (Ok count) → Lays new.now (filter (λ c. not (passes text.trail_terms (report_given tenant number) c)) records) sealed × IsDatabase new.now
  drop_trail old new tenant number count records sealed kept lays h =
      let name = codes "record" in
      let params = report_given tenant number in
      let db = old.now.trees in
      let next = new.now.trees in
      let d = deletes l.schema l.record_at name record_columns record_key l.record_tree l.record_place l.record_free text.drop_trail params (text.doomed_by l.record_tree text.trail_terms) old new count lays.0 l.drop_trail l.drop_trail_plain h in
      let here : IsKept stored_record IsOfRecord (db l.record_tree) = subst (IsKept stored_record IsOfRecord) lays.1 kept in
      let is = deleted_is l.schema name record_columns record_key l.record_tree text.trail_terms params db next here.rising (λ c has. keyed stored_record IsOfRecord (λ id x. refl) record_back (db l.record_tree) c here has) d.1 in
      ((d.0, ap (filter (λ c. not (passes text.trail_terms params c))) lays.1 ∙ sym is, lays.2 ∙ sym (l.record_alone db next d.1.applied.tables)), d.2)

  drop_sealed : (old new : State) (tenant number count : ℕ) (records sealed : List SqlRow) → IsKept stored_sealed IsOfSealed sealed → Lays old.now records sealed
      → Executes text.drop_sealed (report_given tenant number) old new (Ok count) → Lays new.now records (filter (λ c. not (passes text.answers_terms (report_given tenant number) c)) sealed) × IsDatabase new.now
  drop_sealed old new tenant number count records sealed kept lays h =
      let name = codes "sealed" in
      let params = report_given tenant number in
      let db = old.now.trees in
      let next = new.now.trees in
      let d = deletes l.schema l.sealed_at name sealed_columns sealed_key l.sealed_tree l.sealed_place l.sealed_free text.drop_sealed params (text.doomed_by l.sealed_tree text.answers_terms) old new count lays.0 l.drop_sealed l.drop_sealed_plain h in
      let here : IsKept stored_sealed IsOfSealed (db l.sealed_tree) = subst (IsKept stored_sealed IsOfSealed) lays.2 kept in
      let is = deleted_is l.schema name sealed_columns sealed_key l.sealed_tree text.answers_terms params db next here.rising (λ c has. keyed stored_sealed IsOfSealed (λ id x. refl) sealed_back (db l.sealed_tree) c here has) d.1 in
      ((d.0, lays.1 ∙ sym (l.sealed_alone db next d.1.applied.tables), ap (filter (λ c. not (passes text.answers_terms params c))) lays.2 ∙ sym is), d.2)

  -- both tables stand here, and tell these rows
  pub record TellsHere (db : Database) (rows : List Row) : Type 0 where
    pub records : List SqlRow
    pub sealed : List SqlRow
    pub sound : IsDatabase db
    pub lays : Lays db records sealed
    pub told : AreTold records sealed rows

  here_put_record : (old new : State) (row : Row) (count : ℕ) (rows : List Row) → IsOfRecord row → TellsHere old.now rows → Executes text.put_record (bound_record row) old new (Ok count) → TellsHere new.now (changed rows (Put row))
  here_put_record old new row count rows of t h =
      let p = put_record old new row count t.records t.sealed of t.sound t.told.record_kept t.lays h in
      record { records = p.0; sealed = t.sealed; sound = p.3; lays = p.1; told = told_put_record t.records t.sealed p.0 rows row of t.told p.2 }

  here_put_sealed : (old new : State) (row : Row) (count : ℕ) (rows : List Row) → IsOfSealed row → TellsHere old.now rows → Executes text.put_sealed (bound_sealed row) old new (Ok count) → TellsHere new.now (changed rows (Put row))
  here_put_sealed old new row count rows of t h =
      let p = put_sealed old new row count t.records t.sealed of t.sound t.told.sealed_kept t.lays h in
      record { records = t.records; sealed = p.0; sound = p.3; lays = p.1; told = told_put_sealed t.records t.sealed p.0 rows row of t.told p.2 }

  here_insert_record : (old new : State) (row : Row) (count : ℕ) (rows : List Row) → IsOfRecord row → TellsHere old.now rows → Executes text.insert_record (bound_record row) old new (Ok count) → TellsHere new.now (changed rows (Put row))
  here_insert_record old new row count rows of t h =
      let p = insert_record old new row count t.records t.sealed of t.told.record_kept t.lays h in
      record { records = p.0; sealed = t.sealed; sound = p.3; lays = p.1; told = told_put_record t.records t.sealed p.0 rows row of t.told p.2 }

  here_insert_sealed : (old new : State) (row : Row) (count : ℕ) (rows : List Row) → IsOfSealed row → TellsHere old.now rows → Executes text.insert_sealed (bound_sealed row) old new (Ok count) → TellsHere new.now (changed rows (Put row))
  here_insert_sealed old new row count rows of t h =
      let p = insert_sealed old new row count t.records t.sealed of t.told.sealed_kept t.lays h in
      record { records = t.records; sealed = p.0; sound = p.3; lays = p.1; told = told_put_sealed t.records t.sealed p.0 rows row of t.told p.2 }

  here_drop : (old mid new : State) (tenant number n m : ℕ) (rows : List Row) → TellsHere old.now rows → Executes text.drop_trail (report_given tenant number) old mid (Ok n) → Executes text.drop_sealed (report_given tenant number) mid new (Ok m)
      → TellsHere new.now (changed rows (DropReport tenant number))
  here_drop old mid new tenant number n m rows t h k =
      let first = drop_trail old mid tenant number n t.records t.sealed t.told.record_kept t.lays h in
      let second = drop_sealed mid new tenant number m _ t.sealed t.told.sealed_kept first.0 k in
      record { records = _; sealed = _; sound = second.1; lays = second.0; told = told_drop t.records t.sealed rows tenant number t.told }

-- both tables are there, in one order or the other, and tell these rows
abbrev pub TellsBoth : Database → List Row → Type 0
TellsBoth db rows = TellsHere both db rows ⊎ TellsHere turned db rows

pub both_put_record : (old new : State) (row : Row) (count : ℕ) (rows : List Row) → IsOfRecord row → TellsBoth old.now rows → Executes text.put_record (bound_record row) old new (Ok count) → TellsBoth new.now (changed rows (Put row))
both_put_record old new row count rows of (inl t) h = inl (here_put_record both old new row count rows of t h)
both_put_record old new row count rows of (inr t) h = inr (here_put_record turned old new row count rows of t h)

pub both_put_sealed : (old new : State) (row : Row) (count : ℕ) (rows : List Row) → IsOfSealed row → TellsBoth old.now rows → Executes text.put_sealed (bound_sealed row) old new (Ok count) → TellsBoth new.now (changed rows (Put row))
both_put_sealed old new row count rows of (inl t) h = inl (here_put_sealed both old new row count rows of t h)
both_put_sealed old new row count rows of (inr t) h = inr (here_put_sealed turned old new row count rows of t h)

pub both_insert_record : (old new : State) (row : Row) (count : ℕ) (rows : List Row) → IsOfRecord row → TellsBoth old.now rows → Executes text.insert_record (bound_record row) old new (Ok count) → TellsBoth new.now (changed rows (Put row))
both_insert_record old new row count rows of (inl t) h = inl (here_insert_record both old new row count rows of t h)
both_insert_record old new row count rows of (inr t) h = inr (here_insert_record turned old new row count rows of t h)

pub both_insert_sealed : (old new : State) (row : Row) (count : ℕ) (rows : List Row) → IsOfSealed row → TellsBoth old.now rows → Executes text.insert_sealed (bound_sealed row) old new (Ok count) → TellsBoth new.now (changed rows (Put row))
both_insert_sealed old new row count rows of (inl t) h = inl (here_insert_sealed both old new row count rows of t h)
both_insert_sealed old new row count rows of (inr t) h = inr (here_insert_sealed turned old new row count rows of t h)

pub both_drop : (old mid new : State) (tenant number n m : ℕ) (rows : List Row) → TellsBoth old.now rows → Executes text.drop_trail (report_given tenant number) old mid (Ok n) → Executes text.drop_sealed (report_given tenant number) mid new (Ok m)
    → TellsBoth new.now (changed rows (DropReport tenant number))
both_drop old mid new tenant number n m rows (inl t) h k = inl (here_drop both old mid new tenant number n m rows t h k)
both_drop old mid new tenant number n m rows (inr t) h k = inr (here_drop turned old mid new tenant number n m rows t h k)

from_both : (db : Database) (records sealed : List SqlRow) (rows : List Row) → IsDatabase db → HasBoth db records sealed → AreTold records sealed rows → TellsBoth db rows
from_both db records sealed rows sound (inl lays) told = inl (record { records = records; sealed = sealed; sound = sound; lays = lays; told = told })
from_both db records sealed rows sound (inr lays) told = inr (record { records = records; sealed = sealed; sound = sound; lays = lays; told = told })

-- once the tables are made
pub both_made : (old mid new : State) (n m : ℕ) (rows : List Row) → Tells old.now rows → Executes text.make_record [] old mid (Ok n) → Executes text.make_sealed [] mid new (Ok m) → TellsBoth new.now rows
both_made old mid new n m rows t h k =
    let first = record_made old mid n t.records t.sealed t.tables h in
    let sound = record_sound old mid n t.records t.sealed t.sound t.tables h in
    from_both new.now t.records t.sealed rows (sealed_sound mid new m t.records t.sealed sound first k) (sealed_made mid new m t.records t.sealed first k) t.told

pub both_tells : (db : Database) (rows : List Row) → TellsBoth db rows → Tells db rows
both_tells db rows (inl t) = record { sound = t.sound; records = t.records; sealed = t.sealed; tables = inr (inr (inr (inl t.lays))); told = t.told }
both_tells db rows (inr t) = record { sound = t.sound; records = t.records; sealed = t.sealed; tables = inr (inr (inr (inr t.lays))); told = t.told }

-- the two selections are queries and nothing else
pub both_plain_record : (db : Database) (rows : List Row) → TellsBoth db rows → IsPlain (understood db.schema text.read_record)
both_plain_record db rows (inl t) = subst (λ s. IsPlain (understood s text.read_record)) (sym t.lays.0) both.select_record_plain
both_plain_record db rows (inr t) = subst (λ s. IsPlain (understood s text.read_record)) (sym t.lays.0) turned.select_record_plain

pub both_plain_sealed : (db : Database) (rows : List Row) → TellsBoth db rows → IsPlain (understood db.schema text.read_sealed)
both_plain_sealed db rows (inl t) = subst (λ s. IsPlain (understood s text.read_sealed)) (sym t.lays.0) both.select_sealed_plain
both_plain_sealed db rows (inr t) = subst (λ s. IsPlain (understood s text.read_sealed)) (sym t.lays.0) turned.select_sealed_plain
