use Rattle.std.proofs.Common.{[], ◌++◌, List, IsTrue, subst, sym, ap, ◌∙◌}
use Rattle.sqlite.specs.Held.{state}
use Rattle.sqlite.specs.State.{HasCleanDisk}
use Rattle.wb_list.specs.Keyed.{IsAscending}
use Rattle.wb_base.specs.declared.rows.Row.{Row}
use Rattle.wb_base.specs.KeptRows.{key_cmp, key_of}
use Rattle.wb_stored.specs.Told.{HoldsRows}
use Rattle.wb_sqlite.specs.declared.table.Table.TheVariants.{Record, Sealed}
use Rattle.wb_sqlite.specs.Readings.{Reads, IsRowOf, selection_of}
use Rattle.wb_sqlite.proofs.Loading.{first_hold, both_hold, loads_told}
use Rattle.wb_sqlite.proofs.Reading.{reads_alone}
use Rattle.wb_sqlite.proofs.database.load_all.Given as given
use Rattle.wb_sqlite.proofs.database.load_all.Goals as goal
use Rattle.wb_sqlite.proofs.database.load_all.Goals.{After-read, After-read-2}

pub returns-clause-loads : goal.returns-clause-loads
returns-clause-loads g c clean =
    let made = c.make_tables.new.conn in
    let mid = c.read.new.conn in
    let new = c.read-2.new.conn in
    let low = c.in_ok-rows.rows.items in
    let high = c.in_ok-rows.high.items in
    let front = c.read-2.new.rows.items in
    let clean_mid : HasCleanDisk (state g.S.Store mid) = c.read-2.ensures.clean clean in
    let clean_made : HasCleanDisk (state g.S.Store made) = c.read.ensures.clean clean_mid in
    let records : Reads g.S.Store (IsRowOf Record) (selection_of Record) made mid [] c.read.new.rows.items =
    subst (λ (xs : List Row). Reads g.S.Store (IsRowOf Record) (selection_of Record) made mid xs c.read.new.rows.items) c.new-records.ensures (c.in_ok-read.ensures.read clean_mid) in
    let sealed : Reads g.S.Store (IsRowOf Sealed) (selection_of Sealed) mid new low front = c.in_ok-read-2.ensures.read clean in
    record {
      made = made;
      tables = c.in_ok-make_tables.ensures.made clean_made;
      understood = c.in_ok-make_tables.ensures.understood clean_made;
      low = low;
      sealed = sealed.added;
      high = high;
      mid = mid;
      first = subst (λ (xs : List Row). Reads g.S.Store (IsRowOf Record) (selection_of Record) made mid [] xs) c.in_ok-rows.ensures records;
      then = reads_alone g.S.Store (IsRowOf Sealed) (selection_of Sealed) mid new low front sealed;
      whole = c.into_vec.ensures.all ∙ c.in_ok-add_all.ensures ∙ ap (λ (xs : List Row). xs ++ high) sealed.behind;
    }

pub returns-clause-all : goal.returns-clause-all
returns-clause-all g c clean open_new rows holds =
    let up : IsAscending key_cmp key_of c.into_vec.result.items = subst (IsAscending key_cmp key_of) (sym c.into_vec.ensures.all) c.into_vec.ensures.ascending in
    loads_told g.S.Store c.args.conn.now c.read-2.new.conn rows c.into_vec.result.items holds up (returns-clause-loads g c clean)

-- the rows that were told still are, once the first query has ended, and once both have
first : (g : given.Over) (c : After-read g) → HasCleanDisk (state g.S.Store c.read.new.conn) → IsTrue (state g.S.Store c.read.new.conn).is_open → (rows : List Row) → HoldsRows (state g.S.Store c.args.conn.now) rows → HoldsRows (state g.S.Store c.read.new.conn) rows
first g c clean up rows holds = first_hold g.S.Store c.args.conn.now c.make_tables.new.conn c.read.new.conn rows holds (c.in_ok-make_tables.ensures.made (c.read.ensures.clean clean)) (c.read.ensures.stays clean) up

both : (g : given.Over) (c : After-read-2 g) → HasCleanDisk (state g.S.Store c.read-2.new.conn) → IsTrue (state g.S.Store c.read-2.new.conn).is_open → (rows : List Row) → HoldsRows (state g.S.Store c.args.conn.now) rows → HoldsRows (state g.S.Store c.read-2.new.conn) rows
both g c clean up rows holds =
    let clean_mid : HasCleanDisk (state g.S.Store c.read.new.conn) = c.read-2.ensures.clean clean in
    let clean_made : HasCleanDisk (state g.S.Store c.make_tables.new.conn) = c.read.ensures.clean clean_mid in
    both_hold g.S.Store c.args.conn.now c.make_tables.new.conn c.read.new.conn c.read-2.new.conn rows holds (c.in_ok-make_tables.ensures.made clean_made) (c.read.ensures.stays clean_mid) (c.read-2.ensures.stays clean) (c.read-2.ensures.back clean up) up

pub returns-in_err-read-clause-same : goal.returns-in_err-read-clause-same
returns-in_err-read-clause-same g c = first g (goal.at.returns-in_err-read-clause-same g c).After-read

pub returns-in_err-rows-clause-same : goal.returns-in_err-rows-clause-same
returns-in_err-rows-clause-same g c = first g (goal.at.returns-in_err-rows-clause-same g c).After-read

pub returns-in_err-read-2-clause-same : goal.returns-in_err-read-2-clause-same
returns-in_err-read-2-clause-same g c = both g (goal.at.returns-in_err-read-2-clause-same g c).After-read-2

pub returns-in_err-add_all-clause-same : goal.returns-in_err-add_all-clause-same
returns-in_err-add_all-clause-same g c = both g (goal.at.returns-in_err-add_all-clause-same g c).After-read-2

pub returns-clause-same : goal.returns-clause-same
returns-clause-same g c = both g (goal.at.returns-clause-same g c).After-read-2
