-- What a load gives, and what it leaves, of told rows.
use Rattle.std.proofs.Common.{◌≡◌, ℕ, List, [], ◌++◌, IsTrue, sym, subst, ◌∙◌}
use Rattle.sqlite_value.specs.Order.{Row as SqlRow}
use Rattle.sqlite_trees.specs.declared.store.Store.{Ghosts}
use Rattle.sqlite.specs.Effect.{Database}
use Rattle.sqlite.specs.Given.{IsPlain}
use Rattle.sqlite.specs.Held.{Held, state}
use Rattle.sqlite.specs.Listing.{understood}
use Rattle.sqlite.specs.State.{State, Shown, ShowsRows}
use Rattle.wb_list.specs.Keyed.{IsAscending}
use Rattle.wb_base.specs.declared.rows.Row.{Row}
use Rattle.wb_base.specs.KeptRows.{key_cmp, key_of}
use Rattle.wb_stored.specs.StoredRows.{IsRecordRow, IsSealedRow, AreInTurn}
use Rattle.wb_stored.specs.Texts.{read_record, read_sealed}
use Rattle.wb_stored.specs.Told.{HoldsRows}
use Rattle.wb_stored.proofs.Stands.{TellsBoth, both_plain_record, both_plain_sealed}
use Rattle.wb_stored.proofs.Readings.{read_both}
use Rattle.wb_sqlite.specs.Staying.{StaysAs}
use Rattle.wb_sqlite.specs.Statements.{CommitsAll}
use Rattle.wb_sqlite.specs.Readings.{LoadsAll}
use Rattle.wb_sqlite.proofs.Batches.{commits_both, commits_hold}
use Rattle.wb_sqlite.proofs.Stays.{stays_hold}

-- a query that is none with RETURNING leaves the database
shown_same : (sql : List ℕ) (params : SqlRow) (a b : State) (rows : List SqlRow) → IsPlain (understood a.now.schema sql) → Shown sql params a b rows → b.now ≡ a.now
unfolding Shown
shown_same sql params a b rows plain (c, it, h) =
    let none = (subst IsPlain it.is plain).0 in
    (subst (ShowsRows a b sql c _ rows) none h).3.0.now_is

module _ {S : Type 0} (g : Ghosts S) where
  -- once the tables are made
  pub made_plain : (old made : Held S) (rows : List Row) → HoldsRows (state g old) rows → CommitsAll g [] old made → IsPlain (understood made.schema read_record)
  made_plain old made rows holds c = both_plain_record (state g made).now rows (commits_both g [] old made rows tt holds c)

  -- after the first query, however it ended
  pub first_hold : (old made new : Held S) (rows : List Row) → HoldsRows (state g old) rows → CommitsAll g [] old made → (IsPlain (understood made.schema read_record) → StaysAs (state g made) (state g new))
      → IsTrue (state g new).is_open → HoldsRows (state g new) rows
  first_hold old made new rows holds c stays up = stays_hold (state g made) (state g new) rows (stays (made_plain old made rows holds c)) up (commits_hold g [] old made rows tt holds c)

  -- after both
  pub both_hold : (old made mid new : Held S) (rows : List Row) → HoldsRows (state g old) rows → CommitsAll g [] old made → (IsPlain (understood made.schema read_record) → StaysAs (state g made) (state g mid))
      → (IsPlain (understood mid.schema read_sealed) → StaysAs (state g mid) (state g new)) → IsTrue (state g mid).is_open → IsTrue (state g new).is_open → HoldsRows (state g new) rows
  both_hold old made mid new rows holds c one two up_mid up =
      let first = first_hold old made mid rows holds c one up_mid in
      let before = commits_hold g [] old made rows tt holds c in
      let now : (state g mid).now ≡ (state g made).now = (one (made_plain old made rows holds c)).now up_mid before.settled in
      let tells = commits_both g [] old made rows tt holds c in
      let plain : IsPlain (understood mid.schema read_sealed) = both_plain_sealed (state g mid).now rows (subst (λ (d : Database). TellsBoth d rows) (sym now) tells) in
      stays_hold (state g mid) (state g new) rows (two plain) up first

  -- what is loaded is what is told
  pub loads_told : (old new : Held S) (rows loaded : List Row) → HoldsRows (state g old) rows → IsAscending key_cmp key_of loaded → LoadsAll g old new loaded → loaded ≡ rows
  loads_told old new rows loaded holds up l =
      let one = l.first in
      let two = l.then in
      let tells : TellsBoth (state g one.from).now rows = subst (λ (d : Database). TellsBoth d rows) (sym one.over) (commits_both g [] old l.made rows tt holds l.tables) in
      let plain = both_plain_record (state g one.from).now rows tells in
      let same : (state g two.from).now ≡ (state g one.from).now = two.over ∙ one.left ∙ shown_same read_record [] (state g one.from) (state g one.to) one.shown plain one.answer in
      let records : AreInTurn IsRecordRow one.shown (l.low ++ l.high) = subst (AreInTurn IsRecordRow one.shown) (sym one.behind) one.each in
      let sealed : AreInTurn IsSealedRow two.shown l.sealed = subst (AreInTurn IsSealedRow two.shown) (sym two.behind) two.each in
      l.whole ∙ read_both (state g one.from) (state g one.to) (state g two.from) (state g two.to) one.shown two.shown rows l.low l.high l.sealed tells one.answer records same two.answer sealed (subst (IsAscending key_cmp key_of) l.whole up)
