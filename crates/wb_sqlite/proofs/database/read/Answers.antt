use Rattle.std.proofs.Common.{rules, ◌≡◌, ℕ, List, Option, Some, None, [], refl, sym, subst, ◌∙◌, arith}
use Rattle.sqlite_value.specs.Order.{Row as SqlRow}
use Rattle.sqlite.specs.Given.{IsPlain, HasBegun, Advances, HandsOn, row_if}
use Rattle.sqlite.specs.Held.{Held, state}
use Rattle.sqlite.specs.Listing.{understood}
use Rattle.sqlite.specs.State.{HasCleanDisk}
use Rattle.wb_sqlite.specs.Readings.{Reads, IsRowOf, selection_of}
use Rattle.wb_sqlite.proofs.Stays.{begun_open, begun_stays, stays_then, unchanged_stays, refused_stays}
use Rattle.wb_sqlite.proofs.Reading.{reads_none, reads_one, reads_all}
use Rattle.wb_sqlite.proofs.database.read.Goals as goal

pub loop-init : goal.loop-init
loop-init g c =
    let made = c.in_ok-given.ensures in
    let table = c.args.table in
    let old = c.args.conn.now in
    let now = c.in_ok-given.given.conn.now in
    let said : c.selection.result.now ≡ selection_of table = c.selection.ensures in (
      refl,
      made.mode c.requires,
      λ clean. omega (arith, made.survives.clean),
      λ clean. reads_none g.S.Store (IsRowOf table) (selection_of table) old now c.args.rows.now.items (subst (λ (text : List ℕ). HasBegun g.S.Store text [] old now) said (made.begun clean)),
      λ clean up. begun_open g.S.Store c.selection.result.now [] old now (made.begun clean),
      λ clean plain. begun_stays g.S.Store c.selection.result.now [] old now (subst (λ (text : List ℕ). IsPlain (understood old.schema text)) (sym said) plain) (made.begun clean),
    )

pub loop-preserved : goal.loop-preserved
loop-preserved g c =
    let inv = c.loop.invariant in
    let moved = c.in_ok-advance.ensures in
    let mid = c.loop.given.conn.now in
    let now = c.advance.new.self.conn.now in
    let row = c.in-Some.row.now in
    let some : row_if c.advance.new.self.has_row now ≡ Some row = search rules in (
      moved.same_reference ∙ inv.0,
      moved.mode inv.1,
      λ clean. inv.2 (omega (arith, moved.survives.clean)),
      λ clean.
          let early : HasCleanDisk (state g.S.Store mid) = omega (arith, moved.survives.clean) in
          let on = subst (λ (next : Option SqlRow). Advances g.S.Store mid now next) some (moved.ok clean) in
          let hands = subst (λ (next : Option SqlRow). HandsOn mid now next) some (moved.hands clean) in
          reads_one g.S.Store (IsRowOf c.args.table) (selection_of c.args.table) c.args.conn.now mid now c.args.rows.now.items c.loop.rows.items c.add.new.rows.items row c.in_ok-kept_row-in-Some.field-0 (inv.3 early) on (moved.same clean) hands c.in_ok-kept_row-in-Some.ensures c.in_ok-add-in-Some.ensures,
      λ clean up. inv.4 (omega (arith, moved.survives.clean)) (moved.same clean).0.was_open,
      λ clean plain. stays_then (state g.S.Store c.args.conn.now) (state g.S.Store mid) (state g.S.Store now) (inv.5 (omega (arith, moved.survives.clean)) plain) (unchanged_stays (state g.S.Store mid) (state g.S.Store now) (moved.same clean)),
    )

pub returns-in-None-clause-read : goal.returns-in-None-clause-read
returns-in-None-clause-read g c clean =
    let inv = c.loop.invariant in
    let moved = c.in_ok-advance.ensures in
    let mid = c.loop.given.conn.now in
    let now = c.advance.new.self.conn.now in
    let same : now ≡ c.conn-in-None-1.given.0 = search rules in
    let clean_now : HasCleanDisk (state g.S.Store now) = subst (λ (h : Held _). HasCleanDisk (state g.S.Store h)) (sym same) clean in
    let none : row_if c.advance.new.self.has_row now ≡ None = search rules in
    let early : HasCleanDisk (state g.S.Store mid) = omega (arith, moved.survives.clean) in
    let on = subst (λ (next : Option SqlRow). Advances g.S.Store mid now next) none (moved.ok clean_now) in
    let hands = subst (λ (next : Option SqlRow). HandsOn mid now next) none (moved.hands clean_now) in
    let all = reads_all g.S.Store (IsRowOf c.args.table) (selection_of c.args.table) c.args.conn.now mid now c.args.rows.now.items c.loop.rows.items (inv.3 early) on (moved.same clean_now) hands in
    subst (λ (h : Held _). Reads g.S.Store (IsRowOf c.args.table) (selection_of c.args.table) c.args.conn.now h c.args.rows.now.items c.loop.rows.items) same all

pub returns-in_err-given-clause-back : goal.returns-in_err-given-clause-back
returns-in_err-given-clause-back g c clean up = (refused_stays g.S.Store c.selection.result.now [] c.args.conn.now c.query.follows.lender-at-none c.query.result c.in_err-given.field-0.0 c.in_err-given.was c.query.follows.holds-at-none clean).was_open up

pub returns-in_err-given-clause-stays : goal.returns-in_err-given-clause-stays
returns-in_err-given-clause-stays g c clean plain = refused_stays g.S.Store c.selection.result.now [] c.args.conn.now c.query.follows.lender-at-none c.query.result c.in_err-given.field-0.0 c.in_err-given.was c.query.follows.holds-at-none clean
