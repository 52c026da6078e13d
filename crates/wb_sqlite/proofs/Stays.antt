-- A query changes nothing, however it ends.
use Rattle.std.proofs.Common.{◌≡◌, ◌⊎◌, List, ℕ, [], Option, Some, None, Result, Ok, Err, IfErr, IsOk, OnErr, IsTrue, inl, inr, refl, sym, subst, ◌∙◌}
use Rattle.sqlite_value.specs.Order.{Row as SqlRow}
use Rattle.sqlite_trees.specs.declared.store.Store.{Ghosts}
use Rattle.sqlite_schema.specs.declared.command.Returning.{Returning}
use Rattle.sqlite_resolve.specs.declared.compiled.Compiled.{Compiled}
use Rattle.sqlite_resolve.specs.declared.error.CompileError.{CompileError}
use Rattle.sqlite.specs.declared.error.Error.{Error}
use Rattle.sqlite.specs.Effect.{Database}
use Rattle.sqlite.specs.Held.{Held, state}
use Rattle.sqlite.specs.Given.{IsPlain, HasBegun, IsRefused}
use Rattle.sqlite.specs.Listing.{understood}
use Rattle.sqlite.specs.Outline.{Outline}
use Rattle.sqlite.specs.Steps.{Outlines}
use Rattle.sqlite.specs.State.{State, IsUnchanged, IsRolledBack, Fails, FailsToQuery, FailsToShow, IsNotRun, Shown, ShowsRows, HasCleanDisk, KeepsCommit}
use Rattle.sqlite.proofs.Callers.{begun_plain}
use Rattle.wb_base.specs.declared.rows.Row.{Row}
use Rattle.wb_stored.specs.Told.{HoldsRows, Tells}
use Rattle.wb_sqlite.specs.Staying.{StaysAs}

pub stays_same : (a : State) → StaysAs a a
stays_same a = record { was_open = λ up. up; now = λ up settled. refl; committed = λ up settled. refl }

pub stays_then : (a b c : State) → StaysAs a b → StaysAs b c → StaysAs a c
stays_then a b c p q = record {
  was_open = λ up. p.was_open (q.was_open up);
  now = λ up settled. let on = q.was_open up in q.now up (p.now on settled ∙ settled ∙ sym (p.committed on settled)) ∙ p.now on settled;
  committed = λ up settled. let on = q.was_open up in q.committed up (p.now on settled ∙ settled ∙ sym (p.committed on settled)) ∙ p.committed on settled;
}

pub unchanged_stays : (a b : State) → IsUnchanged a b → StaysAs a b
unchanged_stays a b same = record { was_open = λ up. same.0.was_open; now = λ up settled. same.0.now_is; committed = λ up settled. same.0.committed_is }

back_stays : (a b : State) → IsRolledBack a b → StaysAs a b
back_stays a b back = record { was_open = back.was_open; now = λ up settled. (back.undone up).0 ∙ sym settled; committed = λ up settled. (back.undone up).1 }

pub fails_stays : (a b : State) (too_big : Type 0) (e : Error) → Fails a b too_big e → StaysAs a b
fails_stays a b too_big e (cause, is, why, back, told) = back_stays a b back

shows_stays : (a b : State) (sql : List ℕ) (c : Compiled) (params : SqlRow) (e : Error) (returning : Option Returning) → FailsToShow a b sql c params e returning → StaysAs a b
shows_stays a b sql c params e None h = unchanged_stays a b h.3
shows_stays a b sql c params e (Some what) (inl h) = unchanged_stays a b h.1
shows_stays a b sql c params e (Some what) (inr h) = fails_stays a b _ e h

pub query_stays : (sql : List ℕ) (params : SqlRow) (a b : State) (e : Error) → FailsToQuery sql params a b e → StaysAs a b
unfolding FailsToQuery IsNotRun
query_stays sql params a b e (inl (inl h)) = unchanged_stays a b h.1
query_stays sql params a b e (inl (inr h)) = fails_stays a b _ e h
query_stays sql params a b e (inr (c, it, h)) = shows_stays a b sql c _ e c.returning h

pub advance_stays : (a b : State) (too_big : Type 0) (e : Error) → Fails a b too_big e ⊎ IsUnchanged a b → StaysAs a b
advance_stays a b too_big e (inl h) = fails_stays a b too_big e h
advance_stays a b too_big e (inr h) = unchanged_stays a b h

rows_open : (a b : State) (sql : List ℕ) (c : Compiled) (params : SqlRow) (rows : List SqlRow) (returning : Option Returning) → ShowsRows a b sql c params rows returning → IsTrue a.is_open
rows_open a b sql c params rows None h = h.3.0.was_open
rows_open a b sql c params rows (Some what) (count, w, is) = w.shown.was_open

shown_open : (sql : List ℕ) (params : SqlRow) (a b : State) (rows : List SqlRow) → Shown sql params a b rows → IsTrue a.is_open
unfolding Shown
shown_open sql params a b rows (c, it, h) = rows_open a b sql c _ rows c.returning h

module _ {S : Type 0} (g : Ghosts S) (sql : List ℕ) (params : SqlRow) where
  pub begun_open : (a b : Held S) → HasBegun g sql params a b → IsTrue (state g a).is_open
  begun_open a b (inl h) = h.1.0.was_open
  begun_open a b (inr h) = shown_open sql params (state g a) (state g b) _ h.1

  pub begun_stays : (a b : Held S) → IsPlain (understood a.schema sql) → HasBegun g sql params a b → StaysAs (state g a) (state g b)
  begun_stays a b plain h = unchanged_stays (state g a) (state g b) (begun_plain g sql params a b plain h).1

-- rows that are told still are
pub stays_hold : (a b : State) (rows : List Row) → StaysAs a b → IsTrue b.is_open → HoldsRows a rows → HoldsRows b rows
stays_hold a b rows stays up holds =
    let now = stays.now up holds.settled in
    record { settled = now ∙ holds.settled ∙ sym (stays.committed up holds.settled); told = subst (λ (d : Database). Tells d rows) (sym now) holds.told }

-- a query that does not begin
pub refused_stays : {S X : Type 0} (g : Ghosts S) (sql : List ℕ) (params : SqlRow) (old new : Held S) (result : Result X Error) (e : Error) → result ≡ Err e → OnErr result (IsRefused g sql params old result new) → HasCleanDisk (state g new) → StaysAs (state g old) (state g new)
refused_stays g sql params old new result e is held clean =
    query_stays sql params (state g old) (state g new) e ((subst (λ (r : Result _ Error). OnErr r (IsRefused g sql params old r new)) is held).err clean)

not_run_keeps : (sql : List ℕ) (params : SqlRow) (a b : State) (e : Error) → IsNotRun a b sql params e → KeepsCommit a b
unfolding IsNotRun
not_run_keeps sql params a b e (inl h) = record { was_open = λ _. h.1.0.was_open; committed = λ _. h.1.0.committed_is }
not_run_keeps sql params a b e (inr (cause, is, why, back, told)) = record { was_open = back.was_open; committed = λ up. (back.undone up).1 }

-- a statement that is not understood
pub unprepared_keeps : {X : Type 0} (sql : List ℕ) (a b : State) (r : Result X Error) (e : Error) → r ≡ Err e → IfErr r (λ why. (params : SqlRow) → IsNotRun a b sql params why) → KeepsCommit a b
unprepared_keeps sql a b r e is h = not_run_keeps sql [] a b e (subst (λ (r : Result _ Error). IfErr r (λ why. (params : SqlRow) → IsNotRun a b sql params why)) is h [])

pub unchanged_keeps : (a b : State) → IsUnchanged a b → KeepsCommit a b
unchanged_keeps a b same = record { was_open = λ _. same.0.was_open; committed = λ _. same.0.committed_is }

-- a text that is prepared is understood
pub outlined : (r : Result Compiled CompileError) (outline : Outline) → Outlines r outline → IsOk r
outlined (Ok c) outline is = refl
outlined (Err e) outline none = absurd none
