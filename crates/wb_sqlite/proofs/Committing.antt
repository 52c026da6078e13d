-- A transaction that was begun, in which statements were made: what its commit leaves, and what it leaves where it fails.
use Rattle.std.proofs.Common.{◌≡◌, ℕ, List, ◌++◌, All, IsOk, IsTrue, inl, inr, refl, sym, subst, ap, ◌∙◌, true, false}
use Rattle.sqlite_trees.specs.declared.store.Store.{Ghosts}
use Rattle.sqlite_trees.specs.Tree.{Trees}
use Rattle.sqlite.specs.Effect.{Database}
use Rattle.sqlite.specs.Held.{Held, state}
use Rattle.sqlite.specs.Listing.{understood}
use Rattle.sqlite.specs.State.{State, Survives, HasCleanDisk, KeepsCommit, Shows}
use Rattle.sqlite.specs.Steps.{FailsToCommit}
use Rattle.sqlite.specs.declared.error.Error.{Error}
use Rattle.wb_base.specs.declared.rows.Change.{Change}
use Rattle.wb_sqlite.specs.Statements.{Statement, Makes, make_tables, all_statements, CommitsAll, IsAsCommitted, LeavesAsBefore, Understands}
use Rattle.wb_sqlite.proofs.Making.{makes_inside, makes_keeps, clean_before}

-- what a commit that fails leaves
record IsUndone (a b : State) : Type 0 where
  pub was_open : IsTrue a.is_open
  pub now : b.now ≡ a.committed
  pub committed : b.committed ≡ a.committed

commit_failed : (a b : State) (e : Error) → FailsToCommit a b e → IsTrue a.in_transaction → IsTrue b.is_open → IsUndone a b
commit_failed a b e (inl (cause, is, why, back, told)) inside up = record { was_open = back.was_open up; now = (back.undone up).0; committed = (back.undone up).1 }
commit_failed a b e (inr (is, outside, same)) inside up = absurd (let e : true ≡ false = sym inside ∙ outside in cc)

module _ {S : Type 0} (g : Ghosts S) where
  -- before the commit: the statements were made since it was begun, and nothing else was
  pub record IsReady (xs : List Statement) (before last : Held S) : Type 0 where
    pub mid : Held S
    pub made : Makes g xs (record before { in_transaction = true }) mid
    pub now : (state g last).now ≡ (state g mid).now
    pub inside : IsTrue last.in_transaction
    pub committed : IsTrue (state g last).is_open → (state g last).committed ≡ (state g before).committed

  pub is_ready : (xs : List Statement) (before start last : Held S) → start ≡ record before { in_transaction = true } → (IsTrue start.in_transaction → Makes g xs start last) → IsReady xs before last
  is_ready xs before start last begun makes =
      let inside : IsTrue start.in_transaction = ap (λ (h : Held S). h.in_transaction) begun in
      let made = makes inside in
      record {
        mid = last;
        made = subst (λ (h : Held S). Makes g xs h last) begun made;
        now = refl;
        inside = makes_inside g xs start last made inside;
        committed = λ up. (makes_keeps g xs start last made).committed up ∙ ap (λ (h : Held S). (state g h).committed) begun;
      }

  -- the tables were only looked at since
  pub still_ready : (xs : List Statement) (before start mid last : Held S) → start ≡ record before { in_transaction = true } → (HasCleanDisk (state g mid) → IsTrue start.in_transaction → Makes g xs start mid) → LeavesAsBefore g mid last
      → (HasCleanDisk (state g last) → (state g last).now ≡ (state g mid).now) → (HasCleanDisk (state g last) → last.in_transaction ≡ mid.in_transaction) → (HasCleanDisk (state g last) → KeepsCommit (state g mid) (state g last)) → HasCleanDisk (state g last) → IsReady xs before last
  still_ready xs before start mid last begun makes survives same mode keeps clean =
      let was = is_ready xs before start mid begun (makes (clean_before (state g mid) (state g last) _ survives clean)) in
      let kept = keeps clean in
      record {
        mid = was.mid;
        made = was.made;
        now = same clean ∙ was.now;
        inside = mode clean ∙ was.inside;
        committed = λ up. kept.committed up ∙ was.committed (kept.was_open up);
      }

  pub commits : (changes : List Change) (before last end new : Held S) (Commits : Trees → Type 0) → (HasCleanDisk (state g last) → IsReady (make_tables ++ all_statements changes) before last) → Survives (state g last) (state g end) Commits
      → (HasCleanDisk (state g end) → Shows (state g last) (state g end) (state g last).now (state g last).now false) → end ≡ new → HasCleanDisk (state g new) → CommitsAll g changes before new
  commits changes before last end new Commits ready ends shows same clean =
      let clean_end : HasCleanDisk (state g end) = subst (λ (h : Held S). HasCleanDisk (state g h)) (sym same) clean in
      let it = ready (clean_before (state g last) (state g end) Commits ends clean_end) in
      let s = shows clean_end in
      subst (CommitsAll g changes before) same (record { last = it.mid; made = it.made; committed = s.committed_is ∙ it.now; now = s.now_is ∙ it.now })

  pub commits_not : (xs : List Statement) (before last end new : Held S) (Commits : Trees → Type 0) (e : Error) → (HasCleanDisk (state g last) → IsReady xs before last) → Survives (state g last) (state g end) Commits
      → (HasCleanDisk (state g end) → FailsToCommit (state g last) (state g end) e) → end ≡ new → HasCleanDisk (state g new) → IsTrue (state g new).is_open → IsAsCommitted g before new
  commits_not xs before last end new Commits e ready ends fails same clean up =
      let clean_end : HasCleanDisk (state g end) = subst (λ (h : Held S). HasCleanDisk (state g h)) (sym same) clean in
      let it = ready (clean_before (state g last) (state g end) Commits ends clean_end) in
      let undone = commit_failed (state g last) (state g end) e (fails clean_end) it.inside (subst (λ (h : Held S). IsTrue (state g h).is_open) (sym same) up) in
      let kept = it.committed undone.was_open in
      subst (IsAsCommitted g before) same (record { now = undone.now ∙ kept; committed = undone.committed ∙ kept })

  -- what was understood before the commit is understood after it
  pub still_understands : (texts : List (List ℕ)) (mid last end new : Held S) (Commits : Trees → Type 0) → (HasCleanDisk (state g last) → Understands g mid texts) → (HasCleanDisk (state g last) → (state g last).now ≡ (state g mid).now) → Survives (state g last) (state g end) Commits
      → (HasCleanDisk (state g end) → Shows (state g last) (state g end) (state g last).now (state g last).now false) → end ≡ new → HasCleanDisk (state g new) → Understands g new texts
  still_understands texts mid last end new Commits told same ends shows is clean =
      let clean_end : HasCleanDisk (state g end) = subst (λ (h : Held S). HasCleanDisk (state g h)) (sym is) clean in
      let clean_last : HasCleanDisk (state g last) = clean_before (state g last) (state g end) Commits ends clean_end in
      let now : (state g end).now ≡ (state g mid).now = (shows clean_end).now_is ∙ same clean_last in
      subst (λ (h : Held S). Understands g h texts) is (subst (λ (d : Database). All (λ text. IsOk (understood d.schema text)) texts) (sym now) (told clean_last))
