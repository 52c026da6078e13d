-- Statements made in turn: joined, and what they keep.
use Rattle.std.proofs.Common.{◌≡◌, ℕ, Option, Some, None, List, [], ◌∷◌, ◌++◌, Result, Ok, Err, IfOk, OnOk, OnErr, IsTrue, inl, inr, refl, sym, subst, ◌∙◌, arith, true, false}
use Rattle.std.proofs.lemmas.Bool.{cases_Bool}
use Rattle.sqlite_value.specs.Order.{Row as SqlRow}
use Rattle.sqlite_trees.specs.declared.store.Store.{Ghosts}
use Rattle.sqlite.specs.Held.{Held, state}
use Rattle.sqlite_trees.specs.Tree.{Trees}
use Rattle.sqlite.specs.State.{State, Survives, HasCleanDisk, KeepsCommit, IsUnchanged, ExecutesInside}
use Rattle.sqlite.specs.declared.error.Error.{Error}
use Rattle.wb_base.specs.declared.rows.Change.{Change}
use Rattle.wb_sqlite.specs.Statements.{Statement, IsMade, Makes, OkMakes, LeavesAsBefore, statements_of, all_statements}

-- what is made after what was made is made after both
pub makes_then : {S : Type 0} (g : Ghosts S) (xs ys : List Statement) (a b c : Held S) → Makes g xs a b → Makes g ys b c → Makes g (xs ++ ys) a c
makes_then g [] ys a b c first second = subst (λ m. Makes g ys m c) first second
makes_then g (x ∷ xs) ys a b c (mid, made, rest) second = (mid, made, makes_then g xs ys mid b c rest second)

-- nothing was committed by what committed nothing twice
pub keeps_then : (a b c : State) → KeepsCommit a b → KeepsCommit b c → KeepsCommit a c
keeps_then a b c one two = record {
  was_open = λ up. one.was_open (two.was_open up);
  committed = λ up. two.committed up ∙ one.committed (two.was_open up);
}

pub keeps_same : (a : State) → KeepsCommit a a
keeps_same a = record { was_open = λ up. up; committed = λ up. refl }

-- after a statement the transaction is still open
made_inside : {S : Type 0} (g : Ghosts S) (tried : Option (List ℕ)) (text : List ℕ) (given : SqlRow) (a b : Held S) → IsMade g tried text given a b → IsTrue b.in_transaction
made_inside g None text given a b ran = ran.1.1.mode
made_inside g (Some tried) text given a b (inl ran) = ran.1.1.mode
made_inside g (Some tried) text given a b (inr (same, still, ran)) = ran.1.1.mode

-- and it committed nothing
made_keeps : {S : Type 0} (g : Ghosts S) (tried : Option (List ℕ)) (text : List ℕ) (given : SqlRow) (a b : Held S) → IsMade g tried text given a b → KeepsCommit (state g a) (state g b)
made_keeps g None text given a b ran = record { was_open = λ up. ran.1.1.was_open; committed = λ up. ran.1.1.committed_is }
made_keeps g (Some tried) text given a b (inl ran) = record { was_open = λ up. ran.1.1.was_open; committed = λ up. ran.1.1.committed_is }
made_keeps g (Some tried) text given a b (inr (same, still, ran)) = record { was_open = λ up. still.0.was_open; committed = λ up. ran.1.1.committed_is ∙ still.0.committed_is }

-- the transaction is still open
pub makes_inside : {S : Type 0} (g : Ghosts S) (xs : List Statement) (a b : Held S) → Makes g xs a b → IsTrue a.in_transaction → IsTrue b.in_transaction
makes_inside {S} g [] a b same inside = subst (λ (s : Held S). IsTrue s.in_transaction) (sym same) inside
makes_inside g (x ∷ xs) a b (mid, made, rest) inside = makes_inside g xs mid b rest (made_inside g x.tried x.text x.given a mid made)

-- nothing was committed
pub makes_keeps : {S : Type 0} (g : Ghosts S) (xs : List Statement) (a b : Held S) → Makes g xs a b → KeepsCommit (state g a) (state g b)
makes_keeps {S} g [] a b same = subst (λ (s : Held S). KeepsCommit (state g a) (state g s)) (sym same) (keeps_same (state g a))
makes_keeps g (x ∷ xs) a b (mid, made, rest) = keeps_then (state g a) (state g mid) (state g b) (made_keeps g x.tried x.text x.given a mid made) (makes_keeps g xs mid b rest)

-- what is made after what was made, if it is
makes_on : {S T E : Type 0} (g : Ghosts S) (xs ys : List Statement) (a b c : Held S) (r : Result T E) → Makes g xs a b → OnOk r (Makes g ys b c) → OnOk r (Makes g (xs ++ ys) a c)
makes_on g xs ys a b c (Ok value) first second = makes_then g xs ys a b c first second
makes_on g xs ys a b c (Err e) first second = tt

-- a clean disk was clean before
pub clean_before : (a b : State) (Commits : Trees → Type 0) → Survives a b Commits → HasCleanDisk b → HasCleanDisk a
clean_before a b Commits survives clean = omega (arith, survives.clean)

-- a call after one that was Ok
pub made_both : {S T E : Type 0} (g : Ghosts S) (xs ys : List Statement) (a b c : Held S) (r : Result T E) → (HasCleanDisk (state g b) → IsTrue a.in_transaction → Makes g xs a b) → LeavesAsBefore g b c → OkMakes g ys b c r → OkMakes g (xs ++ ys) a c r
made_both g xs ys a b c r first survives second clean inside =
    let made = first (clean_before (state g b) (state g c) _ survives clean) inside in
    makes_on g xs ys a b c r made (second clean (makes_inside g xs a b made inside))

pub survives_same : (s : State) → Survives s s (λ _. ⊥)
survives_same s = record { clean = omega arith; shield = λ h. h; counts = omega arith; limit = refl; closes = λ _ up. inl up; crash = λ _ db may. inl may }

-- the changes so far are made: what the rest makes from here, all make from the start
pub record HasMade {S : Type 0} (g : Ghosts S) (all rest : List Change) (start now : Held S) : Type 0 where
  pub inside : IsTrue now.in_transaction
  pub keeps : KeepsCommit (state g start) (state g now)
  pub made : (last : Held S) → Makes g (all_statements rest) now last → Makes g (all_statements all) start last

-- one more change
pub has_made : {S : Type 0} (g : Ghosts S) (all rest : List Change) (change : Change) (start mid now : Held S)
    → HasMade g all (change ∷ rest) start mid → Makes g (statements_of change) mid now → HasMade g all rest start now
has_made g all rest change start mid now so made = record {
  inside = makes_inside g (statements_of change) mid now made so.inside;
  keeps = keeps_then (state g start) (state g mid) (state g now) so.keeps (makes_keeps g (statements_of change) mid now made);
  made = λ last more. so.made last (makes_then g (statements_of change) (all_statements rest) mid now last made more);
}

pub on_err : {T E P : Type 0} (r : Result T E) → P → OnErr r P
on_err (Ok value) p = tt
on_err (Err e) p = p

-- in a transaction that is open still, a refused statement changed nothing
refused_same : (sql : List ℕ) (params : SqlRow) (a b : State) (e : Error) → ExecutesInside 0 sql params a b (Err e) → IsTrue b.in_transaction → IsUnchanged a b
refused_same sql params a b e (inl (ran, inl same)) inside = same
refused_same sql params a b e (inl (ran, inr back)) inside = absurd (let e : true ≡ false = sym inside ∙ back.autocommit in cc)
refused_same sql params a b e (inr (ends, is, same)) inside = same

module _ {S T E : Type 0} (g : Ghosts S) (tried text : List ℕ) (given : SqlRow) (a mid b : Held S) (why : Error) (refused : ExecutesInside 0 tried given (state g a) (state g mid) (Err why)) where
  -- where what is tried first is refused, the statement that is made then counts from before it
  pub tried_made : (r : Result T E) → (IsTrue mid.in_transaction → OnOk r (Makes g (record { tried = None; text = text; given = given } ∷ []) mid b)) → (mid.in_transaction ≡ false → OnOk r ⊥)
      → OnOk r (Makes g (record { tried = Some tried; text = text; given = given } ∷ []) a b)
  tried_made (Ok value) made ended = elim (cases_Bool mid.in_transaction) [
    | inl inside ↦ let it = made inside in (it.0, inr (mid, refused_same tried given (state g a) (state g mid) why refused inside, it.1), it.2)
    | inr out ↦ absurd (ended out)
  ]
  tried_made (Err e) made ended = tt

-- a premise within the outcome
pub on_ok_if : {T E : Type 0} (P Q : Type 0) (r : Result T E) → (P → OnOk r Q) → OnOk r (P → Q)
on_ok_if P Q (Ok value) f = f
on_ok_if P Q (Err e) f = tt

pub on_err_if : {T E : Type 0} (P U Q : Type 0) (r : Result T E) → (P → U → OnErr r Q) → OnErr r (P → U → Q)
on_err_if P U Q (Ok value) f = tt
on_err_if P U Q (Err e) f = f

pub if_ok_held : {T E H : Type 0} (P : Type 0) (Q : H → T → Type 0) (r : Result T E) (h : H) → (P → IfOk r (Q h)) → IfOk r (λ value. P → (old : H) × Q old value)
if_ok_held P Q (Ok value) h f = λ p. (h, f p)
if_ok_held P Q (Err e) h f = tt
