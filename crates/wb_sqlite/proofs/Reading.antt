-- A query that is read row by row: what was read so far, and what was read in all.
use Rattle.std.proofs.Common.{◌≡◌, ◌⊎◌, ℕ, List, [], ◌∷◌, ◌++◌, Some, None, inl, inr, append-nil, refl, sym, ap, subst, ◌∙◌}
use Rattle.std.proofs.lemmas.List.{append_assoc}
use Rattle.sqlite_value.specs.Order.{Row as SqlRow}
use Rattle.sqlite_trees.specs.declared.store.Store.{Ghosts}
use Rattle.sqlite.specs.Given.{HasGiven, HasBegun, Advances, HandsOn}
use Rattle.sqlite.specs.Held.{Held, state}
use Rattle.sqlite.specs.State.{Shown, IsUnchanged}
use Rattle.sqlite.specs.Stream.{returned, HasEnded}
use Rattle.wb_base.specs.declared.rows.Row.{Row}
use Rattle.wb_sqlite.specs.Readings.{Reads}
use Rattle.wb_stored.specs.StoredRows.{AreInTurn}

-- a statement that wrote has all its rows at hand
pub record HasAtHand {S : Type 0} (g : Ghosts S) (text : List ℕ) (old now : Held S) (given : List SqlRow) : Type 0 where
  pub to : Held S
  pub answer : Shown text [] (state g old) (state g to) (given ++ returned now.reading)
  pub left : (state g now).now ≡ (state g to).now
  pub ended : HasEnded now.reading

-- the rows so far
pub record ReadsOn {S : Type 0} (g : Ghosts S) (IsOf : SqlRow → Row → Type 0) (text : List ℕ) (old now : Held S) (before rows : List Row) : Type 0 where
  pub given : List SqlRow
  pub added : List Row
  pub each : AreInTurn IsOf given added
  pub behind : rows ≡ before ++ added
  pub going : (HasGiven g text [] now given × ((state g now).now ≡ (state g old).now)) ⊎ HasAtHand g text old now given

pub one_more : (IsOf : SqlRow → Row → Type 0) (cs : List SqlRow) (rs : List Row) (c : SqlRow) (r : Row) → AreInTurn IsOf cs rs → IsOf c r → AreInTurn IsOf (cs ++ c ∷ []) (rs ++ r ∷ [])
one_more IsOf [] [] c r each is = (is, tt)
one_more IsOf [] (y ∷ ys) c r each is = absurd each
one_more IsOf (x ∷ xs) [] c r each is = absurd each
one_more IsOf (x ∷ xs) (y ∷ ys) c r each is = (each.0, one_more IsOf xs ys c r each.1 is)

module _ {S : Type 0} (g : Ghosts S) (IsOf : SqlRow → Row → Type 0) (text : List ℕ) where
  pub reads_none : (old now : Held S) (rows : List Row) → HasBegun g text [] old now → ReadsOn g IsOf text old now rows rows
  reads_none old now rows begun = record {
    given = [];
    added = [];
    each = tt;
    behind = sym (append-nil rows);
    going = elim begun [
      | inl given ↦ inl (given.0, given.1.0.now_is)
      | inr made ↦ inr (record { to = now; answer = made.1; left = refl; ended = made.2 })
    ];
  }

  pub reads_one : (old mid now : Held S) (before rows after : List Row) (c : SqlRow) (r : Row) → ReadsOn g IsOf text old mid before rows
      → Advances g mid now (Some c) → IsUnchanged (state g mid) (state g now) → HandsOn mid now (Some c) → IsOf c r → after ≡ rows ++ r ∷ [] → ReadsOn g IsOf text old now before after
  reads_one old mid now before rows after c r so on same hands is added = record {
    given = so.given ++ c ∷ [];
    added = so.added ++ r ∷ [];
    each = one_more IsOf so.given so.added c r so.each is;
    behind = added ∙ ap (λ xs. xs ++ r ∷ []) so.behind ∙ append_assoc before so.added (r ∷ []);
    going = elim so.going [
      | inl given ↦ inl (on text [] so.given given.0, same.0.now_is ∙ given.1)
      | inr made ↦
          let handed = hands made.ended in
          inr (record {
            to = made.to;
            answer = subst (λ rest. Shown text [] (state g old) (state g made.to) rest) (ap (λ rest. so.given ++ rest) handed.0 ∙ sym (append_assoc so.given (c ∷ []) (returned now.reading))) made.answer;
            left = same.0.now_is ∙ made.left;
            ended = handed.1;
          })
    ];
  }

  pub reads_all : (old mid now : Held S) (before rows : List Row) → ReadsOn g IsOf text old mid before rows
      → Advances g mid now None → IsUnchanged (state g mid) (state g now) → HandsOn mid now None → Reads g IsOf text old now before rows
  reads_all old mid now before rows so on same hands = elim so.going [
    | inl given ↦ record {
      shown = so.given;
      added = so.added;
      from = mid;
      to = now;
      answer = on text [] so.given given.0;
      over = given.1;
      left = refl;
      each = so.each;
      behind = so.behind;
    }
    | inr made ↦ record {
      shown = so.given;
      added = so.added;
      from = old;
      to = made.to;
      answer = subst (λ rest. Shown text [] (state g old) (state g made.to) rest) (ap (λ rest. so.given ++ rest) (hands made.ended).0.0 ∙ append-nil so.given) made.answer;
      over = refl;
      left = same.0.now_is ∙ made.left;
      each = so.each;
      behind = so.behind;
    }
  ]

  -- the rows of a query, whatever was read before
  pub reads_alone : (old new : Held S) (before after : List Row) (r : Reads g IsOf text old new before after) → Reads g IsOf text old new [] r.added
  reads_alone old new before after r = record {
    shown = r.shown;
    added = r.added;
    from = r.from;
    to = r.to;
    answer = r.answer;
    over = r.over;
    left = r.left;
    each = r.each;
    behind = refl;
  }
