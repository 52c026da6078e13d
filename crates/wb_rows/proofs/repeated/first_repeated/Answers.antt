use Rattle.std.proofs.Common.{◌≡◌, ℕ, suc, ◌-◌, ◌≤◌, Bool, true, false, List, ◌∷◌, length, drop, get_or, Option, Some, sym, ap, ◌∙◌, subst, arith}
use Rattle.std.proofs.Math.Seq.{drop-cons}
use Rattle.std.specs.List.{list_any}
use Rattle.wb_base.specs.declared.rows.Key.{Key}
use Rattle.wb_rows.specs.Blame.{first_repeated}
use Rattle.wb_rows.specs.Marks.{AreMarks}
use Rattle.wb_rows.proofs.repeated.first_repeated.Goals as goal

-- what is left from a place on begins with the item there
from_place : {X : Type 0} (xs : List X) (k at : ℕ) (x : X) → suc k ≡ at → at ≤ length xs → x ≡ get_or xs k x → drop k xs ≡ x ∷ drop at xs
from_place xs k at x next high is = drop-cons xs k x (omega (arith, next, high)) ∙ (λ i. sym is i ∷ drop (next i) xs)

repeated_here : {X : Type 0} (same : X → X → Bool) (key_of : X → Key) (x : X) (xs all : List X) (found : Option Key) → all ≡ x ∷ xs → list_any (same x) xs ≡ true → found ≡ Some (key_of x) → found ≡ first_repeated same key_of all
repeated_here same key_of x xs all found is any own = rw (is, any) own

repeated_later : {X : Type 0} (same : X → X → Bool) (key_of : X → Key) (x : X) (xs all : List X) (found : Option Key) → all ≡ x ∷ xs → list_any (same x) xs ≡ false → found ≡ first_repeated same key_of xs → found ≡ first_repeated same key_of all
repeated_later same key_of x xs all found is none later = rw (is, none) later

pub loop-at-preserved-then-branch : goal.loop-at-preserved-then-branch
loop-at-preserved-then-branch g c =
    let xs = drop c.loop-at.at c.args.items.now in
    let step = from_place c.args.items.now (c.loop-at.at - 1) c.loop-at.at c.index-items-at.result (omega (arith, c.loop-at-test.true)) c.loop-at.invariant.within c.index-items-at.is in
    let there = c.in_ok-note.ensures.there xs c.loop-at.invariant.marks in
    record {
      within = omega (arith, c.loop-at.invariant.within);
      marks = subst (AreMarks g.T.Mark.Ord.cmp g.T.Marked.mark_of c.note.new.marks) (sym step) (c.in_ok-note.ensures.marks xs c.loop-at.invariant.marks);
      found = repeated_here g.T.Marked.same g.T.Marked.key_of c.index-items-at.result xs _ _ step (sym there ∙ c.if-branch.true) (ap (λ k. Some k) c.key.ensures);
    }

pub loop-at-preserved : goal.loop-at-preserved
loop-at-preserved g c =
    let xs = drop c.loop-at.at c.args.items.now in
    let step = from_place c.args.items.now (c.loop-at.at - 1) c.loop-at.at c.index-items-at.result (omega (arith, c.loop-at-test.true)) c.loop-at.invariant.within c.index-items-at.is in
    let there = c.in_ok-note.ensures.there xs c.loop-at.invariant.marks in
    record {
      within = omega (arith, c.loop-at.invariant.within);
      marks = subst (AreMarks g.T.Mark.Ord.cmp g.T.Marked.mark_of c.note.new.marks) (sym step) (c.in_ok-note.ensures.marks xs c.loop-at.invariant.marks);
      found = repeated_later g.T.Marked.same g.T.Marked.key_of c.index-items-at.result xs _ _ step (sym there ∙ c.if-branch.false) c.loop-at.invariant.found;
    }
