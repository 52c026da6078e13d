use Rattle.std.proofs.Common.{◌≡◌, Bool, false, List, [], ◌∷◌, Option, None, refl, sym, ◌∙◌}
use Rattle.std.specs.List.{list_any}
use Rattle.std.specs.declared.cmp.Ordering.{Ordering}
use Rattle.wb_rows.specs.Marks.{same_mark}
use Rattle.wb_rows.proofs.repeated.note.Goals as goal

-- what has no mark is the same as none
none_same : {X K : Type 0} (cmp : K → K → Ordering) (mark_of : X → Option K) (same : X → X → Bool) → ((x y : X) → same x y ≡ same_mark cmp (mark_of x) (mark_of y)) → (x : X) (later : List X) → mark_of x ≡ None → list_any (same x) later ≡ false
none_same cmp mark_of same ties x [] e = refl
none_same cmp mark_of same ties x (y ∷ ys) e = rw (ties x y, e) (none_same cmp mark_of same ties x ys e)

pub returns-in-None-clause-there : goal.returns-in-None-clause-there
returns-in-None-clause-there g c = λ later marks. sym (none_same g.T.Mark.Ord.cmp g.T.Marked.mark_of g.T.Marked.same g.met.T.Marked.ties c.args.item.now later (sym c.in_ok-mark.ensures ∙ c.in-None.is))
