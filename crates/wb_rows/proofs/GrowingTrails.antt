-- The reports that are read so far, with one more entry.
use Rattle.std.proofs.Common.{◌≡◌, true, false, List, [], ◌∷◌, ◌++◌, append_assoc, Result, Ok, Err, refl, sym, ap}
use Rattle.std.specs.Prelude.{IfOk, OnOk}
use Rattle.wb_base.specs.declared.rows.Key.{Key}
use Rattle.wb_row_codec.specs.declared.item.EntryItem.{EntryItem}
use Rattle.wb_model.specs.declared.registry.Lists.{Lists}
use Rattle.wb_rows.specs.Reports.{Report}
use Rattle.wb_rows.specs.Growing.{with_all}
use Rattle.wb_rows.specs.TrailRule.{begun, is_of, begins, with_report, reports_after}

with-done : (done : List Report) (r : Report) (rest : Result (List Report) Key) → with_all done (with_report r rest) ≡ with_all (done ++ r ∷ []) rest
with-done done r (Ok rs) = ap (λ l. Ok l) (sym (append_assoc done (r ∷ []) rs))
with-done done r (Err k) = refl

-- where an entry begins another report, the one before is done
pub done-with : (lists : Lists) (done : List Report) (r o : Report) (x : EntryItem) (left : List EntryItem) → is_of r x ≡ false → begins lists x ≡ true → o ≡ begun x → with_all done (reports_after lists r (x ∷ left)) ≡ with_all (done ++ r ∷ []) (reports_after lists o left)
done-with lists done r o x left other first is = rw (other, first, is) (with-done done r (reports_after lists (begun x) left))

-- what follows where a call is Ok
pub follows : {X E : Type 0} {A : Type 0} {P Q : X → Type 0} (result : Result X E) → OnOk result A → IfOk result P → ((x : X) → A → P x → Q x) → IfOk result Q
follows (Ok x) a p step = step x a p
follows (Err e) a p step = tt
