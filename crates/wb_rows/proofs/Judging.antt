-- The fault that is found is the first of the rules of reports and numberings that is broken.
use Rattle.std.proofs.Common.{◌≡◌, List, Option, Some, None, Result, Ok, Err, sym, ap, ◌∙◌}
use Rattle.std.specs.Option.{option_or}
use Rattle.std.specs.Prelude.{IfOk, IfErr}
use Rattle.wb_base.specs.declared.rows.Key.{Key}
use Rattle.wb_rows.specs.declared.faults.RowFault.{RowFault}
use Rattle.wb_rows.specs.declared.items.ItemsByKind.{ItemsByKind}
use Rattle.wb_rows.specs.declared.report_rules.Blames.{Blames}
use Rattle.wb_rows.specs.Blame.{first_breaking, blamed}
use Rattle.wb_rows.specs.Reports.{Report}
use Rattle.wb_rows.specs.Held.{Held}
use Rattle.wb_rows.specs.Judged.{AreBlames, report_fault, held, unless, judged_reports}
use Rattle.wb_rows.specs.Places.{sealed_key}
use Rattle.wb_rows.specs.ReportRules.{is_right_seal}

abbrev pub blamed_by : Blames → Option Key → Option RowFault
blamed_by b seal = blamed 6 b.wrong (blamed 7 b.undrawn (blamed 8 (option_or b.unsealed seal) (blamed 9 b.receipt (blamed 10 b.numbering None))))

same-fault : (k : ItemsByKind) (rs : List Report) (b : Blames) (seal : Option Key) → AreBlames k b → seal ≡ first_breaking (is_right_seal k.lists rs) sealed_key k.sealed → blamed_by b seal ≡ report_fault k rs
same-fault k rs b seal are is = λ i. blamed 6 (are.wrong i) (blamed 7 (are.undrawn i) (blamed 8 (option_or (are.unsealed i) (is i)) (blamed 9 (are.receipt i) (blamed 10 (are.numbering i) None))))

pub fault-judged : (k : ItemsByKind) (rs : List Report) (b : Blames) (seal : Option Key) (fault : RowFault) → AreBlames k b → seal ≡ first_breaking (is_right_seal k.lists rs) sealed_key k.sealed → blamed_by b seal ≡ Some fault → judged_reports k (Ok rs) ≡ Err fault
fault-judged k rs b seal fault are is found = ap (λ o. unless o (Ok (held k rs))) (sym (same-fault k rs b seal are is) ∙ found)

pub none-judged : (k : ItemsByKind) (rs : List Report) (b : Blames) (seal : Option Key) (h : Held) → AreBlames k b → seal ≡ first_breaking (is_right_seal k.lists rs) sealed_key k.sealed → blamed_by b seal ≡ None → h ≡ held k rs → judged_reports k (Ok rs) ≡ Ok h
none-judged k rs b seal h are is found same = ap (λ o. unless o (Ok (held k rs))) (sym (same-fault k rs b seal are is) ∙ found) ∙ ap (λ x. Ok x) (sym same)

-- ---- what follows of a result

pub ok-then : {X E : Type 0} {P Q : X → Type 0} (r : Result X E) → IfOk r P → ((x : X) → P x → Q x) → IfOk r Q
ok-then (Ok x) p step = step x p
ok-then (Err e) p step = tt

pub err-then : {X E : Type 0} {P Q : E → Type 0} (r : Result X E) → IfErr r P → ((e : E) → P e → Q e) → IfErr r Q
err-then (Ok x) p step = tt
err-then (Err e) p step = step e p
