use Rattle.std.proofs.Common.{map, sym, ap, ◌∙◌, subst, List}
use Rattle.std.specs.List.Sorted.{IsStrictlySortedBy}
use Rattle.wb_base.specs.KeptRows.{key_cmp, key_of}
use Rattle.wb_base.specs.declared.rows.Row.{Row}
use Rattle.wb_rows.specs.Held.{held_by}
use Rattle.wb_rows.specs.Judged.{judged}
use Rattle.wb_rows.specs.Left.{left}
use Rattle.wb_rows.proofs.Judging.{ok-then, err-then}
use Rattle.wb_rows.proofs.LeftRows.{past_judged}
use Rattle.wb_rows.proofs.Parted.{own-sorted}
use Rattle.wb_rows.proofs.TablesBack.{tables-back, old-back, same-read, not-refused}
use Rattle.wb_rows.proofs.reading.read.Goals as goal

pub read_own-requires : goal.read_own-requires
read_own-requires c = own-sorted _ _ c.in-Ok.format c.in-Ok.ensures.ok (subst (λ (rs : List Row). IsStrictlySortedBy key_cmp (map key_of rs)) (sym c.as_slice.ensures.value) c.requires)

-- ---- rows that are parted

pub returns-in-Ok-clause-ok : goal.returns-in-Ok-clause-ok
returns-in-Ok-clause-ok c = ok-then c.read_own.result c.read_own.ensures.ok (λ tables is. ap judged (sym c.as_slice.ensures.value) ∙ (c.in-Ok.ensures.ok.judged ∙ is))

pub returns-in-Ok-clause-err : goal.returns-in-Ok-clause-err
returns-in-Ok-clause-err c = err-then c.read_own.result c.read_own.ensures.err (λ fault is known. ap judged (sym c.as_slice.ensures.value) ∙ (c.in-Ok.ensures.ok.judged ∙ is known))

pub returns-in-Ok-clause-back : goal.returns-in-Ok-clause-back
returns-in-Ok-clause-back c = λ at h good same. ok-then c.read_own.result (returns-in-Ok-clause-ok c) (λ tables is. same-read c.args.rows.items h (ap judged (sym same) ∙ tables-back at h good) (held_by tables) is)

pub returns-in-Ok-clause-unrefused : goal.returns-in-Ok-clause-unrefused
returns-in-Ok-clause-unrefused c = λ at h good same. err-then c.read_own.result (returns-in-Ok-clause-err c) (λ fault is. not-refused c.args.rows.items h (ap judged (sym same) ∙ tables-back at h good) fault is)

pub returns-in-Ok-clause-left : goal.returns-in-Ok-clause-left
returns-in-Ok-clause-left c = λ past read_back same. ok-then c.read_own.result (returns-in-Ok-clause-ok c) (λ tables is. same-read c.args.rows.items (left past) (ap judged (sym same) ∙ past_judged past read_back) (held_by tables) is)

pub returns-in-Ok-clause-unrefused_left : goal.returns-in-Ok-clause-unrefused_left
returns-in-Ok-clause-unrefused_left c = λ past read_back same. err-then c.read_own.result (returns-in-Ok-clause-err c) (λ fault is. not-refused c.args.rows.items (left past) (ap judged (sym same) ∙ past_judged past read_back) fault is)

pub returns-in-Ok-clause-back_plain : goal.returns-in-Ok-clause-back_plain
returns-in-Ok-clause-back_plain c = λ at h good unscored same. ok-then c.read_own.result (returns-in-Ok-clause-ok c) (λ tables is. same-read c.args.rows.items h (ap judged (sym same) ∙ old-back at h good unscored) (held_by tables) is)

pub returns-in-Ok-clause-unrefused_plain : goal.returns-in-Ok-clause-unrefused_plain
returns-in-Ok-clause-unrefused_plain c = λ at h good unscored same. err-then c.read_own.result (returns-in-Ok-clause-err c) (λ fault is. not-refused c.args.rows.items h (ap judged (sym same) ∙ old-back at h good unscored) fault is)

-- ---- rows whose first says no format that is known

pub returns-clause-unrefused : goal.returns-clause-unrefused
returns-clause-unrefused c = λ at h good same. not-refused c.args.rows.items h (ap judged (sym same) ∙ tables-back at h good) c.in-Err.fault (λ known. ap judged (sym c.as_slice.ensures.value) ∙ c.in-Err.ensures.err)

pub returns-clause-unrefused_left : goal.returns-clause-unrefused_left
returns-clause-unrefused_left c = λ past read_back same. not-refused c.args.rows.items (left past) (ap judged (sym same) ∙ past_judged past read_back) c.in-Err.fault (λ known. ap judged (sym c.as_slice.ensures.value) ∙ c.in-Err.ensures.err)

pub returns-clause-unrefused_plain : goal.returns-clause-unrefused_plain
returns-clause-unrefused_plain c = λ at h good unscored same. not-refused c.args.rows.items h (ap judged (sym same) ∙ old-back at h good unscored) c.in-Err.fault (λ known. ap judged (sym c.as_slice.ensures.value) ∙ c.in-Err.ensures.err)
