use Rattle.std.proofs.Common.{◌≡◌, [], None, sym, ap, ◌∙◌}
use Rattle.std.proofs.lemmas.Result.{IfOk-weaker}
use Rattle.wb_base.specs.declared.form.Field.{Field}
use Rattle.wb_base.specs.AnswerList.{answer_to}
use Rattle.wb_base.specs.FormFields.{fields_of}
use Rattle.wb_base.specs.ShownFields.{shown_from}
use Rattle.wb_base.specs.AnswerFaults.{first_fault, first_without, is_identity, is_marked, answer_of_both, unknown_or}
use Rattle.wb_trigger.proofs.MarkLemmas.{mark-all}
use Rattle.wb_trigger.proofs.FaultLemmas.{fault-take}
use Rattle.wb_trigger.proofs.judge.identity_fault.Goals as goal

pub returns-clause-value : goal.returns-clause-value
returns-clause-value c =
    let form = c.args.form.now in
    let A = c.args.given.now in
    let look = answer_to A in
    let both = answer_of_both c.args.public.now A in
    let all = fields_of form.steps in
    let marks = c.marks-marks.result in
    let marked = c.is_marked-marked.result in
    let none : first_without (is_identity form) A ≡ None = sym (rw c.in_default.is at c.first_public.ensures) in
    let same : first_fault (λ (f : Field). f.identity) look marked marks all ≡ first_fault (λ (f : Field). f.identity) look (is_marked form A) (shown_from both [] all) all =
    fault-take (λ (f : Field). f.identity) look marked marks all ∙ ap (λ ms. first_fault (λ (f : Field). f.identity) look marked ms all) (mark-all both all marks 256 c.requires c.marks-marks.ensures)
    ∙ ap (λ m. first_fault (λ (f : Field). f.identity) look m (shown_from both [] all) all) c.is_marked-marked.ensures in
    IfOk-weaker c.first_fault.result _ _ (λ o h. h ∙ same ∙ ap (λ u. unknown_or u (first_fault (λ (f : Field). f.identity) look (is_marked form A) (shown_from both [] all) all)) (sym none)) c.first_fault.ensures.value
