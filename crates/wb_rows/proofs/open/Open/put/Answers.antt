use Rattle.std.proofs.Common.{◌≡◌, ◌++◌, ◌∷◌, [], sym, ap, ◌∙◌}
use Rattle.wb_model.specs.Access.{requests}
use Rattle.wb_model.specs.Legal.{is_legal, is_next, last_at}
use Rattle.wb_rows.specs.Reckoned.{reckoned}
use Rattle.wb_rows.proofs.OpenTrails.{last_of}
use Rattle.wb_rows.proofs.open.Open.put.Goals as goal

pub returns-clause-open : goal.returns-clause-open
returns-clause-open c =
    let before = c.args.self.now.case.items in
    let same = c.reserve.ensures.items in
    let trail : c.take-2.new.self.items ≡ before ++ c.args.entry ∷ [] = c.take-2.ensures.items ∙ ap (λ es. es ++ c.args.entry ∷ []) same in
    record {
      legal = c.take-2.ensures.legal (reckoned c.args.days.now) (ap (is_legal (reckoned c.args.days.now)) same ∙ c.requires.open.legal)
          ((λ i. is_next (reckoned c.args.days.now) (last_at 0 (same i)) (same i) c.args.entry) ∙ (ap (λ time. is_next (reckoned c.args.days.now) time before c.args.entry) (sym c.requires.open.last) ∙ c.requires.next));
      requests = c.take.ensures.trail before c.requires.open.requests ∙ ap requests (sym trail);
      last = sym (ap (last_at 0) trail ∙ last_of 0 before c.args.entry);
    }
