-- The path ends before its pattern.
use Rattle.std.proofs.Common.{sym, ◌∙◌, ◌∷◌, ap}
use Rattle.wb_wire.proofs.SegmentLemmas.{number_ends}
use Rattle.wb_wire.specs.Cuts.{cut_if}
use Rattle.wb_wire.proofs.segments.+number_under.Goals as goal

pub returns-in-None-texts : goal.returns-in-None-texts
returns-in-None-texts t c =
    let first = c.cut.ensures.parts ∙ ap (λ o. c.cut.result.0.now ∷ cut_if 47 o) c.in-Some.is in
    let last = c.cut-2.ensures.parts ∙ ap (λ o. c.cut-2.result.0.now ∷ cut_if 47 o) c.in-None-texts.is in
    sym (number_ends _ _ _ _ c.args.wanted.now _ first last (sym c.if-eq.ensures))
