use Rattle.std.proofs.Common.{◌∙◌, ap, arith, drop}
use Rattle.std.proofs.lemmas.List.{take_rest}
use Rattle.wb_wire.proofs.frame_line.FrameLineFirstLine.read.Goals as goal

pub returns-clause-only : goal.returns-clause-only
returns-clause-only c = λ head size is.
    let fits = is.1 in
    let moment = c.in-Some.ensures.again head.moment _ (omega (arith, fits.moment)) (take_rest c.args.line.now 1 ∙ ap (drop 1) is.2) in
    let first = c.in-Some-word_item.ensures.again _ _ fits.first moment.1 in
    let second = c.in-Some-word_item-2.ensures.again _ _ fits.second first.1 in
    let third = c.in-Some-word_item-3.ensures.again _ _ fits.third second.1 in
    let fourth = c.in-Some-word_item-4.ensures.again _ _ fits.fourth third.1 in
    let same = c.in-Some-number_of.ensures.again size (omega (arith, fits.size)) fourth.1 in
    cc same
