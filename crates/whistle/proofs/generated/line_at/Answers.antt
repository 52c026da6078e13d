use Rattle.std.proofs.Common.{◌++◌, ◌∷◌, [], ◌+◌, ◌*◌, ap, decimal}
use Rattle.wb_model.specs.FrameTexts.{word_text}
use Rattle.whistle.proofs.GeneratedLemmas.{eight}
use Rattle.whistle.proofs.generated.line_at.Goals as goal

pub returns-clause-text : goal.returns-clause-text
returns-clause-text c =
    rw (c.put-3.ensures, c.put_number-2.ensures.text, c.put-2.ensures, c.put_word-4.ensures.text, c.put_word-3.ensures.text, c.put_word-2.ensures.text, c.put_word.ensures.text, c.put_number.ensures.text, c.moment_at.ensures, c.put.ensures, c.new-line.ensures)
    (ap (λ l. l ++ 10 ∷ []) (eight (64 ∷ []) (decimal (1_735_689_600 + 3_600 * c.args.turn)) (32 ∷ word_text 0) (32 ∷ word_text c.args.turn) (32 ∷ word_text 0) (32 ∷ word_text c.args.turn) (32 ∷ []) (decimal c.args.size)))
