use Rattle.std.proofs.Common.{sym, refl}
use Rattle.wb_wire.proofs.Phrases.{phrase_short, no_phrase}
use Rattle.wb_wire.proofs.replies.phrase.Goals as goal

pub returns-in-Some-clause-short : goal.returns-in-Some-clause-short
returns-in-Some-clause-short c = phrase_short c.in-Ok.code c.in-Some.phrase.now (sym c.in-Some.ensures.value)

pub returns-in-Err-clause-text : goal.returns-in-Err-clause-text
returns-in-Err-clause-text c = rw (no_phrase c.args.status c.in-Err.ensures) refl
