use Rattle.std.proofs.Common.{rules, ◌≡◌, length, arith}
use Rattle.wb_cli.proofs.PlaceLemmas.{no_word}
use Rattle.wb_cli.proofs.store_word.StoreWord.read.Goals as goal

pub returns-then-is_empty-clause-none : goal.returns-then-is_empty-clause-none
returns-then-is_empty-clause-none c = λ _ is.
    let none : length c.args.word.now ≡ 0 = search (rules, arith) in
    no_word c.args.word.now none is
