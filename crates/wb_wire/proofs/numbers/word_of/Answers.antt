use Rattle.std.proofs.Common.{◌∙◌, sym, ap, Some}
use Rattle.std.proofs.lemmas.Nat.{from_be_bytes-to_be_bytes_8}
use Rattle.std.specs.Int.{from_be_bytes, to_be_bytes, w64}
use Rattle.hex.specs.Hex.{encode_lower}
use Rattle.wb_wire.proofs.NumberLemmas.{decoded}
use Rattle.wb_wire.proofs.numbers.word_of.Goals as goal

pub returns-in-Err-clause-again : goal.returns-in-Err-clause-again
returns-in-Err-clause-again c = λ w small is.
    let read = decoded w c.args.text.now c.decode_to_slice.result c.decode_to_slice.new.out is c.decode_to_slice.ensures.value in cc

pub returns-then-is_same-clause-again : goal.returns-then-is_same-clause-again
returns-then-is_same-clause-again c = λ w small is.
    let read = decoded w c.args.text.now c.decode_to_slice.result c.decode_to_slice.new.out is c.decode_to_slice.ensures.value in
    let word = c.from_be_bytes-word.ensures ∙ ap (from_be_bytes w64) read.1 ∙ from_be_bytes-to_be_bytes_8 w small in
    ap (λ x. Some x) word

pub returns-else-is_same-clause-again : goal.returns-else-is_same-clause-again
returns-else-is_same-clause-again c = λ w small is.
    let read = decoded w c.args.text.now c.decode_to_slice.result c.decode_to_slice.new.out is c.decode_to_slice.ensures.value in
    let word = c.from_be_bytes-word.ensures ∙ ap (from_be_bytes w64) read.1 ∙ from_be_bytes-to_be_bytes_8 w small in
    let text = c.as_slice-2.ensures ∙ c.in-Ok-encode_to_slice.ensures.written ∙ ap encode_lower (c.as_slice.ensures ∙ c.to_be_bytes.ensures ∙ ap (to_be_bytes w64) word) ∙ sym is in
    let held = c.is_same.ensures.1 text in
    cc
