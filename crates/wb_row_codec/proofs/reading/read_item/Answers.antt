use Rattle.std.proofs.Common.{option_and_then, refl, sym, ap, ◌∙◌}
use Rattle.serde_json.specs.Read.{read}
use Rattle.wb_row_codec.specs.Items.{item_of, shaped}
use Rattle.wb_row_codec.proofs.reading.read_item.Goals as goal

pub returns-in-Ok-clause-item : goal.returns-in-Ok-clause-item
unfolding item_of
returns-in-Ok-clause-item c =
    let shape = ap (λ t. option_and_then (shaped c.args.format c.args.row.now.key) (read t)) (sym c.as_str.ensures) ∙ c.in-Ok.ensures.item in
    rw shape c.keep_item.ensures.item

pub returns-in-Err-Other-clause-item : goal.returns-in-Err-Other-clause-item
unfolding item_of
returns-in-Err-Other-clause-item c =
    let given = rw c.in-Err-Other.field-0-is at c.in-Err-Other.ensures.item in
    let none = ap (λ t. option_and_then (shaped c.args.format c.args.row.now.key) (read t)) (sym c.as_str.ensures) ∙ given in
    rw none refl
