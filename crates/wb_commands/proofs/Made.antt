-- The tables of a tenant after a change.
use Rattle.std.proofs.Common.{◌≡◌, ℕ, List, Option, ap, ◌∙◌}
use Rattle.wb_base.specs.AnswerList.{Answered}
use Rattle.wb_custody.specs.declared.sealed.SealedItem.{SealedItem}
use Rattle.wb_custody.specs.SealedAnswers.{answers_of}
use Rattle.wb_model.specs.Changes.{Change}
use Rattle.wb_model.specs.Host.{changed, plain_after, sealed_after}
use Rattle.wb_tables.specs.Kept.{PlainTenancy, tables_of, sealed_of}
use Rattle.wb_tables.proofs.Purges.{same_tables}

-- what is made of a tenant and of identity answers
pub tables_made : (items new : List SealedItem) (x y : PlainTenancy) (time : ℕ) (ch : Change) (given : Option Answered) → y.id ≡ x.id → y.plain ≡ plain_after time ch x.plain → ((n : ℕ) → answers_of new x.id n ≡ sealed_after ch x.plain.numbering.last given (sealed_of items x.id) n)
    → tables_of new y ≡ changed time ch given (tables_of items x)
tables_made items new x y time ch given id plain here = same_tables (tables_of new y) (changed time ch given (tables_of items x)) plain (λ n. ap (λ t. answers_of new t n) id ∙ here n)
