-- The receipts of a tenant's reports, and the table in which they are found.
use Rattle.std.specs.Prelude.{◌≡◌, ℕ, Bool, true, List, None, option_map, is_some}
use Rattle.std.specs.List.{list_any, list_all}
use Rattle.wb_access.specs.Receipts.{Receipt, number_of}
use Rattle.wb_base.specs.AnswerList.{is_text}
use Rattle.wb_base.specs.declared.words.Digest.{Digest}
use Rattle.wb_model.specs.declared.entry.Entry.{Entry}
use Rattle.wb_model.specs.Opened.{Apart}
use Rattle.wb_model.specs.Tables.{Case, has_receipt, with_receipt}
use Rattle.wb_model.specs.Trails.{receipt, submission_in}

-- a submission is in the trail
abbrev pub is_submitted : List Entry → Bool
is_submitted trail = list_any (λ (e : Entry). is_some (submission_in e.deed)) trail

abbrev pub has_submission : Case → Bool
has_submission c = is_submitted c.trail

-- no report has the receipt of this trail
abbrev pub HasOwnReceipt : List Entry → List Case → Type 0
HasOwnReceipt trail cs = (d : Digest) → is_text (receipt trail) d.0 ≡ true → with_receipt d cs ≡ None

-- the table finds for each digest the number of the report whose receipt has it, no two reports have one receipt, and each has one
pub record AreReceipted (tenant : ℕ) (cs : List Case) (receipts : List Receipt) : Type 0 where
  pub numbers : (d : Digest) → number_of tenant d receipts ≡ option_map (λ (c : Case). c.number) (with_receipt d cs)
  pub apart : Apart has_receipt cs
  pub submitted : list_all has_submission cs ≡ true
