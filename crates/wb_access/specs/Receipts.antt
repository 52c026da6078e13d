-- Receipts of reports, found by tenant and digest.
use Rattle.std.specs.Prelude.{ℕ, ◌==◌, ◌&&◌, Bool, List, find, Option, option_map}
use Rattle.wb_base.specs.Secrets.{same_digest}
use Rattle.wb_base.specs.declared.words.Digest.{Digest}

-- the receipt of a tenant's report of a number, told by its digest
pub record Receipt : Type 0 where
  pub tenant : ℕ
  pub digest : Digest
  pub number : ℕ

-- a receipt is the tenant's with that digest
abbrev pub is_receipt : ℕ → Digest → Receipt → Bool
is_receipt tenant digest receipt = (receipt.tenant == tenant) && same_digest receipt.digest digest

-- the number of the tenant's report whose receipt has a digest
abbrev pub number_of : ℕ → Digest → List Receipt → Option ℕ
number_of tenant digest receipts = option_map (λ (r : Receipt). r.number) (find (is_receipt tenant digest) receipts)

-- what a receipt is found by in the table
abbrev pub entry_key : ℕ → Digest → ℕ × List ℕ
entry_key tenant digest = (tenant, digest.0)

-- an entry of the table as a receipt
abbrev pub receipt_at : (ℕ × List ℕ) × ℕ → Receipt
receipt_at entry = record { tenant = entry.0.0; digest = record { 0 = entry.0.1 }; number = entry.1 }
