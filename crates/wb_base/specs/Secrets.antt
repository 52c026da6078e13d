-- Receipts, session secrets and digests.
use Rattle.std.specs.Prelude.{ℕ, Bool, zero, suc, ◌+◌, ◌*◌, ◌/◌, ◌%◌, ◌^◌, List, [], ◌∷◌, ◌++◌, slice_index}
use Rattle.std.specs.Int.{to_be_bytes, w128}
use Rattle.hex.specs.Hex.{encode_lower}
use Rattle.sha2.specs.Sha256.{sha256}
use Rattle.wb_base.specs.AnswerList.{is_text}
use Rattle.wb_base.specs.declared.words.Words.{Words}
use Rattle.wb_base.specs.declared.words.Salt.{Salt}
use Rattle.wb_base.specs.declared.words.Digest.{Digest}

-- the last n decimal digits of a number
abbrev pub last_digits : ℕ → ℕ → List ℕ
last_digits zero number = []
last_digits (suc n) number = last_digits n (number / 10) ++ (48 + number % 10) ∷ []

-- the number that two words are, the first of them the high one
abbrev pub both : ℕ → ℕ → ℕ
both high low = high * 2 ^ 64 + low

-- a receipt: 16 decimal digits, of the first two words
unfoldable pub receipt_text : Words → List ℕ
receipt_text words = last_digits 16 (both (slice_index words.0 0) (slice_index words.0 1) % 10 ^ 16)

-- a session's secret: 32 lower-case hexadecimal digits, those of the last two words
unfoldable pub secret_text : Words → List ℕ
secret_text words = encode_lower (to_be_bytes w128 (both (slice_index words.0 2) (slice_index words.0 3)))

-- the digest of a text under a tenant's salt (FIPS 180-4)
unfoldable pub digest : Salt → List ℕ → Digest
digest salt text = record { 0 = sha256 (salt.0 ++ text) }

-- two digests are the same
abbrev pub same_digest : Digest → Digest → Bool
same_digest a b = is_text a.0 b.0
