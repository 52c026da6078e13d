-- The text of a receipt is ASCII.
use Rattle.std.proofs.Common.{ℕ, zero, suc, ◌+◌, ◌/◌, ◌%◌, ◌<◌, ◌∷◌, [], arith}
use Rattle.std.specs.Str.{IsAscii, IsUtf8}
use Rattle.std.proofs.lemmas.Str.{IsAscii-append, IsUtf8-from_ascii}
use Rattle.std.proofs.lemmas.Str.Ascii.{IsAscii-nil}
use Rattle.wb_base.specs.declared.words.Words.{Words}
use Rattle.wb_base.specs.Secrets.{last_digits, receipt_text}

IsAscii-one : (b : ℕ) → b < 128 → IsAscii (b ∷ [])
IsAscii-one b h zero = h
IsAscii-one b h (suc i) = omega arith

IsAscii-last_digits : (n number : ℕ) → IsAscii (last_digits n number)
IsAscii-last_digits zero number = IsAscii-nil
IsAscii-last_digits (suc n) number = IsAscii-append (last_digits n (number / 10)) ((48 + number % 10) ∷ []) (IsAscii-last_digits n (number / 10)) (IsAscii-one _ (omega arith))

-- a receipt is UTF-8, as the body of the reply to a submission asks
pub IsUtf8-receipt_text : (words : Words) → IsUtf8 (receipt_text words)
unfolding receipt_text
IsUtf8-receipt_text words = IsUtf8-from_ascii _ (IsAscii-last_digits 16 _)
