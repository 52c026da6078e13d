-- The text of a session's secret is ASCII.
use Rattle.std.proofs.Common.{ℕ, ◌/◌, ◌%◌, List, [], ◌∷◌, arith}
use Rattle.std.specs.Prelude.{slice_index}
use Rattle.std.specs.Str.{IsAscii, IsUtf8}
use Rattle.std.proofs.lemmas.Str.{IsUtf8-from_ascii}
use Rattle.std.proofs.lemmas.Str.Ascii.{IsAscii-nil, IsAscii-cons}
use Rattle.hex.specs.Hex.{lower_digits, encode_lower, encode_with}
use Rattle.wb_base.specs.declared.words.Words.{Words}
use Rattle.wb_base.specs.Secrets.{secret_text}

ascii_digits : IsAscii lower_digits
ascii_digits = IsAscii-cons 48 (49 ∷ 50 ∷ 51 ∷ 52 ∷ 53 ∷ 54 ∷ 55 ∷ 56 ∷ 57 ∷ 97 ∷ 98 ∷ 99 ∷ 100 ∷ 101 ∷ 102 ∷ []) (omega arith) (IsAscii-cons 49 (50 ∷ 51 ∷ 52 ∷ 53 ∷ 54 ∷ 55 ∷ 56 ∷ 57 ∷ 97 ∷ 98 ∷ 99 ∷ 100 ∷ 101 ∷ 102 ∷ []) (omega arith) (IsAscii-cons 50 (51 ∷ 52 ∷ 53 ∷ 54 ∷ 55 ∷ 56 ∷ 57 ∷ 97 ∷ 98 ∷ 99 ∷ 100 ∷ 101 ∷ 102 ∷ []) (omega arith) (IsAscii-cons 51 (52 ∷ 53 ∷ 54 ∷ 55 ∷ 56 ∷ 57 ∷ 97 ∷ 98 ∷ 99 ∷ 100 ∷ 101 ∷ 102 ∷ []) (omega arith) (IsAscii-cons 52 (53 ∷ 54 ∷ 55 ∷ 56 ∷ 57 ∷ 97 ∷ 98 ∷ 99 ∷ 100 ∷ 101 ∷ 102 ∷ []) (omega arith) (IsAscii-cons 53 (54 ∷ 55 ∷ 56 ∷ 57 ∷ 97 ∷ 98 ∷ 99 ∷ 100 ∷ 101 ∷ 102 ∷ []) (omega arith) (IsAscii-cons 54 (55 ∷ 56 ∷ 57 ∷ 97 ∷ 98 ∷ 99 ∷ 100 ∷ 101 ∷ 102 ∷ []) (omega arith) (IsAscii-cons 55 (56 ∷ 57 ∷ 97 ∷ 98 ∷ 99 ∷ 100 ∷ 101 ∷ 102 ∷ []) (omega arith) (IsAscii-cons 56 (57 ∷ 97 ∷ 98 ∷ 99 ∷ 100 ∷ 101 ∷ 102 ∷ []) (omega arith) (IsAscii-cons 57 (97 ∷ 98 ∷ 99 ∷ 100 ∷ 101 ∷ 102 ∷ []) (omega arith) (IsAscii-cons 97 (98 ∷ 99 ∷ 100 ∷ 101 ∷ 102 ∷ []) (omega arith) (IsAscii-cons 98 (99 ∷ 100 ∷ 101 ∷ 102 ∷ []) (omega arith) (IsAscii-cons 99 (100 ∷ 101 ∷ 102 ∷ []) (omega arith) (IsAscii-cons 100 (101 ∷ 102 ∷ []) (omega arith) (IsAscii-cons 101 (102 ∷ []) (omega arith) (IsAscii-cons 102 ([]) (omega arith) (IsAscii-nil))))))))))))))))

ascii_hex : (bytes : List ℕ) → IsAscii (encode_lower bytes)
unfolding encode_with
ascii_hex [] = IsAscii-nil
ascii_hex (b ∷ bytes) = IsAscii-cons (slice_index lower_digits (b / 16)) (slice_index lower_digits (b % 16) ∷ encode_lower bytes) (ascii_digits (b / 16)) (IsAscii-cons (slice_index lower_digits (b % 16)) (encode_lower bytes) (ascii_digits (b % 16)) (ascii_hex bytes))

-- a secret is UTF-8, as the body of the reply to a login asks
pub IsUtf8-secret_text : (words : Words) → IsUtf8 (secret_text words)
unfolding secret_text
IsUtf8-secret_text words = IsUtf8-from_ascii _ (ascii_hex _)
