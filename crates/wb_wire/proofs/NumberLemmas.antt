-- Numbers and words as text.
use Rattle.std.proofs.Common.{◌≡◌, ◌<◌, ◌^◌, ℕ, zero, suc, List, refl, sym, ap, ◌∙◌, arith, Result, Ok, Err, decimal, subst, true}
use Rattle.std.specs.Int.{to_be_bytes, w64}
use Rattle.std.specs.Str.{IsUtf8}
use Rattle.std.proofs.lemmas.Str.{IsUtf8-from_ascii}
use Rattle.std.proofs.lemmas.Fmt.{IsAscii-decimal, decimal_is_IsNumeral}
use Rattle.hex.specs.Hex.{IsBytes, decode_sized}
use Rattle.std.specs.Prelude.{MatchResult}
use Rattle.hex.specs.declared.error.FromHexError.{FromHexError}
use Rattle.hex.proofs.HexLemmas.{decode_sized-encode_lower}
use Rattle.std.specs.Str.Parse.{digits_value}
use Rattle.std.specs.Cmp.Lexicographic.{nat_list_eq_equiv}
use Rattle.wb_base.specs.AnswerList.{is_text}
use Rattle.wb_model.specs.FrameTexts.{word_text}
use Rattle.wb_model.specs.Heads.{is_number}

pub decimal_utf8 : (n : ℕ) (text : List ℕ) → n < 2 ^ 64 → text ≡ decimal n → IsUtf8 text
decimal_utf8 n text small is = subst IsUtf8 (sym is) (IsUtf8-from_ascii (decimal n) (IsAscii-decimal n small))

be_is_bytes : (w : ℕ) → IsBytes (to_be_bytes w64 w)
be_is_bytes w zero = omega arith
be_is_bytes w (suc zero) = omega arith
be_is_bytes w (suc (suc zero)) = omega arith
be_is_bytes w (suc (suc (suc zero))) = omega arith
be_is_bytes w (suc (suc (suc (suc zero)))) = omega arith
be_is_bytes w (suc (suc (suc (suc (suc zero))))) = omega arith
be_is_bytes w (suc (suc (suc (suc (suc (suc zero)))))) = omega arith
be_is_bytes w (suc (suc (suc (suc (suc (suc (suc zero))))))) = omega arith
be_is_bytes w (suc (suc (suc (suc (suc (suc (suc (suc i)))))))) = omega arith

-- a word's text decodes to its bytes
pub word_decodes : (w : ℕ) (text : List ℕ) → text ≡ word_text w → decode_sized text 8 ≡ Ok (to_be_bytes w64 w)
word_decodes w text is = ap (λ t. decode_sized t 8) is ∙ decode_sized-encode_lower (to_be_bytes w64 w) 8 refl (be_is_bytes w)

-- what decoding a word's text answered
pub decoded : (w : ℕ) (text : List ℕ) (result : Result Unit FromHexError) (out : List ℕ) → text ≡ word_text w
    → MatchResult (decode_sized text 8) (λ bytes. (result ≡ Ok tt) × (out ≡ bytes)) (λ e. result ≡ Err e) → (result ≡ Ok tt) × (out ≡ to_be_bytes w64 w)
decoded w text result out is value = subst (λ d. MatchResult d (λ bytes. (result ≡ Ok tt) × (out ≡ bytes)) (λ e. result ≡ Err e)) (word_decodes w text is) value

-- the number that a text in digits is, and that it has no leading zero
pub number_back : (n : ℕ) (text : List ℕ) → n < 2 ^ 64 → text ≡ decimal n → (digits_value 10 text ≡ n) × (is_number text ≡ true)
number_back n text small is =
    let back : digits_value 10 text ≡ n = ap (digits_value 10) is ∙ (decimal_is_IsNumeral n small).1 in
    (back, ap (λ m. is_text text (decimal m)) back ∙ ap (λ t. is_text text t) (sym is) ∙ nat_list_eq_equiv.refl text)
