-- The first line of a frame.
use Rattle.std.proofs.Common.{◌≡◌, ◌≢◌, ◌≤◌, ◌<◌, ◌+◌, ◌^◌, ◌/◌, ◌%◌, ℕ, zero, suc, List, [], ◌∷◌, ◌++◌, length, arith, decimal, length-append}
use Rattle.std.specs.Prelude.{slice_index}
use Rattle.std.specs.List.{AllByRecursion}
use Rattle.std.specs.Int.{to_be_bytes, w64}
use Rattle.std.proofs.lemmas.Fmt.{length-decimal-le, decimal_by_steps}
use Rattle.hex.specs.Hex.{encode_with, lower_digits}
use Rattle.hex.proofs.HexLemmas.{length-encode_with}
use Rattle.wb_model.specs.declared.wire.ScriptFrame.{ScriptFrame}
use Rattle.wb_model.specs.FrameTexts.{word_text, frame_line, line_of, IsFrame}
use Rattle.wb_wire.specs.FrameReading.{LineFits}
use Rattle.wb_wire.specs.TextReading.{Lacks}

word_below : (words : List ℕ) (i : ℕ) → AllByRecursion (λ w. w < 2 ^ 64) words → slice_index words i < 2 ^ 64
word_below [] i all = omega arith
word_below (w ∷ words) zero all = all.0
word_below (w ∷ words) (suc i) all = word_below words i all.1

pub line_fits : (f : ScriptFrame) → IsFrame f → LineFits f.moment (slice_index f.words.0 0) (slice_index f.words.0 1) (slice_index f.words.0 2) (slice_index f.words.0 3) (length f.bytes)
line_fits f is_frame = record {
  moment = is_frame.moment;
  first = word_below f.words.0 0 is_frame.words;
  second = word_below f.words.0 1 is_frame.words;
  third = word_below f.words.0 2 is_frame.words;
  fourth = word_below f.words.0 3 is_frame.words;
  size = is_frame.bytes;
}

pub lacks_append : (c : ℕ) (xs ys : List ℕ) → Lacks c xs → Lacks c ys → Lacks c (xs ++ ys)
lacks_append c [] ys lx ly i h = ly i h
lacks_append c (x ∷ xs) ys lx ly zero h = lx 0 (omega arith)
lacks_append c (x ∷ xs) ys lx ly (suc i) h = lacks_append c xs ys (λ k less. lx (suc k) (omega arith)) ly i (omega arith)

lacks_one : (c x : ℕ) → x ≢ c → Lacks c (x ∷ [])
lacks_one c x other zero h = other
lacks_one c x other (suc i) h = absurd (omega arith)

pub lacks_cons : (c x : ℕ) (xs : List ℕ) → x ≢ c → Lacks c xs → Lacks c (x ∷ xs)
lacks_cons c x xs other lacks zero h = other
lacks_cons c x xs other lacks (suc i) h = lacks i (omega arith)

-- digits are neither a space nor a line feed
pub decimal_lacks : (c n : ℕ) → c < 48 → n < 2 ^ 64 → Lacks c (decimal n)
decimal_lacks c n low small = decimal_by_steps (λ m ds. Lacks c ds)
    (λ m less. lacks_one c (48 + m) (λ e. absurd (omega (arith, e))))
    (λ m ds big lacks. lacks_append c ds ((48 + m % 10) ∷ []) lacks (lacks_one c (48 + m % 10) (λ e. absurd (omega (arith, e)))))
    n small

digit_above : (c : ℕ) → 0 < c → c < 48 → (k : ℕ) → slice_index lower_digits k ≢ c
digit_above c some low zero e = absurd (omega (arith, e))
digit_above c some low (suc zero) e = absurd (omega (arith, e))
digit_above c some low (suc (suc zero)) e = absurd (omega (arith, e))
digit_above c some low (suc (suc (suc zero))) e = absurd (omega (arith, e))
digit_above c some low (suc (suc (suc (suc zero)))) e = absurd (omega (arith, e))
digit_above c some low (suc (suc (suc (suc (suc zero))))) e = absurd (omega (arith, e))
digit_above c some low (suc (suc (suc (suc (suc (suc zero)))))) e = absurd (omega (arith, e))
digit_above c some low (suc (suc (suc (suc (suc (suc (suc zero))))))) e = absurd (omega (arith, e))
digit_above c some low (suc (suc (suc (suc (suc (suc (suc (suc zero)))))))) e = absurd (omega (arith, e))
digit_above c some low (suc (suc (suc (suc (suc (suc (suc (suc (suc zero))))))))) e = absurd (omega (arith, e))
digit_above c some low (suc (suc (suc (suc (suc (suc (suc (suc (suc (suc zero)))))))))) e = absurd (omega (arith, e))
digit_above c some low (suc (suc (suc (suc (suc (suc (suc (suc (suc (suc (suc zero))))))))))) e = absurd (omega (arith, e))
digit_above c some low (suc (suc (suc (suc (suc (suc (suc (suc (suc (suc (suc (suc zero)))))))))))) e = absurd (omega (arith, e))
digit_above c some low (suc (suc (suc (suc (suc (suc (suc (suc (suc (suc (suc (suc (suc zero))))))))))))) e = absurd (omega (arith, e))
digit_above c some low (suc (suc (suc (suc (suc (suc (suc (suc (suc (suc (suc (suc (suc (suc zero)))))))))))))) e = absurd (omega (arith, e))
digit_above c some low (suc (suc (suc (suc (suc (suc (suc (suc (suc (suc (suc (suc (suc (suc (suc zero))))))))))))))) e = absurd (omega (arith, e))
digit_above c some low (suc (suc (suc (suc (suc (suc (suc (suc (suc (suc (suc (suc (suc (suc (suc (suc k)))))))))))))))) e = absurd (omega (arith, e))

hex_lacks : (c : ℕ) → 0 < c → c < 48 → (bytes : List ℕ) → Lacks c (encode_with lower_digits bytes)
unfolding encode_with
hex_lacks c some low [] i h = absurd (omega arith)
hex_lacks c some low (b ∷ rest) zero h = digit_above c some low (b / 16)
hex_lacks c some low (b ∷ rest) (suc zero) h = digit_above c some low (b % 16)
hex_lacks c some low (b ∷ rest) (suc (suc i)) h = hex_lacks c some low rest i (omega arith)

pub word_lacks : (c : ℕ) → 0 < c → c < 48 → (w : ℕ) → Lacks c (word_text w)
word_lacks c some low w = hex_lacks c some low (to_be_bytes w64 w)

pub word_length : (w : ℕ) → length (word_text w) ≡ 16
word_length w = length-encode_with lower_digits (to_be_bytes w64 w)

frame_line_lacks : (m w0 w1 w2 w3 n : ℕ) → LineFits m w0 w1 w2 w3 n → Lacks 10 (frame_line m w0 w1 w2 w3 n)
frame_line_lacks m w0 w1 w2 w3 n fits =
    lacks_cons 10 64 _ (λ e. absurd (omega (arith, e))) (lacks_append 10 (decimal m) _ (decimal_lacks 10 m (omega arith) (omega (arith, fits.moment)))
    (lacks_cons 10 32 _ (λ e. absurd (omega (arith, e))) (lacks_append 10 (word_text w0) _ (word_lacks 10 (omega arith) (omega arith) w0)
    (lacks_cons 10 32 _ (λ e. absurd (omega (arith, e))) (lacks_append 10 (word_text w1) _ (word_lacks 10 (omega arith) (omega arith) w1)
    (lacks_cons 10 32 _ (λ e. absurd (omega (arith, e))) (lacks_append 10 (word_text w2) _ (word_lacks 10 (omega arith) (omega arith) w2)
    (lacks_cons 10 32 _ (λ e. absurd (omega (arith, e))) (lacks_append 10 (word_text w3) _ (word_lacks 10 (omega arith) (omega arith) w3)
    (lacks_cons 10 32 _ (λ e. absurd (omega (arith, e))) (decimal_lacks 10 n (omega arith) (omega (arith, fits.size)))))))))))))

pub line_lacks : (f : ScriptFrame) → IsFrame f → Lacks 10 (line_of f)
line_lacks f is_frame = frame_line_lacks _ _ _ _ _ _ (line_fits f is_frame)

pub frame_line_length : (m w0 w1 w2 w3 n : ℕ) → length (frame_line m w0 w1 w2 w3 n) ≡ length (decimal m) + length (decimal n) + 70
frame_line_length m w0 w1 w2 w3 n =
    omega (
      arith,
      length-append (decimal m) (32 ∷ (word_text w0 ++ 32 ∷ (word_text w1 ++ 32 ∷ (word_text w2 ++ 32 ∷ (word_text w3 ++ 32 ∷ decimal n))))),
      length-append (word_text w0) (32 ∷ (word_text w1 ++ 32 ∷ (word_text w2 ++ 32 ∷ (word_text w3 ++ 32 ∷ decimal n)))),
      word_length w0,
      length-append (word_text w1) (32 ∷ (word_text w2 ++ 32 ∷ (word_text w3 ++ 32 ∷ decimal n))),
      word_length w1,
      length-append (word_text w2) (32 ∷ (word_text w3 ++ 32 ∷ decimal n)),
      word_length w2,
      length-append (word_text w3) (32 ∷ decimal n),
      word_length w3,
    )

pub line_short : (f : ScriptFrame) → IsFrame f → length (line_of f) ≤ 95
line_short f is_frame =
    let fits = line_fits f is_frame in
    omega (
      arith,
      frame_line_length f.moment (slice_index f.words.0 0) (slice_index f.words.0 1) (slice_index f.words.0 2) (slice_index f.words.0 3) (length f.bytes),
      length-decimal-le 11 f.moment (omega arith) (omega (arith, fits.moment)) (omega (arith, fits.moment)),
      length-decimal-le 6 (length f.bytes) (omega arith) (omega (arith, fits.size)) (omega (arith, fits.size)),
    )
