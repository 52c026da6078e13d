-- No frame's text begins another's.
use Rattle.std.proofs.Common.{◌≡◌, ◌<◌, ◌^◌, ℕ, List, [], ◌∷◌, ◌++◌, length, refl, sym, ap, ◌∙◌, arith, decimal}
use Rattle.std.specs.Prelude.{slice_index}
use Rattle.std.specs.Int.{to_be_bytes, from_be_bytes, w64}
use Rattle.std.proofs.lemmas.Fmt.{decimal_is_IsNumeral}
use Rattle.std.proofs.lemmas.Nat.{from_be_bytes-to_be_bytes_8}
use Rattle.std.specs.Str.Parse.{digits_value}
use Rattle.wb_model.specs.declared.wire.ScriptFrame.{ScriptFrame}
use Rattle.wb_model.specs.FrameTexts.{word_text, frame_line, line_of, frame_text, IsFrame}
use Rattle.wb_wire.specs.FrameReading.{LineFits}
use Rattle.wb_wire.specs.TextReading.{Lacks}
use Rattle.wb_wire.proofs.NumberLemmas.{word_decodes}
use Rattle.wb_wire.proofs.LineLemmas.{line_fits, line_lacks, decimal_lacks, word_lacks}
use Rattle.wb_wire.proofs.FrameLemmas.{text_parts}
use Rattle.wb_wire.proofs.TextLemmas.{both_seam, one_way}

pub same_decimal : (m n : ℕ) → m < 2 ^ 64 → n < 2 ^ 64 → decimal m ≡ decimal n → m ≡ n
same_decimal m n hm hn e = sym ((decimal_is_IsNumeral m hm).1) ∙ ap (digits_value 10) e ∙ (decimal_is_IsNumeral n hn).1

same_word : (w v : ℕ) → w < 2 ^ 64 → v < 2 ^ 64 → word_text w ≡ word_text v → w ≡ v
same_word w v hw hv e =
    let first = word_decodes w (word_text w) refl in
    let second = word_decodes v (word_text w) e in
    let bytes : to_be_bytes w64 w ≡ to_be_bytes w64 v = cc in
    sym (from_be_bytes-to_be_bytes_8 w hw) ∙ ap (from_be_bytes w64) bytes ∙ from_be_bytes-to_be_bytes_8 v hv

list_four : (ws : List ℕ) → length ws ≡ 4 → ws ≡ slice_index ws 0 ∷ slice_index ws 1 ∷ slice_index ws 2 ∷ slice_index ws 3 ∷ []
list_four [] four = absurd (omega (arith, four))
list_four (a ∷ []) four = absurd (omega (arith, four))
list_four (a ∷ b ∷ []) four = absurd (omega (arith, four))
list_four (a ∷ b ∷ c ∷ []) four = absurd (omega (arith, four))
list_four (a ∷ b ∷ c ∷ d ∷ []) four = refl
list_four (a ∷ b ∷ c ∷ d ∷ e ∷ ws) four = absurd (omega (arith, four))

four_same : (ws vs : List ℕ) → length ws ≡ 4 → length vs ≡ 4 → slice_index ws 0 ≡ slice_index vs 0 → slice_index ws 1 ≡ slice_index vs 1 → slice_index ws 2 ≡ slice_index vs 2 → slice_index ws 3 ≡ slice_index vs 3 → ws ≡ vs
four_same ws vs lw lv e0 e1 e2 e3 = let left = list_four ws lw in let right = list_four vs lv in cc

-- the parts of equal lines are equal
same_line : (m w0 w1 w2 w3 n m' v0 v1 v2 v3 n' : ℕ) → LineFits m w0 w1 w2 w3 n → LineFits m' v0 v1 v2 v3 n' → frame_line m w0 w1 w2 w3 n ≡ frame_line m' v0 v1 v2 v3 n'
    → (m ≡ m') × (w0 ≡ v0) × (w1 ≡ v1) × (w2 ≡ v2) × (w3 ≡ v3) × (n ≡ n')
same_line m w0 w1 w2 w3 n m' v0 v1 v2 v3 n' fits fits' e =
    let tail : decimal m ++ 32 ∷ (word_text w0 ++ 32 ∷ (word_text w1 ++ 32 ∷ (word_text w2 ++ 32 ∷ (word_text w3 ++ 32 ∷ decimal n))))
    ≡ decimal m' ++ 32 ∷ (word_text v0 ++ 32 ∷ (word_text v1 ++ 32 ∷ (word_text v2 ++ 32 ∷ (word_text v3 ++ 32 ∷ decimal n')))) = cc in
    let bm : m < 2 ^ 64 = omega (arith, fits.moment) in
    let bm' : m' < 2 ^ 64 = omega (arith, fits'.moment) in
    let bn : n < 2 ^ 64 = omega (arith, fits.size) in
    let bn' : n' < 2 ^ 64 = omega (arith, fits'.size) in
    let space : (w : ℕ) → Lacks 32 (word_text w) = word_lacks 32 (omega arith) (omega arith) in
    let s0 = one_way 32 (decimal m) (decimal m') _ _ (decimal_lacks 32 m (omega arith) bm) (decimal_lacks 32 m' (omega arith) bm') tail in
    let s1 = one_way 32 (word_text w0) (word_text v0) _ _ (space w0) (space v0) s0.1 in
    let s2 = one_way 32 (word_text w1) (word_text v1) _ _ (space w1) (space v1) s1.1 in
    let s3 = one_way 32 (word_text w2) (word_text v2) _ _ (space w2) (space v2) s2.1 in
    let s4 = one_way 32 (word_text w3) (word_text v3) _ _ (space w3) (space v3) s3.1 in (
      same_decimal m m' bm bm' s0.0,
      same_word w0 v0 fits.first fits'.first s1.0,
      same_word w1 v1 fits.second fits'.second s2.0,
      same_word w2 v2 fits.third fits'.third s3.0,
      same_word w3 v3 fits.fourth fits'.fourth s4.0,
      same_decimal n n' bn bn' s4.1,
    )

same_frame : (f g : ScriptFrame) → f.moment ≡ g.moment → f.words.0 ≡ g.words.0 → f.bytes ≡ g.bytes → f ≡ g
same_frame f g moment words bytes =
    ap (λ m. record { moment = m; words = f.words; bytes = f.bytes }) moment ∙ ap (λ ws. record { moment = g.moment; words = record { 0 = ws }; bytes = f.bytes }) words
    ∙ ap (λ bs. record { moment = g.moment; words = g.words; bytes = bs }) bytes

pub one_frame : (f g : ScriptFrame) (x y : List ℕ) → IsFrame f → IsFrame g → frame_text f ++ x ≡ frame_text g ++ y → (f ≡ g) × (x ≡ y)
one_frame f g x y is_f is_g e =
    let lines = one_way 10 (line_of f) (line_of g) _ _ (line_lacks f is_f) (line_lacks g is_g) (sym (text_parts f x) ∙ e ∙ text_parts g y) in
    let parts = same_line _ _ _ _ _ _ _ _ _ _ _ _ (line_fits f is_f) (line_fits g is_g) lines.0 in
    let bodies = both_seam f.bytes g.bytes (10 ∷ x) (10 ∷ y) parts.5 lines.1 in
    let rest : x ≡ y = cc (bodies.1) in
    (same_frame f g parts.0 (four_same f.words.0 g.words.0 is_f.four is_g.four parts.1 parts.2 parts.3 parts.4) bodies.0, rest)
