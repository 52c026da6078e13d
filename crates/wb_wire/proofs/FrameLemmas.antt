-- Facts on the text of frames.
use Rattle.std.proofs.Common.{◌≡◌, ◌<◌, ◌+◌, ◌^◌, ℕ, List, [], ◌∷◌, ◌++◌, length, arith, refl, sym, ap, ◌∙◌, append_assoc}
use Rattle.std.specs.Prelude.{slice_index}
use Rattle.std.specs.List.{AllByRecursion}
use Rattle.wb_model.specs.declared.wire.ScriptFrame.{ScriptFrame}
use Rattle.wb_model.specs.FrameTexts.{line_of, frame_text, IsFrame, IsBroken, NoFrame}
use Rattle.wb_wire.specs.FrameReading.{IsFrameLine}
use Rattle.wb_wire.specs.TextReading.{BeginsNone, GoesOnOtherwise}
use Rattle.wb_wire.proofs.LineLemmas.{line_fits, line_lacks, line_short}
use Rattle.wb_wire.proofs.TextLemmas.{text_length}

-- a frame's text and more, parted at the line's end
pub text_parts : (f : ScriptFrame) (more : List ℕ) → frame_text f ++ more ≡ line_of f ++ 10 ∷ (f.bytes ++ 10 ∷ more)
unfolding frame_text
text_parts f more = append_assoc (line_of f) (10 ∷ (f.bytes ++ 10 ∷ [])) more ∙ ap (λ l. line_of f ++ 10 ∷ l) (append_assoc f.bytes (10 ∷ []) more)

-- what no text of a frame's line begins, no frame begins
pub begins_no_frame : (text : List ℕ) → BeginsNone IsFrameLine text → NoFrame text
begins_no_frame text none f more is_frame e =
    none (record { moment = f.moment; words = f.words }) (line_of f) f.bytes more (is_frame.four, line_fits f is_frame, refl) (line_short f is_frame) (line_lacks f is_frame) (e ∙ text_parts f more)

pub goes_on_broken : (text : List ℕ) → GoesOnOtherwise IsFrameLine text → IsBroken text
goes_on_broken text goes_on = record { goes_on = goes_on.0; no_frame = begins_no_frame text goes_on.1 }

-- ---- what is a frame

words_fit : (ws : List ℕ) → length ws ≡ 4 → slice_index ws 0 < 2 ^ 64 → slice_index ws 1 < 2 ^ 64 → slice_index ws 2 < 2 ^ 64 → slice_index ws 3 < 2 ^ 64 → AllByRecursion (λ w. w < 2 ^ 64) ws
words_fit [] four a b c d = tt
words_fit (w ∷ []) four a b c d = (a, tt)
words_fit (w ∷ v ∷ []) four a b c d = (a, (b, tt))
words_fit (w ∷ v ∷ u ∷ []) four a b c d = (a, (b, (c, tt)))
words_fit (w ∷ v ∷ u ∷ t ∷ []) four a b c d = (a, (b, (c, (d, tt))))
words_fit (w ∷ v ∷ u ∷ t ∷ s ∷ ws) four a b c d = absurd (omega (arith, four))

-- the frame's line is of it
abbrev pub HasLine : ScriptFrame → List ℕ → Type 0
HasLine f = IsFrameLine (record { moment = f.moment; words = f.words }) (length f.bytes)

pub is_frame : (f : ScriptFrame) (line : List ℕ) → HasLine f line → IsFrame f
is_frame f line is = record {
  moment = is.1.moment;
  four = is.0;
  words = words_fit f.words.0 is.0 is.1.first is.1.second is.1.third is.1.fourth;
  bytes = is.1.size;
}

pub frame_is : (f : ScriptFrame) (line : List ℕ) → HasLine f line → line ++ 10 ∷ (f.bytes ++ 10 ∷ []) ≡ frame_text f
unfolding frame_text
frame_is f line is = ap (λ l. l ++ 10 ∷ (f.bytes ++ 10 ∷ [])) is.2

pub frame_length : (f : ScriptFrame) (line : List ℕ) → HasLine f line → length (frame_text f) ≡ length line + length f.bytes + 2
frame_length f line is = ap length (sym (frame_is f line is)) ∙ text_length line f.bytes
