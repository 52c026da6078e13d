-- What a reader of frames takes and answers.
use Rattle.std.specs.Prelude.{ℕ, ◌≡◌, ◌≢◌, ◌+◌, ◌<◌, ◌≤◌, ◌^◌, List, [], ◌∷◌, ◌++◌, length, take, slice_index, Option, None, Some, IfSome}
use Rattle.std.specs.Io.KnownBytes.{Consumes, IsAtEnd}
use Rattle.wb_base.specs.Outside.{Rose}
use Rattle.wb_model.specs.declared.wire.ScriptFrame.{ScriptFrame}
use Rattle.wb_model.specs.FrameTexts.{frame_line, frame_text, IsFrame, IsBroken, NoFrame}
use Rattle.wb_wire.specs.declared.frame_line.FrameLine.{FrameLine}
use Rattle.wb_wire.specs.declared.frames.FrameNo.{FrameNo}
use Rattle.wb_wire.specs.declared.frames.FrameNo.TheVariants.{Read, Bad, TooLong, Memory}
use Rattle.wb_wire.specs.declared.read_frame.LineEnd.{LineEnd}
use Rattle.wb_wire.specs.declared.read_frame.LineEnd.TheVariants as ends
use Rattle.wb_wire.specs.declared.read_frame.Part.{Part}
use Rattle.wb_wire.specs.declared.read_frame.Part.TheVariants as parts
use Rattle.wb_wire.specs.declared.read_text.Text.{Text}
use Rattle.wb_wire.specs.TextReading.{Lacks, Stops}

-- how far a reader has come: how many frames it gave, how many bytes these have, and why it stopped, if it did
pub record Progress : Type 0 where
  pub given : ℕ
  pub taken : ℕ
  pub stopped : Option FrameNo

-- after a call that answers this
abbrev pub after_next : Progress → Option ScriptFrame → Progress
after_next p None = p
after_next p (Some frame) = record p { given = p.given + 1; taken = p.taken + length (frame_text frame) }

-- after a text was taken, or none
abbrev pub after_text : {H : Type 0} → Progress → Option (Text H) → Progress
after_text p None = p
after_text p (Some text) = record p { taken = p.taken + text.size }

-- the frame was taken, or the input had ended
abbrev pub TookNext : Option (List ℕ) → Option (List ℕ) → Option ScriptFrame → Type 0
TookNext old new (Some frame) = IsFrame frame × Consumes old new (frame_text frame)
TookNext old new None = Consumes old new [] × IsAtEnd new

-- why a reader stops: by how far it has come, what was left and is left, and the source's count before and now
abbrev pub HasCause : Progress → Option (List ℕ) → Option (List ℕ) → ℕ → ℕ → FrameNo → Type 0
HasCause p = Stops NoFrame IsBroken p.taken (p.given + 1)

-- what the parts of a line may be
pub record LineFits (m w0 w1 w2 w3 n : ℕ) : Type 0 where
  pub moment : m ≤ 99_999_999_999
  pub first : w0 < 2 ^ 64
  pub second : w1 < 2 ^ 64
  pub third : w2 < 2 ^ 64
  pub fourth : w3 < 2 ^ 64
  pub size : n ≤ 300_000

-- this is a frame's line, of this moment and these words, after which so many bytes follow
abbrev pub IsFrameLine : FrameLine → ℕ → List ℕ → Type 0
IsFrameLine said size line =
    (length said.words.0 ≡ 4) × LineFits said.moment (slice_index said.words.0 0) (slice_index said.words.0 1) (slice_index said.words.0 2) (slice_index said.words.0 3) size
    × (line ≡ frame_line said.moment (slice_index said.words.0 0) (slice_index said.words.0 1) (slice_index said.words.0 2) (slice_index said.words.0 3) size)

-- ---- the parts of a frame, of which at most so many bytes may be taken

-- this part was taken, and then a call failed, or as many bytes were taken as may be and one more was there
abbrev pub Stopped : ℕ → Option (List ℕ) → Option (List ℕ) → ℕ → ℕ → List ℕ → FrameNo → Type 0
Stopped most old new before now part Read = Consumes old new part × (length part ≤ most) × Rose before now
Stopped most old new before now part TooLong = (next : ℕ) × Consumes old new (part ++ next ∷ []) × (length part ≡ most)
Stopped most old new before now part (Bad n) = ⊥
Stopped most old new before now part Memory = ⊥

-- how the reading of a line ended: at the end of the input, at a line feed after so many bytes, or before one
abbrev pub TookLine : ℕ → Option (List ℕ) → Option (List ℕ) → List ℕ → LineEnd → Type 0
TookLine most old new room ends.End = Consumes old new [] × IsAtEnd new
TookLine most old new room (ends.Whole n) = (n < 96) × (n < most) × Consumes old new (take n room ++ 10 ∷ []) × Lacks 10 (take n room)
TookLine most old new room ends.Broken = (n : ℕ) × (0 < n) × (n ≤ 96) × (n ≤ most) × Consumes old new (take n room) × Lacks 10 (take n room) × (n < 96 → IsAtEnd new)

-- the reading stopped within a line
abbrev pub StoppedInLine : ℕ → Option (List ℕ) → Option (List ℕ) → ℕ → ℕ → FrameNo → Type 0
StoppedInLine most old new before now fault = (part : List ℕ) × Lacks 10 part × Stopped most old new before now part fault

-- how the reading of so many bytes ended: with them, at the end of the input, or for want of memory
abbrev pub TookBytes : ℕ → ℕ → Option (List ℕ) → Option (List ℕ) → Part → Type 0
TookBytes size most old new (parts.Whole bytes) = (length bytes ≡ size) × (size ≤ most) × Consumes old new bytes
TookBytes size most old new parts.Broken = (part : List ℕ) × (length part < size) × (length part ≤ most) × Consumes old new part × IsAtEnd new
TookBytes size most old new parts.NoMemory = Consumes old new []

-- the reading stopped within so many bytes
abbrev pub StoppedInBytes : ℕ → ℕ → Option (List ℕ) → Option (List ℕ) → ℕ → ℕ → FrameNo → Type 0
StoppedInBytes size most old new before now fault = (part : List ℕ) × (length part ≤ size) × Stopped most old new before now part fault

-- a byte was taken, or the input had ended
abbrev pub TookByte : ℕ → Option (List ℕ) → Option (List ℕ) → Option ℕ → Type 0
TookByte most old new (Some byte) = (0 < most) × Consumes old new (byte ∷ [])
TookByte most old new None = Consumes old new [] × IsAtEnd new

-- no such number of bytes with a line feed after them begins the text
abbrev pub NoBody : ℕ → List ℕ → Type 0
NoBody size text = (body tail : List ℕ) → length body ≡ size → text ≢ body ++ 10 ∷ tail

-- how the reading of so many bytes and a line feed ended: with them, without one of them, or for want of memory
abbrev pub TookBody : ℕ → ℕ → Option (List ℕ) → Option (List ℕ) → Part → Type 0
TookBody size most old new (parts.Whole bytes) = (length bytes ≡ size) × (size < most) × Consumes old new (bytes ++ 10 ∷ [])
TookBody size most old new parts.Broken = (part : List ℕ) × (length part ≤ most) × Consumes old new part × NoBody size part × IfSome old (NoBody size)
TookBody size most old new parts.NoMemory = Consumes old new []

-- the reading stopped within them
abbrev pub StoppedInBody : ℕ → ℕ → Option (List ℕ) → Option (List ℕ) → ℕ → ℕ → FrameNo → Type 0
StoppedInBody size most old new before now fault = (part : List ℕ) × NoBody size part × Stopped most old new before now part fault
