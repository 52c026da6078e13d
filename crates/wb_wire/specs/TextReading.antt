-- What a reader takes of a text that is a line and the bytes that it says, each with a line feed after it.
use Rattle.std.specs.Prelude.{ℕ, ◌≡◌, ◌≢◌, ◌+◌, ◌≤◌, ◌^◌, List, [], ◌∷◌, ◌++◌, length, slice_index, EachIndex, Option, None, Some, IfSome, Result, Err}
use Rattle.std.specs.Io.KnownBytes.{Consumes, IsAtEnd}
use Rattle.wb_base.specs.Outside.{Rose}
use Rattle.wb_wire.specs.declared.frames.FrameNo.{FrameNo}
use Rattle.wb_wire.specs.declared.frames.FrameNo.TheVariants.{Read, Bad, TooLong, Memory}
use Rattle.wb_wire.specs.declared.read_text.Text.{Text}

-- the byte stands nowhere in the text
abbrev pub Lacks : ℕ → List ℕ → Type 0
Lacks c text = EachIndex text (λ i. slice_index text i ≢ c)

-- ---- by what lines say: which are the lines of a head and a size

-- no line of at most 95 bytes begins the text with as many bytes as it says, each with a line feed after it
abbrev pub BeginsNone : {H : Type 0} → (H → ℕ → List ℕ → Type 0) → List ℕ → Type 0
BeginsNone {H} IsLine text = (head : H) (line bytes more : List ℕ) → IsLine head (length bytes) line → length line ≤ 95 → Lacks 10 line → text ≢ line ++ 10 ∷ (bytes ++ 10 ∷ more)

-- the text goes on, and not so
abbrev pub GoesOnOtherwise : {H : Type 0} → (H → ℕ → List ℕ → Type 0) → List ℕ → Type 0
GoesOnOtherwise IsLine text = (text ≢ []) × BeginsNone IsLine text

-- after so many bytes, a text was taken, or the input had ended
abbrev pub TookText : {H : Type 0} → (H → ℕ → List ℕ → Type 0) → ℕ → Option (List ℕ) → Option (List ℕ) → Option (Text H) → Type 0
TookText IsLine taken old new (Some text) =
    (line : List ℕ) × IsLine text.head (length text.bytes) line × Consumes old new (line ++ 10 ∷ (text.bytes ++ 10 ∷ []))
    × (text.size ≡ length line + length text.bytes + 2) × (taken + text.size ≤ 2 ^ 40)
TookText IsLine taken old new None = Consumes old new [] × IsAtEnd new

-- ---- why a reader stops

-- the source's count did not fall, and it stayed where no reading of the source failed
pub record HasCounted {T : Type 0} (before now : ℕ) (result : Result T FrameNo) : Type 0 where
  pub later : before ≤ now
  pub stayed : result ≢ Err Read → now ≡ before

-- after so many bytes, bytes within the limit were taken, of which this is so
abbrev pub TookSome : (List ℕ → Type 0) → ℕ → Option (List ℕ) → Option (List ℕ) → Type 0
TookSome IsSo taken old new = (part : List ℕ) × Consumes old new part × IsSo part × (taken + length part ≤ 2 ^ 40)

-- all bytes up to the limit were taken, of which this is so, and one more was there
abbrev pub TookAll : (List ℕ → Type 0) → ℕ → Option (List ℕ) → Option (List ℕ) → Type 0
TookAll IsSo taken old new = (part : List ℕ) × (next : ℕ) × Consumes old new (part ++ next ∷ []) × IsSo part × (taken + length part ≡ 2 ^ 40)

-- why a reader stops: by what is so of bytes that no text begins, and of an input that is not of the form; how many bytes it has taken, and
-- the text's number; what was left and is left, and the source's count before and now
abbrev pub Stops : (List ℕ → Type 0) → (List ℕ → Type 0) → ℕ → ℕ → Option (List ℕ) → Option (List ℕ) → ℕ → ℕ → FrameNo → Type 0
Stops NoText IsBroken taken number old new before now Read = Rose before now × TookSome NoText taken old new
Stops NoText IsBroken taken number old new before now (Bad n) = (n ≡ number) × IfSome old IsBroken × TookSome NoText taken old new
Stops NoText IsBroken taken number old new before now TooLong = TookAll NoText taken old new
Stops NoText IsBroken taken number old new before now Memory = TookSome NoText taken old new
