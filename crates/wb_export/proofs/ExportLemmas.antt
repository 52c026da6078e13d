-- A text that was written over rows that were read.
use Rattle.std.proofs.Common.{ℕ, ◌≡◌, ◌⊎◌, inl, inr, true, Bool, List, sym, subst}
use Rattle.std.specs.Io.KnownBytes.{Appends}
use Rattle.wb_base.specs.Outside.{AppendsFront, Rose}
use Rattle.wb_rows.specs.Held.{Held}
use Rattle.wb_cli.specs.declared.status.Status.{Status}
use Rattle.wb_cli.specs.declared.status.Status.TheVariants.{Done, WriteFault}
use Rattle.wb_export.specs.Exports.{Exported, Looked}
use Rattle.wb_base.specs.Ends.{KeeperEnd, SinkEnd}

module _ (keeper keeper' : KeeperEnd) (sink sink' : SinkEnd) (is_there : Held → Bool) (IsText : Held → List ℕ → Type 0) where
  abbrev Did : Status → Type 0
  Did status = Exported keeper keeper' sink sink' is_there IsText status

  pub wrote : (status : Status) (text : List ℕ) (looked : Looked keeper keeper' sink sink' is_there IsText true) → IsText looked.kept text
      → (status ≡ Done) ⊎ (status ≡ WriteFault) → (status ≡ Done → Appends sink.held sink'.held text) → (status ≡ WriteFault → AppendsFront sink.held sink'.held text × Rose sink.count sink'.count) → Did status
  wrote status text looked is (inl done) all part = subst Did (sym done) (looked, (text, is, all done))
  wrote status text looked is (inr fault) all part = let cut = part fault in subst Did (sym fault) (looked, cut.1, (text, is, cut.0))
