-- What a run did, by its status.
use Rattle.std.specs.Prelude.{ℕ, ◌≡◌, ◌+◌, ◌^◌, ◌⊎◌, List, [], ◌∷◌, ◌++◌, length, IfSome, Some, Ok, ◌<◌, ◌≤◌}
use Rattle.std.specs.List.{AllByRecursion}
use Rattle.std.specs.Io.KnownBytes.{Appends, Consumes, Keeps}
use Rattle.wb_base.specs.declared.rows.Row.{Row}
use Rattle.wb_base.specs.Outside.{Rose}
use Rattle.wb_model.specs.declared.wire.ScriptFrame.{ScriptFrame}
use Rattle.wb_model.specs.FrameTexts.{texts, IsFrame, IsBroken, NoFrame}
use Rattle.wb_model.specs.Past.{Past}
use Rattle.wb_model.specs.Pasts.{AllOpened}
use Rattle.wb_model.specs.Playing.{written, output}
use Rattle.wb_model.specs.Scripts.{Place, play, script_replies, past_after}
use Rattle.wb_setup.specs.Setups.{setup as lists_in}
use Rattle.wb_wire.specs.SetupText.{setup_text, IsSetup}
use Rattle.wb_desk.specs.Openings.{IsOpenedBy}
use Rattle.whistle.specs.Starts.{OpensNone}
use Rattle.whistle.specs.Played.{HasPlayed}
use Rattle.wb_cli.specs.declared.status.Status.{Status}
use Rattle.wb_cli.specs.declared.status.Status.TheVariants.{Done, ReadFault, WriteFault, NoMemory, BadFrame, TooLong}
use Rattle.wb_base.specs.Ends.{KeeperEnd, SourceEnd, SinkEnd}
use Rattle.wb_cli.specs.Loads.{SourceStood, SinkStood, KeeperStood}
use Rattle.wb_cli.specs.Statuses.{IsDoneOrNoMemory}
use Rattle.wb_model.specs.declared.registry.Lists.{Lists}
use Rattle.wb_rows.specs.Held.{Held}
use Rattle.wb_rows.specs.Judged.{judged}

-- the text of a script: the setup's frame, and frame after frame
abbrev pub script_text : List ℕ → List ScriptFrame → List ℕ
script_text setup frames = setup_text setup ++ texts frames

-- with the ends of the source, the sink and the keeper before and now
module _ (source source' : SourceEnd) (sink sink' : SinkEnd) (keeper keeper' : KeeperEnd) where
  -- of a host that was opened over these loaded rows with this setup, and stands for this past before its first turn
  module _ (loaded : List Row) (setup : List ℕ) (start : Past AllOpened) where
    -- the input begins with the setup and these frames, which have at most 2^40 bytes, and the host played them as these places
    pub record PlayedFrames (frames : List ScriptFrame) (places : List Place) : Type 0 where
      pub good : AllByRecursion IsFrame frames
      pub begins : IfSome source.left (λ text. (rest : List ℕ) × (text ≡ script_text setup frames ++ rest))
      pub within : length (script_text setup frames) ≤ 2 ^ 40
      pub turns : HasPlayed keeper keeper' loaded setup start frames places

    -- and wrote each reply
    pub record Wrote (frames : List ScriptFrame) (places : List Place) : Type 0 where
      pub played : PlayedFrames frames places
      pub written : Appends sink.held sink'.held (output (script_replies start places))

    -- and wrote each reply but the last whole, and of the last a part that begins at its front
    pub record BrokeOff (places : List Place) : Type 0 where
      pub before : List Place
      pub last : Place
      pub order : places ≡ before ++ last ∷ []
      pub front : List ℕ
      pub rest : List ℕ
      pub cut : written (play (past_after start before) last).reply ≡ front ++ rest
      pub told : Appends sink.held sink'.held (output (script_replies start before) ++ front)

    -- the setup and these frames were taken, and then bytes that no whole frame begins, at most 2^40 in all
    abbrev pub TookThen : List ScriptFrame → Type 0
    TookThen frames = (part : List ℕ) × Consumes source.left source'.left (script_text setup frames ++ part) × NoFrame part × (length (script_text setup frames ++ part) ≤ 2 ^ 40)

    -- the same, with 2^40 bytes in all and one more after them
    abbrev pub TookTooMuch : List ScriptFrame → Type 0
    TookTooMuch frames = (part : List ℕ) × (next : ℕ) × Consumes source.left source'.left (script_text setup frames ++ part ++ next ∷ []) × NoFrame part × (length (script_text setup frames ++ part) ≡ 2 ^ 40)

    -- what the run did with the frames, by its status
    abbrev pub Plays : Status → Type 0
    Plays Done = (frames : List ScriptFrame) × (places : List Place) × Wrote frames places × IfSome source.left (λ text. text ≡ script_text setup frames)
    Plays ReadFault = (frames : List ScriptFrame) × (places : List Place) × Wrote frames places × Rose source.count source'.count × TookThen frames
    Plays WriteFault = (frames : List ScriptFrame) × (places : List Place) × PlayedFrames frames places × Rose sink.count sink'.count × Consumes source.left source'.left (script_text setup frames) × BrokeOff places
    Plays NoMemory = (frames : List ScriptFrame) × (places : List Place) × Wrote frames places × TookThen frames
    Plays (BadFrame n) = (frames : List ScriptFrame) × (places : List Place) × Wrote frames places × TookThen frames × (n ≡ length frames + 1)
        × IfSome source.left (λ text. (rest : List ℕ) × (text ≡ script_text setup frames ++ rest) × IsBroken rest)
    Plays TooLong = (frames : List ScriptFrame) × (places : List Place) × Wrote frames places × TookTooMuch frames
    Plays status = ⊥

  -- a run that opened no host: nothing is written, and what is kept is as it was
  pub record RanNot (status : Status) : Type 0 where
    pub none : OpensNone keeper keeper' source source' status
    pub held_as_it_was : Keeps sink.held sink'.held

  -- a run that opened one over the rows that the keeper held and a setup, and played frames
  pub record RanOn (status : Status) : Type 0 where
    pub loaded : List Row
    pub setup : List ℕ
    pub start : Past AllOpened
    pub whole : IsSetup setup
    pub opened : IsOpenedBy loaded setup start
    pub plays : Plays loaded setup start status

  -- what a run with this status did
  abbrev pub Ran : Status → Type 0
  Ran status = RanNot status ⊎ RanOn status

-- a whole script whose setup is accepted is played to its end over rows that are read, where no call failed, or there was no memory
abbrev pub PlaysWhole : SourceEnd → SourceEnd → SinkEnd → SinkEnd → KeeperEnd → KeeperEnd → Status → Type 0
PlaysWhole source source' sink sink' keeper keeper' status =
    (setup : List ℕ) (lists : Lists) (frames : List ScriptFrame) (kept : List Row) (held : Held) → IsSetup setup → lists_in setup ≡ Ok lists → AllByRecursion IsFrame frames
    → source.left ≡ Some (script_text setup frames) → length (script_text setup frames) < 2 ^ 40 → keeper'.honest → keeper.holds kept → judged kept ≡ Ok held
    → SourceStood source source' → SinkStood sink sink' → KeeperStood keeper keeper' → IsDoneOrNoMemory status
