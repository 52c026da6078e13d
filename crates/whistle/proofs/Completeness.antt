-- A whole script without faults is played to its end, or there is no memory.
use Rattle.std.proofs.Common.{◌≡◌, ◌≢◌, ◌⊎◌, inl, inr, subst, ℕ, ◌<◌, ◌^◌, List, [], ◌∷◌, ◌++◌, length, length-append, append_assoc, Option, Some, Ok, Err, refl, sym, ap, ◌∙◌, arith}
use Rattle.std.specs.List.{AllByRecursion}
use Rattle.wb_base.specs.declared.rows.Row.{Row}
use Rattle.wb_model.specs.declared.wire.ScriptFrame.{ScriptFrame}
use Rattle.wb_model.specs.FrameTexts.{texts, frame_text, IsFrame, IsBroken}
use Rattle.wb_cli.specs.declared.status.Status.{Status}
use Rattle.wb_cli.specs.declared.status.Status.TheVariants.{Done, Usage, ReadFault, WriteFault, NoMemory, BadFrame, Setup, OpenFault, KeptRows, TooLong, ListenFault, OutboxRows, NotThere, OutboxFault}
use Rattle.wb_model.specs.declared.registry.Lists.{Lists}
use Rattle.wb_rows.specs.declared.faults.RowFault.{RowFault}
use Rattle.wb_rows.specs.Held.{Held}
use Rattle.wb_rows.specs.Judged.{judged}
use Rattle.wb_setup.specs.declared.setup.SetupFault.{SetupFault}
use Rattle.wb_setup.specs.Setups.{setup as lists_in}
use Rattle.wb_wire.specs.SetupReading.{TookSetup}
use Rattle.wb_wire.specs.SetupText.{setup_text, IsSetup, NoSetup}
use Rattle.whistle.specs.Runs.{script_text, RanOn, RanNot, Ran}
use Rattle.whistle.proofs.PlayLemmas.{begins_with, some_bytes}
use Rattle.wb_base.specs.Ends.{KeeperEnd, SinkEnd, SourceEnd}
use Rattle.wb_cli.specs.Loads.{SourceStood, SinkStood, KeeperStood}
use Rattle.std.specs.Prelude.{IfSome}
use Rattle.std.specs.Io.KnownBytes.{Consumes}

-- a text parts into frames in one way
module _ (one_way : (f g : ScriptFrame) (x y : List ℕ) → IsFrame f → IsFrame g → frame_text f ++ x ≡ frame_text g ++ y → (f ≡ g) × (x ≡ y)) where
  -- so what follows some frames of a whole script is not broken
  parted : (frames fs : List ScriptFrame) (rest : List ℕ) → AllByRecursion IsFrame frames → AllByRecursion IsFrame fs → texts frames ≡ texts fs ++ rest → IsBroken rest → ⊥
  parted [] [] rest all more e broken = broken.goes_on (sym e)
  parted (f ∷ frames) [] rest all more e broken = broken.no_frame f (texts frames) all.0 (sym e)
  parted [] (g ∷ fs) rest all more e broken = omega (arith, ap length e, length-append (frame_text g ++ texts fs) rest, length-append (frame_text g) (texts fs), some_bytes g)
  parted (f ∷ frames) (g ∷ fs) rest all more e broken =
      parted frames fs rest all.1 more.1 (one_way f g (texts frames) (texts fs ++ rest) all.0 more.0 (e ∙ append_assoc (frame_text g) (texts fs) rest)).1 broken

  module _ (one_setup : (a b x y : List ℕ) → IsSetup a → IsSetup b → setup_text a ++ x ≡ setup_text b ++ y → (a ≡ b) × (x ≡ y)) where
    -- what follows the setup
    after_setup : (setup other : List ℕ) (frames fs : List ScriptFrame) (rest : List ℕ) → IsSetup setup → IsSetup other → script_text setup frames ≡ script_text other fs ++ rest → texts frames ≡ texts fs ++ rest
    after_setup setup other frames fs rest whole same e = (one_setup setup other (texts frames) (texts fs ++ rest) whole same (e ∙ append_assoc (setup_text other) (texts fs) rest)).1

    -- the setup that was taken is the script's
    same_setup : (left' : Option (List ℕ)) (setup other : List ℕ) (frames : List ScriptFrame) → IsSetup setup → TookSetup (Some (script_text setup frames)) left' other → setup ≡ other
    same_setup left' setup other frames whole took =
        let text = begins_with (Some (script_text setup frames)) left' (setup_text other) took.1 in
        (one_setup setup other (texts frames) text.0 whole took.0 text.1).0

    -- so its lists are not refused
    not_refused : (setup other : List ℕ) (lists : Lists) (fault : SetupFault) → setup ≡ other → lists_in setup ≡ Ok lists → lists_in other ≡ Err fault → ⊥
    not_refused setup other lists fault same reads refused = grind (arith, same, reads, refused)

    -- nor are the rows
    rows_not_refused : (rows loaded : List Row) (h : Held) (fault : RowFault) → rows ≡ loaded → judged rows ≡ Ok h → judged loaded ≡ Err fault → ⊥
    rows_not_refused rows loaded h fault same reads refused = grind (arith, same, reads, refused)

    module _ (source source' : SourceEnd) (sink sink' : SinkEnd) (keeper keeper' : KeeperEnd) (setup : List ℕ) (lists : Lists) (frames : List ScriptFrame) (whole : IsSetup setup) (reads : lists_in setup ≡ Ok lists)
        (all : AllByRecursion IsFrame frames) (tells : source.left ≡ Some (script_text setup frames)) (short : length (script_text setup frames) < 2 ^ 40) (h : keeper'.honest) (kept_rows : List Row) (holding : keeper.holds kept_rows) (held_rows : Held) (reads_rows : judged kept_rows ≡ Ok held_rows) (read : SourceStood source source') (wrote : SinkStood sink sink') (kept : KeeperStood keeper keeper')
      where
        abbrev pub Comes : Status → Type 0
        Comes status = (status ≡ Done) ⊎ (status ≡ NoMemory)

        abbrev pub Starts : Status → Type 0
        Starts status = RanNot source source' sink sink' keeper keeper' status

        abbrev pub GoesOn : Status → Type 0
        GoesOn status = RanOn source source' sink sink' keeper keeper' status

        not_begun : (status : Status) → status ≢ Usage → Starts status → Comes status
        not_begun Done ne ran = inl refl
        not_begun Usage ne ran = absurd (ne refl)
        not_begun ReadFault ne ran = absurd (read ran.none.cause.0)
        not_begun WriteFault ne ran = absurd ran.none.cause
        not_begun NoMemory ne ran = inr refl
        not_begun (BadFrame n) ne ran = absurd ((subst (λ text. IfSome text NoSetup) tells ran.none.cause.1) setup (texts frames) whole refl)
        not_begun (Setup fault) ne ran = let refused = ran.none.cause in absurd (not_refused setup refused.0 lists fault (same_setup source'.left setup refused.0 frames whole (subst (λ text. TookSetup text source'.left refused.0) tells refused.1)) reads refused.2.1)
        not_begun OpenFault ne ran = absurd (kept ran.none.cause.2.0)
        not_begun (KeptRows fault) ne ran = let refused = ran.none.cause.2.0 in absurd (rows_not_refused kept_rows refused.0 held_rows fault (refused.1 h kept_rows holding) reads_rows refused.2)
        not_begun ListenFault ne ran = absurd ran.none.cause
        not_begun (OutboxRows key) ne ran = absurd ran.none.cause
        not_begun NotThere ne ran = absurd ran.none.cause
        not_begun OutboxFault ne ran = absurd ran.none.cause
        not_begun TooLong ne ran =
            let part = ran.none.cause.0 in
            let text = begins_with (Some (script_text setup frames)) source'.left (part.0 ++ part.1 ∷ []) (subst (λ text. Consumes text source'.left (part.0 ++ part.1 ∷ [])) tells part.2) in
            absurd (omega (arith, short, ap length text.1, length-append (part.0 ++ part.1 ∷ []) text.0, length-append part.0 (part.1 ∷ []), part.4))

        gone_on : (status : Status) → GoesOn status → Comes status
        gone_on Done ran = inl refl
        gone_on Usage ran = absurd ran.plays
        gone_on ReadFault ran = absurd (read ran.plays.3)
        gone_on WriteFault ran = absurd (wrote ran.plays.3)
        gone_on NoMemory ran = inr refl
        gone_on (BadFrame n) ran =
            let plays = ran.plays in
            let rest = subst (λ text. IfSome text (λ l. (rest : List ℕ) × (l ≡ script_text ran.setup plays.0 ++ rest) × IsBroken rest)) tells plays.5 in
            absurd (parted frames plays.0 rest.0 all plays.2.played.good (after_setup setup ran.setup frames plays.0 rest.0 whole ran.whole rest.1) rest.2)
        gone_on (Setup fault) ran = absurd ran.plays
        gone_on OpenFault ran = absurd ran.plays
        gone_on (KeptRows fault) ran = absurd ran.plays
        gone_on ListenFault ran = absurd ran.plays
        gone_on (OutboxRows key) ran = absurd ran.plays
        gone_on NotThere ran = absurd ran.plays
        gone_on OutboxFault ran = absurd ran.plays
        gone_on TooLong ran =
            let plays = ran.plays in
            let text = begins_with (Some (script_text setup frames)) source'.left (script_text ran.setup plays.0 ++ plays.3.0 ++ plays.3.1 ∷ []) (subst (λ text. Consumes text source'.left (script_text ran.setup plays.0 ++ plays.3.0 ++ plays.3.1 ∷ [])) tells plays.3.2) in
            absurd (omega (arith, short, ap length text.1, length-append (script_text ran.setup plays.0 ++ plays.3.0 ++ plays.3.1 ∷ []) text.0, length-append (script_text ran.setup plays.0 ++ plays.3.0) (plays.3.1 ∷ []), plays.3.4))

        -- the statuses that are left
        pub completed : (status : Status) → status ≢ Usage → Ran source source' sink sink' keeper keeper' status → Comes status
        completed status ne (inl ran) = not_begun status ne ran
        completed status ne (inr ran) = gone_on status ran
