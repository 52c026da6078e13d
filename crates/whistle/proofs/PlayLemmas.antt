-- Turn after turn.
use Rattle.std.proofs.Common.{◌≡◌, ◌<◌, ◌≤◌, ◌+◌, ◌^◌, ℕ, List, [], ◌∷◌, ◌++◌, length, refl, sym, ap, ◌∙◌, append_assoc, append-nil, subst, arith, Option, Some, None, Ok, IfSome, inr, length-append}
use Rattle.std.specs.List.{AllByRecursion}
use Rattle.std.specs.Io.KnownBytes.{Appends, Consumes, IsAtEnd}
use Rattle.std.proofs.KnownBytes.{Appends-trans, Consumes-trans, Appends-nil}
use Rattle.wb_base.specs.declared.rows.Row.{Row}
use Rattle.wb_base.specs.Outside.{AppendsFront, Rose}
use Rattle.wb_cli.specs.declared.status.Status.{Status}
use Rattle.wb_cli.specs.declared.status.Status.TheVariants.{Done, ReadFault, WriteFault, NoMemory, BadFrame, TooLong}
use Rattle.wb_model.specs.declared.wire.ScriptFrame.{ScriptFrame}
use Rattle.wb_model.specs.FrameTexts.{texts, frame_text, line_of, IsFrame, IsBroken, NoFrame}
use Rattle.wb_model.specs.Past.{Past}
use Rattle.wb_model.specs.Pasts.{AllOpened}
use Rattle.wb_model.specs.Playing.{written, output}
use Rattle.wb_model.specs.Rows.{rows}
use Rattle.wb_model.specs.Scripts.{Place, script_replies, past_after}
use Rattle.wb_model.specs.Tenants.{Hosts}
use Rattle.wb_rows.specs.Judged.{judged}
use Rattle.wb_rows.specs.Left.{left as left_of}
use Rattle.wb_wire.specs.declared.frames.FrameNo.{FrameNo}
use Rattle.wb_wire.specs.declared.frames.FrameNo.TheVariants as causes
use Rattle.wb_wire.specs.FrameReading.{Progress, after_next, HasCause, TookNext}
use Rattle.wb_wire.specs.TextReading.{TookSome}
use Rattle.wb_desk.specs.Turns.{StandsFor}
use Rattle.wb_wire.specs.declared.responses.Response.{Response}
use Rattle.wb_wire.specs.Responses.{reply_of}
use Rattle.whistle.specs.Answered.{IsAnswerTo}
use Rattle.wb_wire.specs.SetupText.{setup_line, setup_text, IsSetup, NoSetup}
use Rattle.wb_desk.specs.Openings.{IsOpenedBy}
use Rattle.whistle.specs.Starts.{Begins}
use Rattle.whistle.specs.Played.{HasPlayed}
use Rattle.whistle.specs.Runs.{script_text, Wrote, TookThen, Plays, Ran}
use Rattle.wb_promise.specs.Promises.{AllAsPromised}
use Rattle.whistle.proofs.TurnLemmas.{IsReadBy, more, output_more, none_played, one_more, stands_more}
use Rattle.wb_base.specs.Ends.{KeeperEnd, SinkEnd, SourceEnd}

pub texts_more : (fs : List ScriptFrame) (f : ScriptFrame) → texts (more fs f) ≡ texts fs ++ frame_text f
texts_more [] f = append-nil (frame_text f)
texts_more (g ∷ fs) f = ap (λ l. frame_text g ++ l) (texts_more fs f) ∙ sym (append_assoc (frame_text g) (texts fs) (frame_text f))

pub good_more : (fs : List ScriptFrame) (f : ScriptFrame) → AllByRecursion IsFrame fs → IsFrame f → AllByRecursion IsFrame (more fs f)
good_more [] f all one = (one, tt)
good_more (g ∷ fs) f all one = (all.0, good_more fs f all.1 one)

pub length_more : {X : Type 0} (xs : List X) (x : X) → length (more xs x) ≡ length xs + 1
length_more [] x = refl
length_more (y ∷ xs) x = omega (arith, length_more xs x)

-- what was consumed stood in front
pub begins_with : (a b : Option (List ℕ)) (bytes : List ℕ) → Consumes a b bytes → IfSome a (λ text. (rest : List ℕ) × (text ≡ bytes ++ rest))
begins_with None b bytes h = tt
begins_with (Some x) None bytes h = absurd h
begins_with (Some x) (Some y) bytes h = (y, h)

-- the same bytes, parted otherwise
pub regrouped : (a b : Option (List ℕ)) (xs ys zs : List ℕ) → Consumes a b (xs ++ (ys ++ zs)) → Consumes a b (xs ++ ys ++ zs)
regrouped a b xs ys zs h = subst (Consumes a b) (sym (append_assoc xs ys zs)) h

-- all was consumed, and nothing is left
pub at_end : (a b c : Option (List ℕ)) (bytes : List ℕ) → Consumes a b bytes → Consumes b c [] → IsAtEnd c → IfSome a (λ text. text ≡ bytes)
at_end None b c bytes p q e = tt
at_end (Some x) None c bytes p q e = absurd p
at_end (Some x) (Some y) None bytes p q e = absurd q
at_end (Some x) (Some y) (Some z) bytes p q e = p ∙ (ap (λ l. bytes ++ l) (q ∙ e) ∙ append-nil bytes)

-- what is left goes on, and not by a frame
pub then_broken : (a b : Option (List ℕ)) (bytes : List ℕ) → Consumes a b bytes → IfSome b IsBroken → IfSome a (λ text. (rest : List ℕ) × (text ≡ bytes ++ rest) × IsBroken rest)
then_broken None b bytes p q = tt
then_broken (Some x) None bytes p q = absurd p
then_broken (Some x) (Some y) bytes p q = (y, p, q)

-- no setup begins an empty text
pub nothing_begins : NoSetup []
unfolding setup_text
nothing_begins bytes more whole e = omega (arith, ap length e, length-append (setup_line (length bytes) ++ 10 ∷ (bytes ++ 10 ∷ [])) more, length-append (setup_line (length bytes)) (10 ∷ (bytes ++ 10 ∷ [])))

-- a frame has bytes
pub some_bytes : (f : ScriptFrame) → 0 < length (frame_text f)
unfolding frame_text
some_bytes f = omega (arith, length-append (line_of f) (10 ∷ (f.bytes ++ 10 ∷ [])))

pub script_more : (setup : List ℕ) (fs : List ScriptFrame) (f : ScriptFrame) → script_text setup (more fs f) ≡ script_text setup fs ++ frame_text f
script_more setup fs f = ap (λ l. setup_text setup ++ l) (texts_more fs f) ∙ sym (append_assoc (setup_text setup) (texts fs) (frame_text f))

-- how it stands between two turns of a run: the rows that were loaded, the setup, the past that they opened, and the frames and places so far
pub record InRun (source : SourceEnd) (sink : SinkEnd) (keeper : KeeperEnd) (source' : SourceEnd) (sink' : SinkEnd) (keeper' : KeeperEnd) (hosts : Hosts) (reader : Progress) : Type 0 where
  pub loaded : List Row
  pub setup : List ℕ
  pub start : Past AllOpened
  pub whole : IsSetup setup
  pub opened : IsOpenedBy loaded setup start
  pub promise : AllAsPromised loaded setup start
  pub frames : List ScriptFrame
  pub places : List Place
  pub good : AllByRecursion IsFrame frames
  pub taken : Consumes source.left source'.left (script_text setup frames)
  pub told : Appends sink.held sink'.held (output (script_replies start places))
  pub number : reader.given ≡ length frames
  pub size : reader.taken ≡ length (script_text setup frames)
  pub within : reader.taken ≤ 2 ^ 40
  pub goes_on : reader.stopped ≡ None
  pub turns : HasPlayed keeper keeper' loaded setup start frames places
  pub stands : StandsFor hosts (past_after start places)

-- before the first turn
pub at_start : (source : SourceEnd) (sink : SinkEnd) (keeper : KeeperEnd) (source' : SourceEnd) (keeper' : KeeperEnd) (hosts : Hosts) (reader : Progress) (begins : Begins keeper keeper' source source' reader hosts) → AllAsPromised begins.loaded begins.setup begins.start
    → judged (rows begins.start) ≡ Ok (left_of begins.start) → reader.taken ≤ 2 ^ 40 → InRun source sink keeper source' sink keeper' hosts reader
at_start source sink keeper source' keeper' hosts reader begins promise read within = record {
  loaded = begins.loaded;
  setup = begins.setup;
  start = begins.start;
  whole = begins.took.0;
  opened = begins.opens.opened;
  promise = promise;
  frames = [];
  places = [];
  good = tt;
  taken = subst (Consumes source.left source'.left) (sym (append-nil (setup_text begins.setup))) begins.took.1;
  told = Appends-nil sink.held;
  number = ap (λ (p : Progress). p.given) begins.goes_on;
  size = omega (arith, ap (λ (p : Progress). p.taken) begins.goes_on, ap length (append-nil (setup_text begins.setup)));
  within = within;
  goes_on = ap (λ (p : Progress). p.stopped) begins.goes_on;
  turns = none_played begins.loaded begins.setup begins.start keeper promise keeper' begins.opens.later begins.opens.kept read;
  stands = begins.opens.stands;
}

-- from here on
module _ {source : SourceEnd} {sink : SinkEnd} {keeper : KeeperEnd} {source' : SourceEnd} {sink' : SinkEnd} {keeper' : KeeperEnd} {hosts : Hosts} {reader : Progress} (was : InRun source sink keeper source' sink' keeper' hosts reader) where
  -- what the run did, if it ends here
  ran_on : (source'' : SourceEnd) (sink'' : SinkEnd) (keeper'' : KeeperEnd) (status : Status) → Plays source source'' sink sink'' keeper keeper'' was.loaded was.setup was.start status → Ran source source'' sink sink'' keeper keeper'' status
  ran_on source'' sink'' keeper'' status plays = inr (record { loaded = was.loaded; setup = was.setup; start = was.start; whole = was.whole; opened = was.opened; plays = plays })

  -- one more frame was taken, and answered as one more place
  pub record Turned (source'' : SourceEnd) (keeper'' : KeeperEnd) (after : Hosts) (frame : ScriptFrame) (answer : Response) : Type 0 where
    pub place : Place
    pub took : IsFrame frame × Consumes source'.left source''.left (frame_text frame)
    pub is : IsAnswerTo keeper' keeper'' (past_after was.start was.places) frame answer after place
    pub read : IsReadBy after
    pub back : keeper''.honest → keeper'.honest

  module _ {source'' : SourceEnd} (sink'' : SinkEnd) {keeper'' : KeeperEnd} {after : Hosts} {frame : ScriptFrame} {answer : Response} (turn : Turned source'' keeper'' after frame answer) where
    took_all : Consumes source.left source''.left (script_text was.setup (more was.frames frame))
    took_all = subst (Consumes source.left source''.left) (sym (script_more was.setup was.frames frame)) (Consumes-trans source.left source'.left source''.left _ _ was.taken turn.took.1)

    played : HasPlayed keeper keeper'' was.loaded was.setup was.start (more was.frames frame) (more was.places turn.place)
    played = one_more was.loaded was.setup was.start keeper was.promise keeper' was.frames was.places was.turns keeper'' turn.back after frame answer turn.place turn.is turn.read

    -- what is taken with it
    size_more : length (script_text was.setup (more was.frames frame)) ≡ reader.taken + length (frame_text frame)
    size_more = omega (arith, was.size, ap length (script_more was.setup was.frames frame), length-append (script_text was.setup was.frames) (frame_text frame))

    -- its reply was written
    pub advance : Appends sink'.held sink''.held (written (reply_of answer)) → (reader' : Progress) → reader' ≡ after_next reader (Some frame) → reader'.taken ≤ 2 ^ 40 → InRun source sink keeper source'' sink'' keeper'' after reader'
    advance told reader' goes within = record {
      loaded = was.loaded;
      setup = was.setup;
      start = was.start;
      whole = was.whole;
      opened = was.opened;
      promise = was.promise;
      frames = more was.frames frame;
      places = more was.places turn.place;
      good = good_more was.frames frame was.good turn.took.0;
      taken = took_all;
      told = subst (Appends sink.held sink''.held) (sym (output_more was.start was.places turn.place)) (Appends-trans sink.held sink'.held sink''.held _ _ was.told (subst (λ r. Appends sink'.held sink''.held (written r)) turn.is.reply told));
      number = omega (arith, was.number, length_more was.frames frame, ap (λ (r : Progress). r.given) goes);
      size = omega (arith, size_more, ap (λ (r : Progress). r.taken) goes);
      within = within;
      goes_on = ap (λ (r : Progress). r.stopped) goes ∙ was.goes_on;
      turns = played;
      stands = stands_more was.start was.places turn.place after turn.is.stands;
    }

    -- its reply was not wholly written
    pub stuck : (reader' : Progress) → reader' ≡ after_next reader (Some frame) → reader'.taken ≤ 2 ^ 40 → AppendsFront sink'.held sink''.held (written (reply_of answer)) → Rose sink.count sink''.count → Ran source source'' sink sink'' keeper keeper'' WriteFault
    stuck reader' goes within told failed = ran_on source'' sink'' keeper'' WriteFault (
      more was.frames frame,
      more was.places turn.place,
      record { good = good_more was.frames frame was.good turn.took.0; begins = begins_with source.left source''.left _ took_all; within = omega (arith, size_more, ap (λ (r : Progress). r.taken) goes, within); turns = played },
      failed,
      took_all,
      record { before = was.places; last = turn.place; order = refl; front = told.0; rest = told.1; cut = ap written (sym turn.is.reply) ∙ told.2; told = Appends-trans sink.held sink'.held sink''.held _ _ was.told told.3 },
    )

  -- no more frame was taken
  module _ (source'' : SourceEnd) where
    wrote : Wrote source source'' sink sink' keeper keeper' was.loaded was.setup was.start was.frames was.places
    wrote = record { played = record { good = was.good; begins = begins_with source.left source'.left _ was.taken; within = omega (arith, was.size, was.within); turns = was.turns }; written = was.told }

    took : (part : List ℕ) → Consumes source'.left source''.left part → Consumes source.left source''.left (script_text was.setup was.frames ++ part)
    took part more = Consumes-trans source.left source'.left source''.left (script_text was.setup was.frames) part was.taken more

    took_then : TookSome NoFrame reader.taken source'.left source''.left → TookThen source source'' sink sink' keeper keeper' was.loaded was.setup was.start was.frames
    took_then part = (part.0, took part.0 part.1, part.2, omega (arith, was.size, part.3, length-append (script_text was.setup was.frames) part.0))

    -- since the input ended
    pub ended : TookNext source'.left source''.left None → Ran source source'' sink sink' keeper keeper' Done
    ended end = ran_on source'' sink' keeper' Done (was.frames, was.places, wrote, at_end source.left source'.left source''.left (script_text was.setup was.frames) was.taken end.0 end.1)

    -- or why there was none: the status that tells it
    abbrev pub status_of : FrameNo → Status
    status_of causes.Read = ReadFault
    status_of (causes.Bad n) = BadFrame n
    status_of causes.TooLong = TooLong
    status_of causes.Memory = NoMemory

    pub stopped : (no : FrameNo) → HasCause reader source'.left source''.left source'.count source''.count no → source'.count ≡ source.count → Ran source source'' sink sink' keeper keeper' (status_of no)
    stopped causes.Read cause stood = ran_on source'' sink' keeper' ReadFault (was.frames, was.places, wrote, omega (arith, stood, cause.0), took_then cause.1)
    stopped (causes.Bad n) cause stood = ran_on source'' sink' keeper' (BadFrame n) (
      was.frames,
      was.places,
      wrote,
      took_then cause.2,
      omega (arith, cause.0, was.number),
      then_broken source.left source'.left (script_text was.setup was.frames) was.taken cause.1,
    )
    stopped causes.TooLong cause stood = ran_on source'' sink' keeper' TooLong (
      was.frames,
      was.places,
      wrote,
      (cause.0, cause.1, regrouped source.left source''.left (script_text was.setup was.frames) cause.0 (cause.1 ∷ []) (took (cause.0 ++ cause.1 ∷ []) cause.2), cause.3, omega (arith, length-append (script_text was.setup was.frames) cause.0, was.size, cause.4)),
    )
    stopped causes.Memory cause stood = ran_on source'' sink' keeper' NoMemory (was.frames, was.places, wrote, took_then cause)
