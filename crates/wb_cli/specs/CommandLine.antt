-- What the words after the program's name ask. The first names the command. The rest is read by what `clap` defines for one flat command, in
-- which each option takes one value, each plain word is a value, all may be left out, and nothing asks for help or a version.
use Rattle.std.specs.Prelude.{ℕ, ℤ, Bool, true, false, ◌≡◌, ◌≢◌, ◌≤◌, List, [], ◌∷◌, codes, decimal, Option, Some, None}
use Rattle.clap.specs.Walk.{Rule, Text, first_of}
use Rattle.clap.specs.Simple.{App, new_app, new_rule, with_rule, matches_of}
use Rattle.clap.specs.Faults.{fault_of}
use Rattle.clap.specs.Kinds.{Kinds}
use Rattle.clap.specs.declared.builder.action.ArgAction.TheVariants.{Set}
use Rattle.wb_base.specs.DateTexts.{read_date}
use Rattle.wb_cli.specs.Places.{IsFile, IsStoreWord}
use Rattle.wb_cli.specs.declared.plans.Lock.{Lock}
use Rattle.wb_cli.specs.declared.plans.Lock.TheVariants.{Mutex, Ticket}
use Rattle.wb_cli.specs.declared.plans.Plan.{Plan}
use Rattle.wb_cli.specs.declared.plans.Plan.TheVariants.{Play, Make, Tally, Serve, Notices, Register, Forecast}

-- an option, which takes one value
abbrev pub option_rule : Text → Rule
option_rule name = record (new_rule name) { long = Some name; action = Some Set }

-- a plain word, which is a value
abbrev pub word_rule : Text → Rule
word_rule name = record (new_rule name) { action = Some Set }

-- a command with nothing in it yet
abbrev pub bare_app : Text → App
bare_app name = let a = new_app name in record a { top = record a.top { no_binary_name = true; disable_help_flag = true; disable_version_flag = true } }

-- `play`, with the option `--store`
abbrev pub play_app : App
play_app = with_rule (bare_app (codes "play")) (option_rule (codes "store"))

-- `make` or `tally`, with one plain word
abbrev pub turns_app : App
turns_app = with_rule (bare_app (codes "turns")) (word_rule (codes "turns"))

-- `serve`, with the options `--setup`, `--listen`, `--workers`, `--lock` and `--store`
abbrev pub serve_app : App
serve_app = with_rule (with_rule (with_rule (with_rule (with_rule (bare_app (codes "serve")) (option_rule (codes "setup"))) (option_rule (codes "listen"))) (option_rule (codes "workers"))) (option_rule (codes "lock"))) (option_rule (codes "store"))

-- `notices`, with one plain word and the options `--store` and `--outbox`
abbrev pub notices_app : App
notices_app = with_rule (with_rule (with_rule (bare_app (codes "notices")) (word_rule (codes "moment"))) (option_rule (codes "store"))) (option_rule (codes "outbox"))

-- `register`, with three plain words and the option `--store`
abbrev pub register_app : App
register_app = with_rule (with_rule (with_rule (with_rule (bare_app (codes "register")) (word_rule (codes "tenant"))) (word_rule (codes "user"))) (word_rule (codes "moment"))) (option_rule (codes "store"))

-- `forecast`, with two plain words and the option `--store`
abbrev pub forecast_app : App
forecast_app = with_rule (with_rule (with_rule (bare_app (codes "forecast")) (word_rule (codes "tenant"))) (word_rule (codes "date"))) (option_rule (codes "store"))

-- there is no fault among these
abbrev pub has_none : Kinds → Bool
has_none [] = true
has_none (k ∷ ks) = false

-- the command takes the words: they have none of its faults
unfoldable pub takes_words : App → List Text → Bool
takes_words app words = has_none (fault_of app words)

-- the value that the words have under this name
unfoldable pub value_of : App → Text → List Text → Option Text
value_of app name words = first_of name (matches_of app words)

-- where rows are kept: in memory, in the file of a path, or in a store of etcd
abbrev pub IsStore : Option Text → Type 0
IsStore None = Unit {0}
IsStore (Some word) = IsStoreWord word

-- where rows are kept that are read: in memory, or in the file of a path
abbrev pub IsFileStore : Option Text → Type 0
IsFileStore None = Unit {0}
IsFileStore (Some path) = IsFile path

-- the path of a file
abbrev pub SaysFile : Option Text → Text → Type 0
SaysFile None path = ⊥
SaysFile (Some word) path = (word ≡ path) × IsFile path

-- a path or an address, which is not empty
abbrev pub SaysPath : Option Text → Text → Type 0
SaysPath None path = ⊥
SaysPath (Some word) path = (word ≡ path) × (path ≢ [])

-- a number from 1 to a greatest one, in digits without a leading zero
abbrev pub SaysNumber : ℕ → Option Text → ℕ → Type 0
SaysNumber greatest None number = ⊥
SaysNumber greatest (Some word) number = (word ≡ decimal number) × (1 ≤ number) × (number ≤ greatest)

-- a moment, in digits without a leading zero
abbrev pub SaysMoment : Option Text → ℕ → Type 0
SaysMoment None moment = ⊥
SaysMoment (Some word) moment = (word ≡ decimal moment) × (moment ≤ 99_999_999_999)

-- a day by its date, of the years 1970 to 5199
abbrev pub SaysDate : Option Text → ℤ → Type 0
SaysDate None day = ⊥
SaysDate (Some word) day = read_date word ≡ Some day

-- a lock by its name
abbrev pub lock_name : Lock → Text
lock_name Mutex = codes "mutex"
lock_name Ticket = codes "ticket"

-- a lock: the one that is named, or a mutex
abbrev pub SaysLock : Option Text → Lock → Type 0
SaysLock None lock = lock ≡ Mutex
SaysLock (Some word) lock = word ≡ lock_name lock

-- the words after `play`
pub record AsksPlay (words : List Text) (store : Option Text) : Type 0 where
  pub taken : takes_words play_app words ≡ true
  pub named : value_of play_app (codes "store") words ≡ store
  pub good : IsStore store

-- the words after `make` or `tally`
pub record AsksTurns (words : List Text) (turns : ℕ) : Type 0 where
  pub taken : takes_words turns_app words ≡ true
  pub said : SaysNumber 20_000 (value_of turns_app (codes "turns") words) turns

-- the words after `serve`
pub record AsksServe (words : List Text) (setup listen : Text) (workers : ℕ) (lock : Lock) (store : Option Text) : Type 0 where
  pub taken : takes_words serve_app words ≡ true
  pub set_up : SaysPath (value_of serve_app (codes "setup") words) setup
  pub heard : SaysPath (value_of serve_app (codes "listen") words) listen
  pub said : SaysNumber 64 (value_of serve_app (codes "workers") words) workers
  pub locked : SaysLock (value_of serve_app (codes "lock") words) lock
  pub named : value_of serve_app (codes "store") words ≡ store
  pub good : IsStore store

-- the words after `notices`
pub record AsksNotices (words : List Text) (moment : ℕ) (store outbox : Text) : Type 0 where
  pub taken : takes_words notices_app words ≡ true
  pub at : SaysMoment (value_of notices_app (codes "moment") words) moment
  pub named : SaysFile (value_of notices_app (codes "store") words) store
  pub put : SaysFile (value_of notices_app (codes "outbox") words) outbox

-- the words after `register`
pub record AsksRegister (words : List Text) (tenant user moment : ℕ) (store : Option Text) : Type 0 where
  pub taken : takes_words register_app words ≡ true
  pub of : SaysNumber 64 (value_of register_app (codes "tenant") words) tenant
  pub by : SaysNumber 256 (value_of register_app (codes "user") words) user
  pub at : SaysMoment (value_of register_app (codes "moment") words) moment
  pub named : value_of register_app (codes "store") words ≡ store
  pub good : IsFileStore store

-- the words after `forecast`
pub record AsksForecast (words : List Text) (tenant : ℕ) (day : ℤ) (store : Option Text) : Type 0 where
  pub taken : takes_words forecast_app words ≡ true
  pub of : SaysNumber 64 (value_of forecast_app (codes "tenant") words) tenant
  pub by : SaysDate (value_of forecast_app (codes "date") words) day
  pub named : value_of forecast_app (codes "store") words ≡ store
  pub good : IsFileStore store

-- the words after `serve` ask for this plan
abbrev pub AsksToServe : List Text → Plan → Type 0
AsksToServe words plan = (setup : Text) × (listen : Text) × (workers : ℕ) × (lock : Lock) × (store : Option Text) × (plan ≡ Serve setup listen workers lock store) × AsksServe words setup listen workers lock store

-- the words ask this
abbrev pub Asks : List Text → Plan → Type 0
Asks [] plan = ⊥
Asks (command ∷ rest) (Play store) = (command ≡ codes "play") × AsksPlay rest store
Asks (command ∷ rest) (Make turns) = (command ≡ codes "make") × AsksTurns rest turns
Asks (command ∷ rest) (Tally turns) = (command ≡ codes "tally") × AsksTurns rest turns
Asks (command ∷ rest) (Serve setup listen workers lock store) = (command ≡ codes "serve") × AsksServe rest setup listen workers lock store
Asks (command ∷ rest) (Notices moment store outbox) = (command ≡ codes "notices") × AsksNotices rest moment store outbox
Asks (command ∷ rest) (Register tenant user moment store) = (command ≡ codes "register") × AsksRegister rest tenant user moment store
Asks (command ∷ rest) (Forecast tenant day store) = (command ≡ codes "forecast") × AsksForecast rest tenant day store

-- the words are a form of a call
abbrev pub IsForm : List Text → Type 0
IsForm words = (plan : Plan) × Asks words plan

-- what is asked is a run: no host that serves, and no notices
abbrev pub IsRun : Plan → Type 0
IsRun (Play store) = Unit {0}
IsRun (Make turns) = Unit {0}
IsRun (Tally turns) = Unit {0}
IsRun (Serve setup listen workers lock store) = ⊥
IsRun (Notices moment store outbox) = ⊥
IsRun (Register tenant user moment store) = Unit {0}
IsRun (Forecast tenant day store) = Unit {0}

-- the words are a form of a run
abbrev pub IsRunForm : List Text → Type 0
IsRunForm words = (plan : Plan) × Asks words plan × IsRun plan
