-- The table of commands: the tenant that each names, what kind of thing it asks, who may call it, whether what it has is in its ranges, and what it does.
use Rattle.std.specs.Prelude.{ℕ, ◌==◌, ◌&&◌, not, Bool, true, false, List, length, Option}
use Rattle.wb_base.specs.declared.callers.Presented.{Presented}
use Rattle.wb_base.specs.declared.callers.Role.{Role}
use Rattle.wb_base.specs.declared.callers.Role.TheVariants.{Recipient, Custodian, Admin}
use Rattle.wb_model.specs.declared.act.Act.TheVariants as acts
use Rattle.wb_model.specs.declared.command.Asked.{Asked}
use Rattle.wb_model.specs.declared.command.Command.{Command}
use Rattle.wb_model.specs.declared.command.Command.TheVariants as commands
use Rattle.wb_model.specs.declared.entry.Entry.{Entry}
use Rattle.wb_model.specs.declared.registry.Rights.{Rights}
use Rattle.wb_model.specs.AnswerRanges.{are_answers}
use Rattle.wb_model.specs.Fits.{is_between, has_bytes, is_path_number, is_settable, fits_withhold, fits_settings, fits_user, fits_context, fits_form, fits_session}
use Rattle.wb_model.specs.Settings.{ToTenant, ToUser, ToContext, ToForm}
use Rattle.wb_model.specs.Tables.{Registry, Who}
use Rattle.wb_model.specs.Changes.{TurnContext}
use Rattle.wb_model.specs.Effects.{OfHealth, OfTenant, OfContext, OfReports, OfDues, OfRequests, OfConfiguration, ToReader, ToReporter, TheIdentity}
use Rattle.wb_model.specs.Effects.{Effect, Looks, Submits}
use Rattle.wb_model.specs.Effects.{Does, looks, reads, writes, erases, sets, logs_in, logs_out, with_open, gives_identity, acknowledges, shares, transfers, postpones, extends, asks, decides}

-- ---- who may call a command, and what it names

pub data Right : Type 0 where
  Free : Right
  To_delete : Right
  To_postpone : Right
  To_share : Right
  To_transfer : Right

abbrev pub has_right : Right → Rights → Bool
has_right Free may = true
has_right To_delete may = may.delete
has_right To_postpone may = may.postpone
has_right To_share may = may.share
has_right To_transfer may = may.transfer

pub data Need : Type 0 where
  -- no session
  Anyone : Need
  -- any session
  Any_session : Need
  -- a reporter's session, on the own report
  Own : Need
  -- a user of a role
  Staff : Role → Need
  -- a user of a role and with a right, on the report of a number
  Names : Role → Right → ℕ → Need

-- ---- what kind of thing it asks

pub data Kind : Type 0 where
  -- the host's health
  Health : Kind
  -- something to see
  Reading : Kind
  Login : Kind
  Logout : Kind
  -- a report that begins
  Submission : Kind
  -- any other change
  Writing : Kind

-- ---- the table

pub record Columns : Type 0 where
  -- 0 where the path names none
  pub tenant : ℕ
  pub kind : Kind
  pub need : Need
  -- its numbers, texts, lists and answers are in their ranges
  pub fits : Bool
  pub effect : Does

abbrev pub line : ℕ → Kind → Need → Bool → Does → Columns
line t kind need fits does = record { tenant = t; kind = kind; need = need; fits = fits; effect = does }

abbrev pub columns : Command → Columns
columns commands.Health = line 0 Health Anyone true (looks OfHealth)
columns (commands.Public t) = line t Reading Anyone (is_path_number t) (looks OfTenant)
columns (commands.ContextOf t c) = line t Reading Anyone (is_path_number t && is_path_number c) (with_open c (λ x form. Looks (OfContext x form)))
columns (commands.Login t user password) = line t Login Anyone (is_path_number t && has_bytes 1 64 user && has_bytes 1 128 password) logs_in
columns (commands.ReceiptLogin t receipt) = line t Login Anyone (is_path_number t && has_bytes 1 64 receipt) logs_in
columns (commands.Logout t) = line t Logout Any_session (is_path_number t) logs_out
columns (commands.Submit t context answers) = line t Submission Anyone (is_path_number t && is_between 1 64 context && are_answers answers) (with_open context Submits)
columns (commands.OwnReport t) = line t Reading Own (is_path_number t) (reads ToReporter)
columns (commands.OwnComment t text) = line t Writing Own (is_path_number t && has_bytes 1 4_096 text) (writes (acts.Comment false text))
columns (commands.GiveIdentity t answers) = line t Writing Own (is_path_number t && are_answers answers && not (length answers == 0)) gives_identity
columns (commands.List t) = line t Reading (Staff Recipient) (is_path_number t) (looks OfReports)
columns (commands.DueList t) = line t Reading (Staff Recipient) (is_path_number t) (looks OfDues)
columns (commands.ReadReport t n) = line t Reading (Names Recipient Free n) (is_path_number t && is_path_number n) (reads ToReader)
columns (commands.Comment t n text internal) = line t Writing (Names Recipient Free n) (is_path_number t && is_path_number n && has_bytes 1 4_096 text) (writes (acts.Comment internal text))
columns (commands.Label t n label) = line t Writing (Names Recipient Free n) (is_path_number t && is_path_number n && has_bytes 0 64 label) (writes (acts.Label label))
columns (commands.SetStatus t n status) = line t Writing (Names Recipient Free n) (is_path_number t && is_path_number n && is_settable status) (writes (acts.SetStatus status))
columns (commands.Acknowledge t n) = line t Writing (Names Recipient Free n) (is_path_number t && is_path_number n) acknowledges
columns (commands.Feedback t n text) = line t Writing (Names Recipient Free n) (is_path_number t && is_path_number n && has_bytes 1 4_096 text) (writes (acts.Feedback text))
columns (commands.Share t n user) = line t Writing (Names Recipient To_share n) (is_path_number t && is_path_number n) (shares user)
columns (commands.Unshare t n u) = line t Writing (Names Recipient To_share n) (is_path_number t && is_path_number n && is_path_number u) (writes (acts.Unshare u))
columns (commands.Transfer t n context) = line t Writing (Names Recipient To_transfer n) (is_path_number t && is_path_number n && is_between 1 64 context) (transfers context)
columns (commands.Postpone t n) = line t Writing (Names Recipient To_postpone n) (is_path_number t && is_path_number n) postpones
columns (commands.Extend t n reason) = line t Writing (Names Recipient Free n) (is_path_number t && is_path_number n && has_bytes 1 1_024 reason) (extends reason)
columns (commands.Delete t n) = line t Writing (Names Recipient To_delete n) (is_path_number t && is_path_number n) erases
columns (commands.Ask t n reason) = line t Writing (Names Recipient Free n) (is_path_number t && is_path_number n && has_bytes 1 1_024 reason) (asks reason)
columns (commands.ReadIdentity t n) = line t Reading (Names Recipient Free n) (is_path_number t && is_path_number n) (reads TheIdentity)
columns (commands.Requests t) = line t Reading (Staff Custodian) (is_path_number t) (looks OfRequests)
columns (commands.Decide t n k decision reason withhold) = line t Writing (Names Custodian Free n) (is_path_number t && is_path_number n && is_path_number k && has_bytes 1 1_024 reason && fits_withhold decision withhold)
    (decides k decision reason withhold)
columns (commands.Admin t) = line t Reading (Staff Admin) (is_path_number t) (looks OfConfiguration)
columns (commands.SetSettings t next) = line t Writing (Staff Admin) (is_path_number t && fits_settings next) (sets t (ToTenant next))
columns (commands.SetUser t u next) = line t Writing (Staff Admin) (is_path_number t && is_path_number u && fits_user next) (sets t (ToUser u next))
columns (commands.SetContext t c next) = line t Writing (Staff Admin) (is_path_number t && is_path_number c && fits_context next) (sets t (ToContext c next))
columns (commands.SetForm t f form) = line t Writing (Staff Admin) (is_path_number t && is_path_number f && fits_form form) (sets t (ToForm f form))

abbrev pub tenant_of : Command → ℕ
tenant_of command = (columns command).tenant

abbrev pub need : Command → Need
need command = (columns command).need

abbrev pub kind_of : Command → Kind
kind_of command = (columns command).kind

abbrev pub fits_command : Command → Bool
fits_command command = (columns command).fits

-- a request as it may be read
abbrev pub fits : Asked → Bool
fits asked = fits_command asked.command && fits_session asked.session

abbrev pub effect_of : TurnContext → Registry → Option Who → Presented → List Entry → Command → Effect
effect_of at g who s trail command = (columns command).effect at g who s trail

-- ---- kinds of commands

abbrev pub is_reading : Kind → Bool
is_reading Health = true
is_reading Reading = true
is_reading _ = false

-- a command that only reads, as each with the method GET does
abbrev pub is_read : Command → Bool
is_read command = is_reading (kind_of command)

abbrev pub begins_report : Kind → Bool
begins_report Submission = true
begins_report _ = false

abbrev pub is_submission : Command → Bool
is_submission command = begins_report (kind_of command)

abbrev pub begins_session : Kind → Bool
begins_session Login = true
begins_session _ = false

abbrev pub is_login : Command → Bool
is_login command = begins_session (kind_of command)

abbrev pub is_session_kind : Kind → Bool
is_session_kind Login = true
is_session_kind Logout = true
is_session_kind _ = false

-- a login or a logout
abbrev pub is_of_sessions : Command → Bool
is_of_sessions command = is_session_kind (kind_of command)

abbrev pub asks_health : Kind → Bool
asks_health Health = true
asks_health _ = false

-- the question for the host's health
abbrev pub is_health : Command → Bool
is_health command = asks_health (kind_of command)
