-- Which commands are on which targets: a command's line in the table says who may call it.
use Rattle.std.specs.Prelude.{Bool, true, false, not, ◌&&◌, ◌||◌, Some, None, is_some}
use Rattle.wb_model.specs.declared.command.Command.{Command}
use Rattle.wb_model.specs.declared.command.Command.TheVariants as commands
use Rattle.wb_model.specs.Commands.{Need, Anyone, Any_session, Own, Staff, need, is_login}
use Rattle.wb_model.specs.Past.{named}
use Rattle.wb_model.specs.Tables.{TheUser, TheReporter}
use Rattle.wb_model.specs.Targets.{Target, Nobody, Alone, On}

-- a login by a name and a password
abbrev pub is_entry : Command → Bool
is_entry (commands.Login t user password) = true
is_entry _ = false

-- a login by a receipt
abbrev pub is_return : Command → Bool
is_return (commands.ReceiptLogin t receipt) = true
is_return _ = false

abbrev pub is_free : Need → Bool
is_free Anyone = true
is_free _ = false

-- a user's request on no report
abbrev pub is_staffed : Need → Bool
is_staffed Any_session = true
is_staffed (Staff role) = true
is_staffed _ = false

-- a reporter's request
abbrev pub is_owned : Need → Bool
is_owned Any_session = true
is_owned Own = true
is_owned _ = false

-- the command may be on this target
abbrev pub suits : Target → Command → Bool
suits (Nobody told) command = true
suits (Alone None) command = is_free (need command) && not (is_login command)
suits (Alone (Some (TheUser u))) command = is_entry command || is_staffed (need command)
suits (Alone (Some (TheReporter n))) command = false
suits (On (TheUser u) case) command = is_some (named (need command))
suits (On (TheReporter n) case) command = is_return command || is_owned (need command)
