-- The command that a route asks, with its body and without.
use Rattle.std.specs.Prelude.{ℕ, List, codes, Option, Some, None, option_map}
use Rattle.serde_json.specs.Data.{Data}
use Rattle.wb_model.specs.declared.command.Command.{Command}
use Rattle.wb_model.specs.declared.command.Command.TheVariants as commands
use Rattle.wb_model.specs.declared.route.Route.{Route}
use Rattle.wb_model.specs.declared.route.Route.TheVariants as routes
use Rattle.wb_model.specs.Bodies.{login, submission, own_comment, identity, comment, label, new_status, feedback, share, transfer, extend, ask, decide, settings_set, user_set, context_set, new_form}

-- the numbers of a path, by the names that they stand for
abbrev pub Numbers : Type 0
Numbers = List ℕ → ℕ

-- the command of a route without a body
abbrev pub bare : Route → Numbers → Option Command
bare routes.Health at = Some commands.Health
bare routes.Public at = Some (commands.Public (at (codes "{t}")))
bare routes.ContextOf at = Some (commands.ContextOf (at (codes "{t}")) (at (codes "{c}")))
bare routes.Logout at = Some (commands.Logout (at (codes "{t}")))
bare routes.OwnReport at = Some (commands.OwnReport (at (codes "{t}")))
bare routes.List at = Some (commands.List (at (codes "{t}")))
bare routes.DueList at = Some (commands.DueList (at (codes "{t}")))
bare routes.ReadReport at = Some (commands.ReadReport (at (codes "{t}")) (at (codes "{n}")))
bare routes.Acknowledge at = Some (commands.Acknowledge (at (codes "{t}")) (at (codes "{n}")))
bare routes.Unshare at = Some (commands.Unshare (at (codes "{t}")) (at (codes "{n}")) (at (codes "{u}")))
bare routes.Postpone at = Some (commands.Postpone (at (codes "{t}")) (at (codes "{n}")))
bare routes.Delete at = Some (commands.Delete (at (codes "{t}")) (at (codes "{n}")))
bare routes.ReadIdentity at = Some (commands.ReadIdentity (at (codes "{t}")) (at (codes "{n}")))
bare routes.Requests at = Some (commands.Requests (at (codes "{t}")))
bare routes.Admin at = Some (commands.Admin (at (codes "{t}")))
bare _ at = None

-- the command of a route with a body
abbrev pub shaped : Route → Numbers → Data → Option Command
shaped routes.Login at d = login (at (codes "{t}")) d
shaped routes.Submit at d = submission (at (codes "{t}")) d
shaped routes.OwnComment at d = own_comment (at (codes "{t}")) d
shaped routes.GiveIdentity at d = identity (at (codes "{t}")) d
shaped routes.Comment at d = comment (at (codes "{t}")) (at (codes "{n}")) d
shaped routes.Label at d = label (at (codes "{t}")) (at (codes "{n}")) d
shaped routes.SetStatus at d = new_status (at (codes "{t}")) (at (codes "{n}")) d
shaped routes.Feedback at d = feedback (at (codes "{t}")) (at (codes "{n}")) d
shaped routes.Share at d = share (at (codes "{t}")) (at (codes "{n}")) d
shaped routes.Transfer at d = transfer (at (codes "{t}")) (at (codes "{n}")) d
shaped routes.Extend at d = extend (at (codes "{t}")) (at (codes "{n}")) d
shaped routes.Ask at d = ask (at (codes "{t}")) (at (codes "{n}")) d
shaped routes.Decide at d = decide (at (codes "{t}")) (at (codes "{n}")) (at (codes "{k}")) d
shaped routes.SetSettings at d = option_map (λ next. commands.SetSettings (at (codes "{t}")) next) (settings_set d)
shaped routes.SetUser at d = option_map (λ next. commands.SetUser (at (codes "{t}")) (at (codes "{u}")) next) (user_set d)
shaped routes.SetContext at d = option_map (λ next. commands.SetContext (at (codes "{t}")) (at (codes "{c}")) next) (context_set d)
shaped routes.SetForm at d = new_form (at (codes "{t}")) (at (codes "{f}")) d
shaped _ at d = None
