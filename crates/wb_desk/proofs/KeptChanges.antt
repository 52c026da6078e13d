-- Only logins and logouts change nothing that is kept.
use Rattle.std.proofs.Common.{◌≡◌, ℕ, true, List, [], Option, Some, None, arith}
use Rattle.wb_base.specs.declared.callers.Presented.{Presented}
use Rattle.wb_model.specs.declared.body.Told.{Told}
use Rattle.wb_model.specs.declared.command.Command.{Command}
use Rattle.wb_model.specs.declared.command.Command.TheVariants as commands
use Rattle.wb_model.specs.declared.entry.Entry.{Entry}
use Rattle.wb_model.specs.Commands.{is_of_sessions, effect_of}
use Rattle.wb_model.specs.Changes.{TurnContext, Change, Begins, Notes, Deletes, Configures, Answer, judged}
use Rattle.wb_model.specs.Host.{change_of}
use Rattle.wb_model.specs.OnReports.{change_on}
use Rattle.wb_model.specs.Requests.{Outcome, Request}
use Rattle.wb_model.specs.Rules.{change_alone, verdict_on}
use Rattle.wb_model.specs.Tables.{Registry, Plain, Who}
use Rattle.wb_model.specs.Targets.{Target, Nobody, Alone, On}
use Rattle.wb_model.proofs.Effects.{comes_is, goes_is}

-- a change of reports or of what a tenant is set up with
abbrev pub IsKept : Change → Type 0
IsKept (Begins entry) = Unit {0}
IsKept (Notes n entry) = Unit {0}
IsKept (Deletes n) = Unit {0}
IsKept (Configures setting) = Unit {0}
IsKept _ = ⊥

-- a login or a logout makes none
sessions_alone : (at : TurnContext) (g : Registry) (who : Option Who) (s : Presented) (o : Outcome) (trail : List Entry) (d : Command) → is_of_sessions d ≡ true → IsKept (change_alone at g who o (effect_of at g who s trail d)) → ⊥
sessions_alone at g who s o trail (commands.Login t name password) e = comes_is (λ x. IsKept (change_alone at g who o x) → ⊥) who g.users (λ k. k) (λ role k. k)
sessions_alone at g who s o trail (commands.ReceiptLogin t receipt) e = comes_is (λ x. IsKept (change_alone at g who o x) → ⊥) who g.users (λ k. k) (λ role k. k)
sessions_alone at g who s o trail (commands.Logout t) e = goes_is (λ x. IsKept (change_alone at g who o x) → ⊥) s (λ k. k) (λ turn k. k)
sessions_alone at g who s o trail d e = absurd (grind (arith, e))

sessions_on : (at : TurnContext) (g : Registry) (who : Who) (s : Presented) (n : ℕ) (trail : List Entry) (d : Command) → is_of_sessions d ≡ true → IsKept (change_on at g who n trail (effect_of at g (Some who) s trail d)) → ⊥
sessions_on at g who s n trail (commands.Login t name password) e = comes_is (λ x. IsKept (change_on at g who n trail x) → ⊥) (Some who) g.users (λ k. k) (λ role k. k)
sessions_on at g who s n trail (commands.ReceiptLogin t receipt) e = comes_is (λ x. IsKept (change_on at g who n trail x) → ⊥) (Some who) g.users (λ k. k) (λ role k. k)
sessions_on at g who s n trail (commands.Logout t) e = goes_is (λ x. IsKept (change_on at g who n trail x) → ⊥) s (λ k. k) (λ turn k. k)
sessions_on at g who s n trail d e = absurd (grind (arith, e))

kept_judged : (o : Option Told) (ch : Change) (a : Answer) → IsKept (change_of (judged o ch a)) → IsKept ch
kept_judged None ch a k = k
kept_judged (Some x) ch a k = absurd k

pub sessions_unkept : (p : Plain) (at : TurnContext) (q : Request) (t : Target) → is_of_sessions q.command ≡ true → IsKept (change_of (verdict_on p at q t)) → ⊥
sessions_unkept p at q (Nobody x) e k = k
sessions_unkept p at q (Alone who) e k = sessions_alone at p.registry who q.session q.outcome [] q.command e (kept_judged _ _ _ k)
sessions_unkept p at q (On who c) e k = sessions_on at p.registry who q.session c.number c.trail q.command e (kept_judged _ _ _ k)
