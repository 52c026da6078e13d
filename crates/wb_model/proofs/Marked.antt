-- A report has identity answers exactly where its trail says that some were given.
use Rattle.std.proofs.Common.{◌≡◌, ℕ, ◌+◌, Bool, true, false, cond, eqb, List, [], ◌∷◌, ◌++◌, Option, Some, None, refl, sym, ◌∙◌, subst, arith, option_map}
use Rattle.std.specs.Prelude.{is_some, max, ◌&&◌, ◌||◌}
use Rattle.wb_base.specs.declared.callers.Presented.{Presented}
use Rattle.wb_base.specs.declared.callers.Principal.{Principal}
use Rattle.wb_base.specs.AnswerList.{Answered}
use Rattle.wb_model.specs.declared.command.Asked.{Asked}
use Rattle.wb_model.specs.declared.command.Command.{Command}
use Rattle.wb_model.specs.declared.command.Command.TheVariants as commands
use Rattle.wb_model.specs.declared.act.Act.TheVariants as acts
use Rattle.wb_model.specs.declared.act.Move.TheVariants as moves
use Rattle.wb_base.specs.Calendars.{Calendar}
use Rattle.wb_model.specs.declared.entry.Entry.{Entry}
use Rattle.wb_model.specs.declared.event.What.{What}
use Rattle.wb_model.specs.declared.event.What.TheVariants.{Did, Gap, Idle, Lost}
use Rattle.wb_model.specs.declared.registry.ContextItem.{ContextItem}
use Rattle.wb_model.specs.declared.registry.FormItem.{FormItem}
use Rattle.wb_model.specs.Trails.{is_marked, has_identity}
use Rattle.wb_model.specs.Tables.{Registry, Who, context}
use Rattle.wb_model.specs.Requests.{Outcome, mark, submission_outcome, submission_secret, outcome, outline, secret_of}
use Rattle.wb_model.specs.AskingForms.{asking_form}
use Rattle.wb_model.specs.Changes.{TurnContext, Change, Begins, Notes}
use Rattle.wb_model.specs.Effects.{Effect, Writes, Submits, Sets}
use Rattle.wb_model.specs.Commands.{effect_of, is_submission}
use Rattle.wb_model.specs.OnReports.{change_on}
use Rattle.wb_model.specs.Rules.{change_alone}
use Rattle.wb_model.specs.Submissions.{submission_entry}
use Rattle.wb_model.specs.Doings.{Doing, Acts, Moves, doing_entry}
use Rattle.wb_model.specs.Past.{Past, Opening, Turn, now, at_of, who_of, report_of, about, change_by, change_in, secret_in, registry, last, grown, trail_of, trail, change_at, lives_at, newer, given, sealed}
use Rattle.wb_model.specs.Opened.{Opened}
use Rattle.wb_model.proofs.Effects.{IsSubmitted, IsToldBy, is_given, submitted, told, outlined, in_open_is, set_is}

-- identity answers come with an entry that says so
abbrev pub Says : Change → Option Answered → Type 0
Says (Begins e) secret = is_some secret ≡ is_marked e.deed
Says (Notes n e) secret = is_some secret ≡ is_marked e.deed
Says _ secret = Unit {0}

-- ---- what a request writes

-- what is written on a report, by a command that gives identity answers or not
abbrev Writing : Calendar → TurnContext → Who → List Entry → Option Answered → Effect → Type 0
Writing calendar at who trail secret (Writes d) = is_some secret ≡ is_marked (doing_entry calendar at.time who trail d).deed
Writing calendar at who trail secret _ = Unit {0}

on_says : (at : TurnContext) (g : Registry) (who : Who) (n : ℕ) (trail : List Entry) (e : Effect) (secret : Option Answered) → Writing g.settings.calendar at who trail secret e → Says (change_on at g who n trail e) secret
on_says at g who n trail (Writes d) secret w = w
on_says at g who n trail _ secret w = tt

effect_says : (at : TurnContext) (g : Registry) (who : Who) (s : Presented) (trail : List Entry) (d : Command) → Writing g.settings.calendar at who trail (secret_of g d) (effect_of at g (Some who) s trail (outline d))
effect_says at g who s trail d = subst (Writing g.settings.calendar at who trail (secret_of g d)) (outlined at g (Some who) s trail d) (by (effect_of at g (Some who) s trail d) (told at g (Some who) s trail d))
  where
    marked_is : (doing : Doing) → is_given doing ≡ is_marked (doing_entry g.settings.calendar at.time who trail doing).deed
    marked_is (Acts acts.Identity) = refl
    marked_is (Acts _) = refl
    marked_is (Moves (moves.Ask reason stamp)) = refl
    marked_is (Moves _) = refl

    by : (e : Effect) → IsToldBy g s d e → Writing g.settings.calendar at who trail (secret_of g d) e
    by (Writes doing) k = k.1 ∙ marked_is doing
    by _ k = tt

-- ---- a submission

secret_says : (b : Bool) (x : Answered) → is_some (cond b (Some x) None) ≡ b
secret_says true x = refl
secret_says false x = refl

submits_says : (at : TurnContext) (g : Registry) (c : ContextItem) (form : FormItem) (asking : Option FormItem) (answers : Answered) → Says (Begins (submission_entry at g (submission_outcome asking answers) c form)) (submission_secret asking answers)
unfolding submission_entry
submits_says at g c form None answers = refl
submits_says at g c form (Some x) answers = secret_says (mark x.form answers) _

others_say : (at : TurnContext) (g : Registry) (who : Option Who) (o : Outcome) (secret : Option Answered) (d : Command) (e : Effect) → IsSubmitted g d e → (is_submission d ≡ true → ⊥) → Says (change_alone at g who o e) secret
others_say at g who o secret d (Submits c form) k other = absurd (other k.0)
others_say at g who o secret d (Sets t proposal) k other = set_is (λ x. Says x secret) _ tt (λ x is. tt)
others_say at g who o secret d _ k other = tt

alone_says : (at : TurnContext) (g : Registry) (who : Option Who) (s : Presented) (o : Outcome) (d : Command) → o ≡ outcome g [] d → Says (change_alone at g who o (effect_of at g who s [] (outline d))) (secret_of g d)
alone_says at g who s o (commands.Submit t c answers) e =
    in_open_is (λ x. Says (change_alone at g who o x) (submission_secret (asking_form (context c g.contexts) g.forms) answers)) Submits c g tt
    (λ x y is form. subst (λ z. Says (Begins (submission_entry at g z x y)) (submission_secret (asking_form (context c g.contexts) g.forms) answers)) (sym e) (submits_says at g x y (asking_form (context c g.contexts) g.forms) answers))
alone_says at g who s o d e = others_say at g who o (secret_of g d) (outline d) (effect_of at g who s [] (outline d)) (submitted at g who s [] (outline d)) (λ no_one. grind (arith, no_one))

-- ---- an event

change_says : (at : TurnContext) (g : Registry) (trail : List Entry) (a : Asked) (by : Option Principal) (place : Option ℕ) → Says (change_by at g trail a by place) (secret_of g a.command)
change_says at g trail a by None = alone_says at g (option_map who_of by) a.session (outcome g [] a.command) a.command refl
change_says at g trail a None (Some n) = tt
change_says at g trail a (Some by) (Some n) = on_says at g (who_of by) n trail (effect_of at g (Some (who_of by)) a.session trail (outline a.command)) (secret_of g a.command) (effect_says at g (who_of by) a.session trail a.command)

what_says : (w : What) (at : TurnContext) (g : Registry) (trail : List Entry) → Says (change_in w at g trail) (secret_in w g)
what_says (Did a by) at g trail = change_says at g trail a by (report_of a.command by)
what_says (Gap t) at g trail = tt
what_says Idle at g trail = tt
what_says Lost at g trail = tt

-- ---- the fact

marked_more : (trail : List Entry) (e : Entry) → has_identity (trail ++ e ∷ []) ≡ (has_identity trail || is_marked e.deed)
marked_more [] e = grind arith
marked_more (x ∷ trail) e = grind (arith, marked_more trail e)

opened_fact : (b : Bool) (e : Entry) (secret before : Option Answered) (trail : List Entry) → is_some secret ≡ is_marked e.deed → is_some before ≡ has_identity trail → is_some (cond b secret before) ≡ has_identity (cond b (e ∷ []) trail)
opened_fact true e secret before trail says is = says ∙ grind arith
opened_fact false e secret before trail says is = is

noted_fact : (b : Bool) (e : Entry) (secret before : Option Answered) (trail : List Entry) → is_some secret ≡ is_marked e.deed → is_some before ≡ has_identity trail → is_some (cond b (newer secret before) before) ≡ has_identity (cond b (trail ++ e ∷ []) trail)
noted_fact false e secret before trail says is = is
noted_fact true e None before trail says is = sym (marked_more trail e ∙ (let m : false ≡ is_marked e.deed = says in grind (arith, m, is)))
noted_fact true e (Some x) before trail says is = sym (marked_more trail e ∙ (let m : true ≡ is_marked e.deed = says in grind (arith, m)))

step_fact : (ch : Change) (k r : ℕ) (lives : Bool) (secret before : Option Answered) (trail : List Entry) → Says ch secret → is_some before ≡ has_identity trail → is_some (given ch k r lives secret before) ≡ has_identity (grown ch k r lives trail)
step_fact (Begins e) k r lives secret before trail says is = opened_fact (eqb (k + 1) r) e secret before trail says is
step_fact (Notes n e) k r lives secret before trail says is = noted_fact (eqb n r && lives) e secret before trail says is
step_fact _ k r lives secret before trail says is = is

pub marked : (past : Past Opened) (r : ℕ) → is_some (sealed past r) ≡ has_identity (trail past r)
marked (Opening o) r = o.sound.marks r
marked (Turn e past) r = step_fact (change_at past e) (last past) r (lives_at (registry past) (max (now past) e.moment) r (trail past r)) (secret_in e.what (registry past)) (sealed past r) (trail past r) (what_says e.what (at_of past e) (registry past) (trail_of (about e.what) (trail past))) (marked past r)
