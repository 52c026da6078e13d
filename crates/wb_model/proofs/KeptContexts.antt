-- Each context keeps its reports for a day at least, in each past.
use Rattle.std.proofs.Common.{◌≡◌, ℕ, ◌≤◌, Bool, true, false, cond, List, [], ◌∷◌, Option, Some, None, refl, arith, option_map}
use Rattle.std.specs.Prelude.{nat_le}
use Rattle.std.proofs.lemmas.Bool.Decides.{nat_tests}
use Rattle.wb_model.specs.declared.event.What.{What}
use Rattle.wb_model.specs.declared.event.What.TheVariants.{Did, Gap, Idle, Lost}
use Rattle.wb_model.specs.Tables.{Registry, Who}
use Rattle.wb_model.specs.Requests.{Outcome, outline, outcome}
use Rattle.wb_model.specs.Changes.{TurnContext, Change, Nothing, Configures}
use Rattle.wb_model.specs.Effects.{Effect, Submits, Sets}
use Rattle.wb_model.specs.Commands.{effect_of}
use Rattle.wb_model.specs.Rules.{change_alone}
use Rattle.std.specs.Option.{option_map_or}
use Rattle.wb_model.specs.Host.{registry_after}
use Rattle.wb_model.specs.Past.{Past, Opening, Turn, at_of, who_of, report_of, alone_by, alone_in, registry, alone_at}
use Rattle.wb_model.specs.Opened.{Opened}
use Rattle.std.specs.Prelude.{Ok, Err}
use Rattle.std.specs.Ordering.{nat_cmp, match_ordering}
use Rattle.std.specs.declared.cmp.Ordering.{Ordering}
use Rattle.std.specs.declared.cmp.Ordering.TheVariants.{Less, Equal, Greater}
use Rattle.wb_list.specs.Keyed.{insert_item}
use Rattle.wb_model.specs.declared.registry.ContextItem.{ContextItem}
use Rattle.wb_model.specs.Settings.{OfContext, context_item, Proposal, ToTenant, ToUser, ToContext, ToForm, setting_of}
use Rattle.wb_model.proofs.Fitting.{AreKeeping}
use Rattle.wb_model.specs.Legal.{AreSound}

pub insert_keeps : (cs : List ContextItem) (item : ContextItem) → AreKeeping cs → 1 ≤ item.retention → AreKeeping (insert_item nat_cmp (λ (x : ContextItem). x.id) cs item)
insert_keeps [] item k le = (le, tt)
insert_keeps (c ∷ cs) item k le = by (nat_cmp c.id item.id) (insert_keeps cs item k.1 le)
  where
    by : (o : Ordering) → AreKeeping (insert_item nat_cmp (λ (x : ContextItem). x.id) cs item) → AreKeeping (match_ordering o (c ∷ insert_item nat_cmp (λ (x : ContextItem). x.id) cs item) (item ∷ cs) (item ∷ c ∷ cs))
    by Less ih = (k.0, ih)
    by Equal ih = (le, k.1)
    by Greater ih = (le, k)

-- a change leaves each context keeping its reports for a day at least
abbrev pub Keeps : Change → Type 0
Keeps (Configures (OfContext item)) = 1 ≤ item.retention
Keeps _ = Unit {0}

pub change_keeps : (ch : Change) (g : Registry) → Keeps ch → AreKeeping g.contexts → AreKeeping (registry_after ch g).contexts
change_keeps (Configures (OfContext item)) g h k = insert_keeps g.contexts item k h
change_keeps _ g h k = k

-- what a request sets keeps them
pub setting_keeps : (t : ℕ) (g : Registry) (x : Proposal) → Keeps (option_map_or Configures (setting_of t g x) Nothing)
setting_keeps t g (ToContext c next) = by (nat_le 1 next.retention) refl
  where
    by : (b : Bool) → nat_le 1 next.retention ≡ b → Keeps (option_map_or Configures (cond b (Some (OfContext (context_item t c next))) None) Nothing)
    by true e = grind (arith, nat_tests, e)
    by false e = tt
setting_keeps t g (ToForm f (Ok form)) = tt
setting_keeps t g (ToForm f (Err fault)) = tt
setting_keeps t g (ToTenant next) = tt
setting_keeps t g (ToUser u next) = tt

pub change_alone_keeps : (at : TurnContext) (g : Registry) (who : Option Who) (o : Outcome) (e : Effect) → Keeps (change_alone at g who o e)
change_alone_keeps at g who o (Sets t x) = setting_keeps t g x
change_alone_keeps at g who o (Submits c form) = tt
change_alone_keeps at g who o _ = tt

pub alone_keeps : (w : What) (at : TurnContext) (g : Registry) → Keeps (alone_in w at g)
alone_keeps (Did a by) at g = place (report_of a.command by)
  where
    place : (n : Option ℕ) → Keeps (alone_by at g a by n)
    place None = change_alone_keeps at g (option_map who_of by) (outcome g [] a.command) (effect_of at g (option_map who_of by) a.session [] (outline a.command))
    place (Some n) = tt
alone_keeps (Gap t) at g = tt
alone_keeps Idle at g = tt
alone_keeps Lost at g = tt

-- contexts in their ranges do
pub sound_keeps : (cs : List ContextItem) → AreSound cs → AreKeeping cs
sound_keeps [] sound = tt
sound_keeps (c ∷ cs) sound = (sound.0.0, sound_keeps cs sound.1)

pub kept_contexts : (past : Past Opened) → AreKeeping (registry past).contexts
kept_contexts (Opening o) = sound_keeps o.tables.plain.registry.contexts o.sound.sound.contexts
kept_contexts (Turn e past) = change_keeps (alone_at past e) (registry past) (alone_keeps e.what (at_of past e) (registry past)) (kept_contexts past)
