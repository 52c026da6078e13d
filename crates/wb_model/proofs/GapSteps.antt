-- What an event, and what stands in its place without a report, change.
use Rattle.std.proofs.Common.{◌≡◌, ◌≢◌, ℕ, ◌+◌, ◌<◌, Bool, true, false, cond, not, eqb, List, [], ◌∷◌, ◌++◌, Option, Some, None, option_map, refl, sym, ap, ◌∙◌, arith}
use Rattle.std.specs.Prelude.{filter, ◌&&◌}
use Rattle.std.proofs.lemmas.Bool.Decides.{nat_tests}
use Rattle.std.proofs.lemmas.List.Elements.{filter-append}
use Rattle.std.proofs.lemmas.List.{append-nil}
use Rattle.wb_base.specs.declared.callers.Principal.{Principal}
use Rattle.wb_base.specs.AnswerList.{Answered}
use Rattle.wb_model.specs.declared.command.Asked.{Asked}
use Rattle.wb_model.specs.declared.entry.Entry.{Entry}
use Rattle.wb_model.specs.declared.event.What.{What}
use Rattle.wb_model.specs.declared.event.What.TheVariants.{Did, Gap, Idle, Lost}
use Rattle.wb_model.specs.Tables.{Registry, Who, Case, lasts, Session, is_reporter_of, others, sessions_but}
use Rattle.wb_model.specs.Requests.{Outcome, outline, outcome}
use Rattle.wb_model.specs.Changes.{TurnContext, Change, Nothing, Draws, Begins, Notes, Deletes, LogsIn, LogsOut, Configures}
use Rattle.wb_model.specs.Effects.{Effect, Writes, Erases, Submits, Comes, Goes, Sets}
use Rattle.wb_model.specs.Commands.{effect_of}
use Rattle.wb_model.specs.OnReports.{change_on}
use Rattle.wb_model.specs.Rules.{change_alone}
use Rattle.wb_model.proofs.Effects.{set_is}
use Rattle.wb_model.specs.Host.{is_draw, registry_after, made, remaining}
use Rattle.wb_model.specs.Past.{Past, who_of, report_of, about, alone_by, change_by, alone_in, change_in, secret_in, last, numbers_after, numbers, grown, trail_of, given}
use Rattle.wb_model.specs.Absence.{is_beginning, is_on}
use Rattle.wb_model.proofs.Found.{same_number, other_number, filter_twice}
use Rattle.wb_model.proofs.Leaving.{filter_swap}
use Rattle.wb_model.proofs.SessionsBut.{MadeElsewhere, IsGone, kept_recent, gone_recent}
use Rattle.wb_model.proofs.PastLaw.{Below}

-- a change that is not of r
abbrev pub Elsewhere : ℕ → ℕ → Change → Type 0
Elsewhere r last (Begins entry) = last + 1 ≢ r
Elsewhere r last (Notes n entry) = n ≢ r
Elsewhere r last (Deletes n) = n ≢ r
Elsewhere r last (LogsIn s) = is_reporter_of r s.who ≡ false
Elsewhere r last _ = Unit {0}

-- a change of r alone
abbrev pub Here : ℕ → Change → Type 0
Here r Nothing = Unit {0}
Here r (Notes n entry) = n ≡ r
Here r (Deletes n) = n ≡ r
Here r (LogsIn s) = is_reporter_of r s.who ≡ true
Here r (LogsOut turn who) = is_reporter_of r who ≡ true
Here r _ = ⊥

pub on_elsewhere : (r n last : ℕ) (at : TurnContext) (g : Registry) (who : Who) (tr : List Entry) (e : Effect) → n ≢ r → Elsewhere r last (change_on at g who n tr e)
on_elsewhere r n last at g who tr (Writes d) ne = ne
on_elsewhere r n last at g who tr Erases ne = ne
on_elsewhere r n last at g who tr (Comes role) ne = other_number n r ne
on_elsewhere r n last at g who tr _ ne = tt

pub on_here : (r n : ℕ) (at : TurnContext) (g : Registry) (who : Who) (tr : List Entry) (e : Effect) → n ≡ r → Here r (change_on at g who n tr e)
on_here r n at g who tr (Writes d) e = e
on_here r n at g who tr Erases e = e
on_here r n at g who tr (Comes role) e = same_number n r e
on_here r n at g who tr (Goes turn) e = same_number n r e
on_here r n at g who tr _ e = tt

-- what begins nothing for r is elsewhere
pub alone_away : (r last : ℕ) (at : TurnContext) (g : Registry) (who : Option Who) (o : Outcome) (e : Effect) → (is_beginning (change_alone at g who o e) && eqb (last + 1) r) ≡ false → Elsewhere r last (change_alone at g who o e)
alone_away r last at g who o (Submits c form) e = grind (arith, nat_tests, e)
alone_away r last at g who o (Comes role) e = refl
alone_away r last at g who o (Sets t proposal) e = set_is (Elsewhere r last) _ tt (λ x is. tt)
alone_away r last at g who o _ e = tt

-- how the changes of an event, and of what stands in its place, are related
pub data GapStep (r last : ℕ) (ch new : Change) (secret given : Option Answered) : Type 0 where
  kept : new ≡ ch → given ≡ secret → Elsewhere r last ch → GapStep r last ch new secret given
  dropped : new ≡ Nothing → Here r ch → GapStep r last ch new secret given
  only_drawn : (e : Entry) → ch ≡ Begins e → last + 1 ≡ r → new ≡ Draws → GapStep r last ch new secret given

-- what stands in the place of an event: the same, if it is not of r, or nothing, or a draw
pub data WhatStep (r last : ℕ) (at : TurnContext) (g : Registry) (w v : What) : Type 0 where
  stays : v ≡ w → is_on r (about w) ≡ false → (is_beginning (alone_in w at g) && eqb (last + 1) r) ≡ false → WhatStep r last at g w v
  empties : about w ≡ Some r → v ≡ Idle → WhatStep r last at g w v
  draws : (u : ℕ) → (is_beginning (alone_in w at g) && eqb (last + 1) r) ≡ true → v ≡ Gap u → WhatStep r last at g w v

pub change_here : (r : ℕ) (at : TurnContext) (g : Registry) (tr : List Entry) (a : Asked) (by : Option Principal) (place : Option ℕ) → place ≡ Some r → Here r (change_by at g tr a by place)
change_here r at g tr a by None e = absurd (grind (arith, e))
change_here r at g tr a None (Some n) e = tt
change_here r at g tr a (Some by) (Some n) e = on_here r n at g (who_of by) tr (effect_of at g (Some (who_of by)) a.session tr (outline a.command)) (let same : n ≡ r = cc in same)

pub what_here : (r : ℕ) (at : TurnContext) (g : Registry) (tr : List Entry) (w : What) → about w ≡ Some r → Here r (change_in w at g tr)
what_here r at g tr (Did a by) e = change_here r at g tr a by (report_of a.command by) e
what_here r at g tr (Gap t) e = absurd (grind (arith, e))
what_here r at g tr Idle e = absurd (grind (arith, e))
what_here r at g tr Lost e = absurd (grind (arith, e))

pub change_away : (r last : ℕ) (at : TurnContext) (g : Registry) (tr : List Entry) (a : Asked) (by : Option Principal) (place : Option ℕ) → is_on r place ≡ false → (is_beginning (alone_by at g a by place) && eqb (last + 1) r) ≡ false → Elsewhere r last (change_by at g tr a by place)
change_away r last at g tr a by None off opens = alone_away r last at g (option_map who_of by) (outcome g [] a.command) (effect_of at g (option_map who_of by) a.session [] (outline a.command)) opens
change_away r last at g tr a None (Some n) off opens = tt
change_away r last at g tr a (Some by) (Some n) off opens = on_elsewhere r n last at g (who_of by) tr (effect_of at g (Some (who_of by)) a.session tr (outline a.command)) (grind (arith, nat_tests, off))

pub what_away : (r last : ℕ) (at : TurnContext) (g : Registry) (tr : List Entry) (w : What) → is_on r (about w) ≡ false → (is_beginning (alone_in w at g) && eqb (last + 1) r) ≡ false → Elsewhere r last (change_in w at g tr)
what_away r last at g tr (Did a by) off opens = change_away r last at g tr a by (report_of a.command by) off opens
what_away r last at g tr (Gap t) off opens = tt
what_away r last at g tr Idle off opens = tt
what_away r last at g tr Lost off opens = tt

pub opening_entry : (r last : ℕ) (ch : Change) → (is_beginning ch && eqb (last + 1) r) ≡ true → (e : Entry) × ((ch ≡ Begins e) × (last + 1 ≡ r))
opening_entry r last (Begins e) is = (e, (refl, grind (arith, nat_tests, is)))
opening_entry r last Nothing is = absurd (grind (arith, is))
opening_entry r last Draws is = absurd (grind (arith, is))
opening_entry r last (Notes n e) is = absurd (grind (arith, is))
opening_entry r last (Deletes n) is = absurd (grind (arith, is))
opening_entry r last (LogsIn s) is = absurd (grind (arith, is))
opening_entry r last (LogsOut turn who) is = absurd (grind (arith, is))
opening_entry r last (Configures setting) is = absurd (grind (arith, is))

pub opens_place : (at : TurnContext) (g : Registry) (tr : List Entry) (a : Asked) (by : Option Principal) (place : Option ℕ) (e : Entry) → alone_by at g a by place ≡ Begins e → change_by at g tr a by place ≡ Begins e
opens_place at g tr a by None e is = is
opens_place at g tr a by (Some n) e is = absurd (grind (arith, is))

pub opens_in : (at : TurnContext) (g : Registry) (tr : List Entry) (w : What) (e : Entry) → alone_in w at g ≡ Begins e → change_in w at g tr ≡ Begins e
opens_in at g tr (Did a by) e is = opens_place at g tr a by (report_of a.command by) e is
opens_in at g tr (Gap t) e is = is
opens_in at g tr Idle e is = is
opens_in at g tr Lost e is = is

pub trails_same : (r : ℕ) (place : Option ℕ) (tr ts : ℕ → List Entry) → ((q : ℕ) → q ≢ r → ts q ≡ tr q) → is_on r place ≡ false → trail_of place ts ≡ trail_of place tr
trails_same r None tr ts same off = refl
trails_same r (Some n) tr ts same off = same n (grind (arith, nat_tests, off))

pub what_steps : (r last : ℕ) (at : TurnContext) (g : Registry) (w v : What) (tr ts : ℕ → List Entry) → ((q : ℕ) → q ≢ r → ts q ≡ tr q) → WhatStep r last at g w v →
    GapStep r last (change_in w at g (trail_of (about w) tr)) (change_in v at g (trail_of (about v) ts)) (secret_in w g) (secret_in v g)
what_steps r last at g w v tr ts same (stays e off opens) =
    kept (ap (λ x. change_in x at g (trail_of (about x) ts)) e ∙ ap (change_in w at g) (trails_same r (about w) tr ts same off)) (ap (λ x. secret_in x g) e) (what_away r last at g (trail_of (about w) tr) w off opens)
what_steps r last at g w v tr ts same (empties on e) = dropped (ap (λ x. change_in x at g (trail_of (about x) ts)) e) (what_here r at g (trail_of (about w) tr) w on)
what_steps r last at g w v tr ts same (draws u opens e) =
    let k = opening_entry r last (alone_in w at g) opens in
    only_drawn k.0 (opens_in at g (trail_of (about w) tr) w k.0 k.1.0) k.1.1 (ap (λ x. change_in x at g (trail_of (about x) ts)) e)

-- ---- numbers without r

abbrev pub but : ℕ → List ℕ → List ℕ
but r ns = filter (λ n. not (eqb n r)) ns

pub but_push : (r k : ℕ) (ns : List ℕ) → k ≢ r → but r (ns ++ k ∷ []) ≡ but r ns ++ k ∷ []
but_push r k ns ne = filter-append _ ns (k ∷ []) ∙ ap (λ ms. but r ns ++ ms) (grind (arith, nat_tests))

pub but_same : (r k : ℕ) (ns : List ℕ) → k ≡ r → but r (ns ++ k ∷ []) ≡ but r ns
but_same r k ns e = filter-append _ ns (k ∷ []) ∙ (ap (λ ms. but r ns ++ ms) (grind (arith, nat_tests, e)) ∙ append-nil (but r ns))

pub but_below : (r k : ℕ) (ns : List ℕ) → Below k ns → k < r → but r ns ≡ ns
but_below r k [] b lt = refl
but_below r k (n ∷ ns) b lt = let ne : n ≢ r = omega (arith, b.0) in grind (arith, nat_tests, but_below r k ns b.1 lt, ne)

-- ---- each fact after a step

pub step_draw : (r last : ℕ) (ch new : Change) (s v : Option Answered) → GapStep r last ch new s v → is_draw new ≡ is_draw ch
step_draw r last ch new s v (kept e f off) = ap is_draw e
step_draw r last ch new s v (dropped e on) = ap is_draw e ∙ here ch on
  where
    here : (c : Change) → Here r c → false ≡ is_draw c
    here Draws h = absurd h
    here (Begins e) h = absurd h
    here _ h = refl
step_draw r last ch new s v (only_drawn x e f d) = ap is_draw d ∙ ap is_draw (sym e)

pub step_registry : (r last : ℕ) (ch new : Change) (s v : Option Answered) (g : Registry) → GapStep r last ch new s v → registry_after new g ≡ registry_after ch g
step_registry r last ch new s v g (kept e f off) = ap (λ x. registry_after x g) e
step_registry r last ch new s v g (dropped e on) = ap (λ x. registry_after x g) e ∙ here ch on
  where
    here : (c : Change) → Here r c → registry_after Nothing g ≡ registry_after c g
    here (Configures setting) h' = absurd h'
    here _ h' = refl
step_registry r last ch new s v g (only_drawn x e f d) = ap (λ y. registry_after y g) d ∙ ap (λ y. registry_after y g) (sym e)

pub step_numbers : (r last : ℕ) (ch new : Change) (s v : Option Answered) (ns : List ℕ) → GapStep r last ch new s v → numbers_after new last (but r ns) ≡ but r (numbers_after ch last ns)
step_numbers r last ch new s v ns (kept e f off) = ap (λ x. numbers_after x last (but r ns)) e ∙ same ch off
  where
    same : (c : Change) → Elsewhere r last c → numbers_after c last (but r ns) ≡ but r (numbers_after c last ns)
    same (Begins e) ne = sym (but_push r (last + 1) ns ne)
    same (Deletes n) ne = filter_swap (λ k. not (eqb k n)) (λ k. not (eqb k r)) ns
    same _ ne = refl
step_numbers r last ch new s v ns (dropped e on) = ap (λ x. numbers_after x last (but r ns)) e ∙ here ch on
  where
    here : (c : Change) → Here r c → but r ns ≡ but r (numbers_after c last ns)
    here (Begins e) h = absurd h
    here (Deletes n) h = sym (ap (λ k. but r (but k ns)) h ∙ filter_twice (λ k. not (eqb k r)) (λ k. not (eqb k r)) (λ k e. e) ns)
    here _ h = refl
step_numbers r last ch new s v ns (only_drawn x e f d) = ap (λ x. numbers_after x last (but r ns)) d ∙ (sym (but_same r (last + 1) ns f) ∙ ap (λ x. but r (numbers_after x last ns)) (sym e))

pub step_trail : (r last q : ℕ) (lives : Bool) (ch new : Change) (s v : Option Answered) (t : List Entry) → q ≢ r → GapStep r last ch new s v → grown new last q lives t ≡ grown ch last q lives t
step_trail r last q lives ch new s v t ne (kept e f off) = ap (λ x. grown x last q lives t) e
step_trail r last q lives ch new s v t ne (dropped e on) = ap (λ x. grown x last q lives t) e ∙ here ch on
  where
    here : (c : Change) → Here r c → t ≡ grown c last q lives t
    here (Begins e) h = absurd h
    here (Notes n e) h = let k : eqb n q ≡ false = other_number n q (λ j. ne (sym j ∙ h)) in ap (λ b. cond (b && lives) (t ++ e ∷ []) t) (sym k)
    here _ h = refl
step_trail r last q lives ch new s v t ne (only_drawn x e f d) = ap (λ y. grown y last q lives t) d ∙ (other ∙ ap (λ y. grown y last q lives t) (sym e))
  where
    other : t ≡ grown (Begins x) last q lives t
    other = let k : eqb (last + 1) q ≡ false = other_number (last + 1) q (λ j. ne (sym j ∙ f)) in ap (λ b. cond b (x ∷ []) t) (sym k)

pub step_sealed : (r last q : ℕ) (lives : Bool) (ch new : Change) (s v : Option Answered) (old : Option Answered) → q ≢ r → GapStep r last ch new s v → given new last q lives v old ≡ given ch last q lives s old
step_sealed r last q lives ch new s v old ne (kept e f off) = ap (λ x. given x last q lives v old) e ∙ ap (λ x. given ch last q lives x old) f
step_sealed r last q lives ch new s v old ne (dropped e on) = ap (λ x. given x last q lives v old) e ∙ here ch on
  where
    here : (c : Change) → Here r c → old ≡ given c last q lives s old
    here (Begins e) h = absurd h
    here (Notes n e) h = let k : eqb n q ≡ false = other_number n q (λ j. ne (sym j ∙ h)) in ap (λ b. cond (b && lives) (Rattle.wb_model.specs.Past.newer s old) old) (sym k)
    here _ h = refl
step_sealed r last q lives ch new s v old ne (only_drawn x e f d) = ap (λ y. given y last q lives v old) d ∙ (other ∙ ap (λ y. given y last q lives s old) (sym e))
  where
    other : old ≡ given (Begins x) last q lives s old
    other = let k : eqb (last + 1) q ≡ false = other_number (last + 1) q (λ j. ne (sym j ∙ f)) in ap (λ b. cond b s old) (sym k)

-- the sessions that a turn leaves and makes
pub step_recent : (r last time : ℕ) (cs : List Case) (ch new : Change) (s v : Option Answered) (zs : List Session) → GapStep r last ch new s v →
    remaining new (sessions_but r zs) ++ filter (lasts time (others r cs)) (made new) ≡ sessions_but r (remaining ch zs ++ filter (lasts time cs) (made ch))
step_recent r last time cs ch new s v zs (kept e f off) = ap (λ x. remaining x (sessions_but r zs) ++ filter (lasts time (others r cs)) (made x)) e ∙ kept_recent r time cs ch zs (same ch off)
  where
    same : (c : Change) → Elsewhere r last c → MadeElsewhere r c
    same (LogsIn n) h = h
    same _ h = tt
step_recent r last time cs ch new s v zs (dropped e on) = ap (λ x. remaining x (sessions_but r zs) ++ filter (lasts time (others r cs)) (made x)) e ∙ gone_recent r time cs ch zs (here ch on)
  where
    here : (c : Change) → Here r c → IsGone r c
    here (LogsIn n) h = h
    here (LogsOut k who) h = h
    here (Deletes n) h = h
    here (Configures setting) h = absurd h
    here _ h = tt
step_recent r last time cs ch new s v zs (only_drawn x e f d) =
    ap (λ y. remaining y (sessions_but r zs) ++ filter (lasts time (others r cs)) (made y)) d
    ∙ (kept_recent r time cs (Begins x) zs tt ∙ ap (λ y. sessions_but r (remaining y zs ++ filter (lasts time cs) (made y))) (sym e))
