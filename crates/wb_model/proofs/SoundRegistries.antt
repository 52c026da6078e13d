-- A setting in its ranges keeps a registry in its ranges.
use Rattle.std.proofs.Common.{◌≡◌, ℕ, ◌+◌, ◌≤◌, Bool, true, false, cond, eqb, List, [], ◌∷◌, Option, Some, None, refl, sym, ap, ◌∙◌, subst, arith, length}
use Rattle.std.specs.Prelude.{nat_lt, nat_le, fold, ◌&&◌, Result, Ok, Err}
use Rattle.std.specs.Ordering.{nat_cmp, match_ordering}
use Rattle.std.specs.declared.cmp.Ordering.{Ordering}
use Rattle.std.specs.declared.cmp.Ordering.TheVariants.{Less, Equal, Greater}
use Rattle.std.proofs.lemmas.Bool.Decides.{nat_tests}
use Rattle.wb_list.specs.Keyed.{insert_item}
use Rattle.wb_base.specs.declared.callers.Presented.{Presented}
use Rattle.wb_base.specs.declared.faults.FormFault.{FormFault}
use Rattle.wb_base.specs.declared.form.Form.{Form}
use Rattle.wb_model.specs.declared.body.Told.{Told}
use Rattle.wb_model.specs.declared.command.Command.{Command}
use Rattle.wb_model.specs.declared.command.ContextSet.{ContextSet}
use Rattle.wb_model.specs.declared.registry.ContextItem.{ContextItem}
use Rattle.wb_model.specs.Tables.{Registry, Plain, Who}
use Rattle.wb_model.specs.Targets.{Target, Nobody, Alone, On, target}
use Rattle.wb_model.specs.Requests.{Outcome, Request, outline}
use Rattle.wb_model.specs.Fits.{is_between, fits_context}
use Rattle.wb_model.specs.Commands.{fits_command, effect_of}
use Rattle.wb_model.specs.Settings.{OfTenant, OfUser, OfContext, OfForm, context_item, ascending, ToTenant, ToUser, ToContext, ToForm, setting_of}
use Rattle.wb_model.specs.Changes.{Nothing, TurnContext, Change, Configures, Answer, judged}
use Rattle.wb_model.specs.Effects.{Effect, Writes, Sets}
use Rattle.wb_model.specs.OnReports.{change_on}
use Rattle.wb_model.specs.Rules.{change_alone, effect_at, verdict_on}
use Rattle.std.specs.Option.{option_map_or}
use Rattle.wb_model.proofs.Effects.{IsToldBy, told, outlined}
use Rattle.wb_model.specs.declared.entry.Entry.{Entry}
use Rattle.wb_model.specs.Host.{registry_after, change_of}
use Rattle.wb_model.specs.Legal.{ascends_from, ascends, are_readers, AreSound, IsSound}

-- ---- recipients, sorted

abbrev pub put : List ℕ → ℕ → List ℕ
put xs x = insert_item nat_cmp (λ (n : ℕ). n) xs x

and_both : (a b : Bool) → (a && b) ≡ true → (a ≡ true) × (b ≡ true)
and_both true true e = (refl, refl)
and_both true false e = absurd (grind (arith, e))
and_both false b e = absurd (grind (arith, e))

put_from : (k x : ℕ) (ys : List ℕ) → nat_lt k x ≡ true → ascends_from k ys ≡ true → ascends_from k (put ys x) ≡ true
put_from k x [] lt up = ap (λ b. b && true) lt
put_from k x (y ∷ ys) lt up = by (nat_lt y x) (eqb y x) refl refl (λ is. put_from y x ys is (and_both (nat_lt k y) (ascends_from y ys) up).1)
  where
    parts : (nat_lt k y ≡ true) × (ascends_from y ys ≡ true)
    parts = and_both (nat_lt k y) (ascends_from y ys) up

    by : (b d : Bool) → nat_lt y x ≡ b → eqb y x ≡ d → (nat_lt y x ≡ true → ascends_from y (put ys x) ≡ true) → ascends_from k (match_ordering (cond b Less (cond d Equal Greater)) (y ∷ put ys x) (x ∷ ys) (x ∷ y ∷ ys)) ≡ true
    by true d is same ih = ap (λ c. c && ascends_from y (put ys x)) parts.0 ∙ ih is
    by false true is same ih = let here : y ≡ x = grind (arith, nat_tests, same) in ap (λ c. c && ascends_from x ys) lt ∙ (ap (λ n. ascends_from n ys) (sym here) ∙ parts.1)
    by false false is same ih = let more : nat_lt x y ≡ true = grind (arith, nat_tests, is, same) in ap (λ c. c && (nat_lt x y && ascends_from y ys)) lt ∙ (ap (λ c. c && ascends_from y ys) more ∙ parts.1)

pub put_ascends : (x : ℕ) (ys : List ℕ) → ascends ys ≡ true → ascends (put ys x) ≡ true
put_ascends x [] up = refl
put_ascends x (y ∷ ys) up = by (nat_lt y x) (eqb y x) refl refl
  where
    by : (b d : Bool) → nat_lt y x ≡ b → eqb y x ≡ d → ascends (match_ordering (cond b Less (cond d Equal Greater)) (y ∷ put ys x) (x ∷ ys) (x ∷ y ∷ ys)) ≡ true
    by true d is same = put_from y x ys is up
    by false true is same = let here : y ≡ x = grind (arith, nat_tests, same) in ap (λ n. ascends_from n ys) (sym here) ∙ up
    by false false is same = let more : nat_lt x y ≡ true = grind (arith, nat_tests, is, same) in ap (λ c. c && ascends_from y ys) more ∙ up

put_length : (x : ℕ) (ys : List ℕ) → (1 ≤ length (put ys x)) × (length (put ys x) ≤ length ys + 1) × (length ys ≤ length (put ys x))
put_length x [] = (omega arith, omega arith, omega arith)
put_length x (y ∷ ys) = by (nat_lt y x) (eqb y x) (put_length x ys)
  where
    by : (b d : Bool) → (1 ≤ length (put ys x)) × (length (put ys x) ≤ length ys + 1) × (length ys ≤ length (put ys x)) →
        (1 ≤ length (match_ordering (cond b Less (cond d Equal Greater)) (y ∷ put ys x) (x ∷ ys) (x ∷ y ∷ ys))) × (length (match_ordering (cond b Less (cond d Equal Greater)) (y ∷ put ys x) (x ∷ ys) (x ∷ y ∷ ys)) ≤ length (y ∷ ys) + 1) × (length (y ∷ ys) ≤ length (match_ordering (cond b Less (cond d Equal Greater)) (y ∷ put ys x) (x ∷ ys) (x ∷ y ∷ ys)))
    by true d ih = (omega arith, omega (arith, ih.1), omega (arith, ih.2))
    by false true ih = (omega arith, omega arith, omega arith)
    by false false ih = (omega arith, omega arith, omega arith)

all_put : (xs ys : List ℕ) → ascends ys ≡ true → (ascends (fold put ys xs) ≡ true) × (length (fold put ys xs) ≤ length ys + length xs) × (length ys ≤ length (fold put ys xs))
all_put [] ys up = (up, omega arith, omega arith)
all_put (x ∷ xs) ys up =
    let ih = all_put xs (put ys x) (put_ascends x ys up) in
    let one = put_length x ys in
    (ih.0, omega (arith, ih.1, one.1), omega (arith, ih.2, one.2))

recipients_right : (ids : List ℕ) → is_between 1 32 (length ids) ≡ true → are_readers (ascending ids) ≡ true
recipients_right [] few = absurd (grind (arith, few))
recipients_right (x ∷ xs) few =
    let all = all_put xs (x ∷ []) refl in
    let most : nat_le (length (x ∷ xs)) 32 ≡ true = (and_both (nat_le 1 (length (x ∷ xs))) (nat_le (length (x ∷ xs)) 32) few).1 in
    let some : nat_le 1 (length (fold put (x ∷ []) xs)) ≡ true = grind (arith, nat_tests, all.2) in
    let under : nat_le (length (fold put (x ∷ []) xs)) 32 ≡ true = (let le : length (x ∷ xs) ≤ 32 = grind (arith, nat_tests, most) in let most_all : length (fold put (x ∷ []) xs) ≤ 32 = omega (arith, all.1, le) in grind (arith, nat_tests, most_all)) in
    rw (some, under) all.0

-- ---- settings

five_last : (a b c d e : Bool) → (a && b && c && d && e) ≡ true → (c ≡ true) × (e ≡ true)
five_last true true true true true is = (refl, refl)
five_last false b c d e is = absurd (grind (arith, is))
five_last true false c d e is = absurd (grind (arith, is))
five_last true true false d e is = absurd (grind (arith, is))
five_last true true true false e is = absurd (grind (arith, is))
five_last true true true true false is = absurd (grind (arith, is))

abbrev pub RightContext : ContextItem → Type 0
RightContext c = (1 ≤ c.retention) × (c.retention ≤ 3_650) × (are_readers c.recipients ≡ true)

pub context_right : (t c : ℕ) (next : ContextSet) → fits_context next ≡ true → RightContext (context_item t c next)
context_right t c next is =
    let parts = five_last _ (is_between 1 16 next.form) (is_between 1 32 (length next.recipients)) _ (is_between 1 3_650 next.retention) is in
    let range = and_both (nat_le 1 next.retention) (nat_le next.retention 3_650) parts.1 in
    (grind (arith, nat_tests, range.0), grind (arith, nat_tests, range.1), recipients_right next.recipients parts.0)

inserted : (cs : List ContextItem) (item : ContextItem) → AreSound cs → RightContext item → AreSound (insert_item nat_cmp (λ (x : ContextItem). x.id) cs item)
inserted [] item sound right = (right, tt)
inserted (c ∷ cs) item sound right = by (nat_cmp c.id item.id) (inserted cs item sound.1 right)
  where
    by : (o : Ordering) → AreSound (insert_item nat_cmp (λ (x : ContextItem). x.id) cs item) → AreSound (match_ordering o (c ∷ insert_item nat_cmp (λ (x : ContextItem). x.id) cs item) (item ∷ cs) (item ∷ c ∷ cs))
    by Less ih = (sound.0, ih)
    by Equal ih = (right, sound.1)
    by Greater ih = (right, sound)

-- a change puts in what is in its ranges
abbrev Puts : Change → Type 0
Puts (Configures (OfTenant next)) = next.notice_days ≤ 30
Puts (Configures (OfContext item)) = RightContext item
Puts _ = Unit {0}

change_sound : (ch : Change) (g : Registry) → Puts ch → IsSound g → IsSound (registry_after ch g)
change_sound (Configures (OfTenant next)) g puts sound = record { notice = puts; contexts = sound.contexts }
change_sound (Configures (OfContext item)) g puts sound = record { notice = sound.notice; contexts = inserted g.contexts item sound.contexts puts }
change_sound (Configures (OfUser item ends)) g puts sound = record { notice = sound.notice; contexts = sound.contexts }
change_sound (Configures (OfForm item)) g puts sound = record { notice = sound.notice; contexts = sound.contexts }
change_sound _ g puts sound = sound

-- ---- requests

notice_right : (b : Bool) (n : ℕ) (d : Bool) → (b && nat_le n 30 && d) ≡ true → n ≤ 30
notice_right true n d e = (let k : nat_le n 30 ≡ true = (and_both (nat_le n 30) d e).0 in grind (arith, nat_tests, k))
notice_right false n d e = absurd (grind (arith, e))

abbrev PutsBy : TurnContext → Registry → Option Who → Outcome → Effect → Type 0
PutsBy at g who o e = Puts (change_alone at g who o e)

alone_puts : (at : TurnContext) (g : Registry) (who : Option Who) (s : Presented) (o : Outcome) (d : Command) → fits_command d ≡ true → PutsBy at g who o (effect_of at g who s [] (outline d))
alone_puts at g who s o d fits = subst (PutsBy at g who o) (outlined at g who s [] d) (by (effect_of at g who s [] d) (told at g who s [] d))
  where
    context_puts : (t c : ℕ) (next : ContextSet) → fits_context next ≡ true → (b : Bool) → Puts (option_map_or Configures (cond b (Some (OfContext (context_item t c next))) None) Nothing)
    context_puts t c next right true = context_right t c next right
    context_puts t c next right false = tt

    form_puts : (t f : ℕ) (x : Result Form FormFault) → Puts (option_map_or Configures (setting_of t g (ToForm f x)) Nothing)
    form_puts t f (Ok x) = tt
    form_puts t f (Err x) = tt

    by : (e : Effect) → IsToldBy g s d e → PutsBy at g who o e
    by (Sets t (ToTenant next)) k = notice_right _ next.notice_days _ (k.1.1 fits)
    by (Sets t (ToUser u next)) k = tt
    by (Sets t (ToContext c next)) k = context_puts t c next (k.1.1 fits) (nat_le 1 next.retention)
    by (Sets t (ToForm f form)) k = form_puts t f form
    by _ k = tt

on_puts : (at : TurnContext) (g : Registry) (who : Who) (n : ℕ) (trail : List Entry) (e : Effect) → Puts (change_on at g who n trail e)
on_puts at g who n trail (Writes d) = tt
on_puts at g who n trail _ = tt

judged_puts : (o : Option Told) (ch : Change) (a : Answer) → Puts ch → Puts (change_of (judged o ch a))
judged_puts None ch a h = h
judged_puts (Some x) ch a h = tt

verdict_puts : (p : Plain) (at : TurnContext) (q : Request) (d : Command) (t : Target) → q.command ≡ outline d → fits_command d ≡ true → Puts (change_of (verdict_on p at q t))
verdict_puts p at q d (Nobody x) is fits = tt
verdict_puts p at q d (Alone who) is fits = judged_puts _ _ _ (subst (λ c. Puts (change_alone at p.registry who q.outcome (effect_of at p.registry who q.session [] c))) (sym is) (alone_puts at p.registry who q.session q.outcome d fits))
verdict_puts p at q d (On who c) is fits = judged_puts _ _ _ (on_puts at p.registry who c.number c.trail (effect_at p at q (Some who) c.trail))

-- a request in its ranges keeps the registry in its ranges
pub turn_sound : (p : Plain) (at : TurnContext) (q : Request) (d : Command) → q.command ≡ outline d → fits_command d ≡ true → IsSound p.registry → IsSound (registry_after (change_of (verdict_on p at q (target p q.session q.command))) p.registry)
turn_sound p at q d is fits sound = change_sound (change_of (verdict_on p at q (target p q.session q.command))) p.registry (verdict_puts p at q d (target p q.session q.command) is fits) sound
