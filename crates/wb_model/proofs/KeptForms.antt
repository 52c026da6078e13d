-- What a turn keeps of the reports: their forms are there, and none began after the last draw.
use Rattle.std.proofs.Common.{◌≡◌, ◌⊎◌, inl, inr, ℕ, ◌+◌, ◌*◌, ◌≤◌, Bool, true, false, cond, eqb, not, List, [], ◌∷◌, ◌++◌, Option, Some, None, refl, sym, ap, ◌∙◌, arith, option_map}
use Rattle.std.specs.Prelude.{filter, map, find, fold, is_some, unwrap_or, nat_lt, nat_le, ◌&&◌, ◌==◌, Ok, Err}
use Rattle.std.specs.Option.{option_or, option_map_or}
use Rattle.std.specs.Ordering.{nat_cmp, match_ordering}
use Rattle.std.specs.declared.cmp.Ordering.TheVariants.{Less, Equal, Greater}
use Rattle.std.proofs.lemmas.Bool.Decides.{nat_tests}
use Rattle.std.proofs.lemmas.Grind.{fold-append}
use Rattle.wb_list.specs.Keyed.{insert_item}
use Rattle.wb_model.specs.declared.act.Act.{Act}
use Rattle.wb_model.specs.declared.act.Act.TheVariants as acts
use Rattle.wb_model.specs.declared.act.Move.{Move}
use Rattle.wb_model.specs.declared.act.Move.TheVariants as moves
use Rattle.wb_model.specs.declared.body.Told.{Told}
use Rattle.wb_model.specs.declared.command.Command.{Command}
use Rattle.wb_base.specs.Calendars.{Calendar}
use Rattle.wb_model.specs.declared.entry.Entry.{Entry}
use Rattle.wb_model.specs.declared.registry.ContextItem.{ContextItem}
use Rattle.wb_model.specs.declared.registry.FormItem.{FormItem}
use Rattle.wb_model.specs.declared.setting.AdminFault.TheVariants.{NotFound, Full}
use Rattle.wb_model.specs.Trails as trails
use Rattle.wb_model.specs.Trails.{Submission, submission_in}
use Rattle.wb_model.specs.Tables.{Registry, Plain, Case, Who, context, newest_form}
use Rattle.wb_model.specs.Faults.{admin_told}
use Rattle.wb_model.specs.Refusing.{refuses_where}
use Rattle.wb_model.specs.Requests.{Outcome, Request}
use Rattle.wb_model.specs.AskingForms.{open_form, form_of_trail}
use Rattle.wb_model.specs.Settings.{OfTenant, OfUser, OfContext, OfForm, form_key, in_range, context_item, next_version, form_fault, Proposal, ToTenant, ToUser, ToContext, ToForm, proposal_refusal, setting_of}
use Rattle.wb_model.specs.Changes.{TurnContext, Change, Nothing, Draws, Begins, Notes, Deletes, Configures, Answer, judged}
use Rattle.wb_model.specs.Effects.{Effect, Writes, Submits, Sets}
use Rattle.wb_model.specs.Doings.{Doing, Acts, Moves, doing_entry}
use Rattle.wb_model.specs.Acts.{act_deed}
use Rattle.wb_model.specs.Moves.{move_deed}
use Rattle.wb_model.specs.OnReports.{change_on}
use Rattle.wb_model.specs.Rules.{refusal_alone, change_alone, effect_at, verdict_on}
use Rattle.wb_model.specs.Submissions.{drawing, submission_entry}
use Rattle.wb_model.specs.Targets.{Target, Nobody, Alone, On}
use Rattle.wb_model.specs.Host.{noted, plain_after, change_of}
use Rattle.wb_model.specs.Legal.{Reckoning, reckoning, is_legal, AreLegal}
use Rattle.wb_model.specs.Opened.{AreVersions, HaveForms, begun, AreBegunBy}
use Rattle.wb_model.proofs.Found.{Held}
use Rattle.wb_model.proofs.Effects.{IsSubmitted, submitted}

-- ---- a form's version is found

abbrev pub is_version : ℕ → ℕ → FormItem → Bool
is_version i v x = (x.id == i) && (x.version == v)

-- an item has its own version
own_version : (x : FormItem) → is_version x.id x.version x ≡ true
own_version x = grind (arith, nat_tests)

held_version : (xs : List FormItem) (x : FormItem) → Held x xs → is_some (find (is_version x.id x.version) xs) ≡ true
held_version [] x h = absurd h
held_version (y ∷ ys) x (inl e) = ap (λ b. is_some (cond b (Some y) (find (is_version x.id x.version) ys))) (ap (is_version x.id x.version) (sym e) ∙ own_version x)
held_version (y ∷ ys) x (inr h) = by (is_version x.id x.version y) (held_version ys x h)
  where
    by : (b : Bool) → is_some (find (is_version x.id x.version) ys) ≡ true → is_some (cond b (Some y) (find (is_version x.id x.version) ys)) ≡ true
    by true ih = refl
    by false ih = ih

-- the newest version of a form is one of the forms
newest_held : (f : ℕ) (before : Option FormItem) (xs : List FormItem) (x : FormItem) → fold (λ (o : Option FormItem) (y : FormItem). cond (y.id == f) (Some y) o) before xs ≡ Some x → (before ≡ Some x) ⊎ Held x xs
newest_held f before [] x e = inl e
newest_held f before (y ∷ ys) x e = by (y.id == f) (newest_held f (cond (y.id == f) (Some y) before) ys x e)
  where
    by : (b : Bool) → (cond b (Some y) before ≡ Some x) ⊎ Held x ys → (before ≡ Some x) ⊎ ((x ≡ y) ⊎ Held x ys)
    by true (inl k) = inr (inl (let same : y ≡ x = cc in sym same))
    by false (inl k) = inl k
    by b (inr h) = inr (inr h)

asked_form : (o : Option ContextItem) (xs : List FormItem) (x : FormItem) → open_form o xs ≡ Some x → is_some (find (is_version x.id x.version) xs) ≡ true
asked_form None xs x e = absurd (grind (arith, e))
asked_form (Some c) xs x e = by c.is_open e
  where
    there : newest_form c.form xs ≡ Some x → is_some (find (is_version x.id x.version) xs) ≡ true
    there k = found (newest_held c.form None xs x k)
      where
        found : (None ≡ Some x) ⊎ Held x xs → is_some (find (is_version x.id x.version) xs) ≡ true
        found (inl bad) = absurd (grind (arith, bad))
        found (inr h) = held_version xs x h

    by : (b : Bool) → cond b (newest_form c.form xs) None ≡ Some x → is_some (find (is_version x.id x.version) xs) ≡ true
    by true k = there k
    by false k = absurd (grind (arith, k))

-- ---- one more version

abbrev IsVersion : FormItem → Type 0
IsVersion x = (1 ≤ x.version) × (x.version ≤ 99)

abbrev with_form : List FormItem → FormItem → List FormItem
with_form xs x = insert_item nat_cmp form_key xs x

versions_more : (xs : List FormItem) (x : FormItem) → AreVersions xs → IsVersion x → AreVersions (with_form xs x)
versions_more [] x all is = (is, tt)
versions_more (y ∷ ys) x all is = by (nat_lt (form_key y) (form_key x)) (eqb (form_key y) (form_key x)) (versions_more ys x all.1 is)
  where
    by : (b d : Bool) → AreVersions (with_form ys x) → AreVersions (match_ordering (cond b Less (cond d Equal Greater)) (y ∷ with_form ys x) (x ∷ ys) (x ∷ y ∷ ys))
    by true d ih = (all.0, ih)
    by false true ih = (is, all.1)
    by false false ih = (is, all)

-- versions from 1 to 99 with one key are of one form
same_version : (x y : FormItem) → IsVersion x → IsVersion y → form_key y ≡ form_key x → (y.id ≡ x.id) × (y.version ≡ x.version)
same_version x y p q e = let k : y.id * 100 + y.version ≡ x.id * 100 + x.version = e in (omega (arith, p.0, p.1, q.0, q.1, k), omega (arith, p.0, p.1, q.0, q.1, k))

-- a version that was found is found with one more version
version_stays : (i v : ℕ) (xs : List FormItem) (x : FormItem) → AreVersions xs → IsVersion x → is_some (find (is_version i v) xs) ≡ true → is_some (find (is_version i v) (with_form xs x)) ≡ true
version_stays i v [] x all is e = absurd (grind (arith, e))
version_stays i v (y ∷ ys) x all is e = by (nat_lt (form_key y) (form_key x)) (eqb (form_key y) (form_key x)) refl (version_stays i v ys x all.1 is)
  where
    later : (is_some (find (is_version i v) ys) ≡ true → is_some (find (is_version i v) (with_form ys x)) ≡ true) → is_some (find (is_version i v) (y ∷ with_form ys x)) ≡ true
    later ih = on (is_version i v y) e ih
      where
        on : (b : Bool) → is_some (cond b (Some y) (find (is_version i v) ys)) ≡ true → (is_some (find (is_version i v) ys) ≡ true → is_some (find (is_version i v) (with_form ys x)) ≡ true) → is_some (cond b (Some y) (find (is_version i v) (with_form ys x))) ≡ true
        on true f ih = refl
        on false f ih = ih f

    first : is_some (find (is_version i v) (x ∷ y ∷ ys)) ≡ true
    first = on (is_version i v x)
      where
        on : (b : Bool) → is_some (cond b (Some x) (find (is_version i v) (y ∷ ys))) ≡ true
        on true = refl
        on false = e

    instead : eqb (form_key y) (form_key x) ≡ true → is_some (find (is_version i v) (x ∷ ys)) ≡ true
    instead k =
        let keys : form_key y ≡ form_key x = grind (arith, nat_tests, k) in
        let same = same_version x y is all.0 keys in
        let test : is_version i v y ≡ is_version i v x = ap (λ n. (n == i) && (y.version == v)) same.0 ∙ ap (λ n. (x.id == i) && (n == v)) same.1 in
        on (is_version i v y) (is_version i v x) test e
      where
        on : (b d : Bool) → b ≡ d → is_some (cond b (Some y) (find (is_version i v) ys)) ≡ true → is_some (cond d (Some x) (find (is_version i v) ys)) ≡ true
        on true true t f = refl
        on false false t f = f
        on true false t f = absurd (grind (arith, t))
        on false true t f = refl

    by : (b d : Bool) → eqb (form_key y) (form_key x) ≡ d → (is_some (find (is_version i v) ys) ≡ true → is_some (find (is_version i v) (with_form ys x)) ≡ true) → is_some (find (is_version i v) (match_ordering (cond b Less (cond d Equal Greater)) (y ∷ with_form ys x) (x ∷ ys) (x ∷ y ∷ ys))) ≡ true
    by true d k ih = later ih
    by false true k ih = instead k
    by false false k ih = first

forms_stay : (xs : List FormItem) (x : FormItem) (cs : List Case) → AreVersions xs → IsVersion x → HaveForms xs cs → HaveForms (with_form xs x) cs
forms_stay xs x [] all is have = tt
forms_stay xs x (c ∷ cs) all is have = (version_stays (trails.form c.trail) (trails.version c.trail) xs x all is have.0, forms_stay xs x cs all is have.1)

-- ---- one more entry

-- an entry that is no submission leaves what the submission says
pub silent_part : {X : Type 0} (part : Submission → X) (none : X) (e : Entry) (trail : List Entry) → submission_in e.deed ≡ None → trails.submitted part none (trail ++ e ∷ []) ≡ trails.submitted part none trail
silent_part part none e trail silent = fold-append _ _ trail (e ∷ []) ∙ ap (λ (o : Option Submission). unwrap_or (option_map part o) (trails.submitted part none trail)) silent

pub form_more : (forms : List FormItem) (e : Entry) (trail : List Entry) → submission_in e.deed ≡ None → form_of_trail (trail ++ e ∷ []) forms ≡ form_of_trail trail forms
form_more forms e trail silent =
    ap (λ i. find (is_version i (trails.version (trail ++ e ∷ []))) forms) (silent_part (λ (s : Submission). s.form) 0 e trail silent)
    ∙ ap (λ v. find (is_version (trails.form trail) v) forms) (silent_part (λ (s : Submission). s.version) 0 e trail silent)

forms_noted : (forms : List FormItem) (n : ℕ) (e : Entry) (cs : List Case) → submission_in e.deed ≡ None → HaveForms forms cs → HaveForms forms (map (noted n e) cs)
forms_noted forms n e [] silent have = tt
forms_noted forms n e (c ∷ cs) silent have = (by (eqb c.number n), forms_noted forms n e cs silent have.1)
  where
    by : (b : Bool) → is_some (form_of_trail (cond b (c.trail ++ e ∷ []) c.trail) forms) ≡ true
    by true = ap is_some (form_more forms e c.trail silent) ∙ have.0
    by false = have.0

forms_pushed : (forms : List FormItem) (cs : List Case) (c : Case) → HaveForms forms cs → is_some (form_of_trail c.trail forms) ≡ true → HaveForms forms (cs ++ c ∷ [])
forms_pushed forms [] c have new = (new, tt)
forms_pushed forms (d ∷ cs) c have new = (have.0, forms_pushed forms cs c have.1 new)

-- ---- when reports began

pub later_begun : (m n : ℕ) (cs : List Case) → m ≤ n → AreBegunBy m cs → AreBegunBy n cs
later_begun m n [] le all = tt
later_begun m n (c ∷ cs) le all = (omega (arith, le, all.0), later_begun m n cs le all.1)

begun_pushed : (m : ℕ) (cs : List Case) (c : Case) → AreBegunBy m cs → begun c.trail ≤ m → AreBegunBy m (cs ++ c ∷ [])
begun_pushed m [] c all new = (new, tt)
begun_pushed m (d ∷ cs) c all new = (all.0, begun_pushed m cs c all.1 new)

-- a legal trail is not empty, and one more entry leaves its first
begun_noted : (m n : ℕ) (e : Entry) (days : Reckoning) (time : ℕ) (cs : List Case) → AreLegal days time cs → AreBegunBy m cs → AreBegunBy m (map (noted n e) cs)
begun_noted m n e days time [] legal all = tt
begun_noted m n e days time (c ∷ cs) legal all = (by (eqb c.number n) c.trail legal.0.0 all.0, begun_noted m n e days time cs legal.1 all.1)
  where
    by : (b : Bool) (trail : List Entry) → is_legal days trail ≡ true → begun trail ≤ m → begun (cond b (trail ++ e ∷ []) trail) ≤ m
    by b [] bad le = absurd (grind (arith, bad))
    by true (x ∷ trail) is le = le
    by false (x ∷ trail) is le = le

-- ---- some of the reports

pub filtered_forms : (p : Case → Bool) (forms : List FormItem) (cs : List Case) → HaveForms forms cs → HaveForms forms (filter p cs)
filtered_forms p forms [] have = tt
filtered_forms p forms (c ∷ cs) have = by (p c) (filtered_forms p forms cs have.1)
  where
    by : (b : Bool) → HaveForms forms (filter p cs) → HaveForms forms (cond b (c ∷ filter p cs) (filter p cs))
    by true ih = (have.0, ih)
    by false ih = ih

pub filtered_begun : (p : Case → Bool) (m : ℕ) (cs : List Case) → AreBegunBy m cs → AreBegunBy m (filter p cs)
filtered_begun p m [] all = tt
filtered_begun p m (c ∷ cs) all = by (p c) (filtered_begun p m cs all.1)
  where
    by : (b : Bool) → AreBegunBy m (filter p cs) → AreBegunBy m (cond b (c ∷ filter p cs) (filter p cs))
    by true ih = (all.0, ih)
    by false ih = ih

-- ---- a change

-- a report begins now and in a form that is there, an entry is no submission, and a version is from 1 to 99
abbrev pub IsMade : ℕ → Registry → Change → Type 0
IsMade time g (Begins e) = (e.at ≡ time) × (is_some (form_of_trail (e ∷ []) g.forms) ≡ true)
IsMade time g (Notes n e) = submission_in e.deed ≡ None
IsMade time g (Configures (OfForm item)) = IsVersion item
IsMade time g _ = Unit {0}

-- tables whose reports are so
pub record AreMade (p : Plain) : Type 0 where
  pub versions : AreVersions p.registry.forms
  pub forms : HaveForms p.registry.forms p.cases
  pub begun : AreBegunBy p.numbering.at p.cases

pub change_made : (time : ℕ) (p : Plain) (ch : Change) → IsMade time p.registry ch → p.numbering.at ≤ time → AreLegal (reckoning p.registry.settings) time p.cases → AreMade p → AreMade (plain_after time ch p)
change_made time p (Begins e) is le legal made =
    let new : Case = record { number = p.numbering.last + 1; trail = e ∷ [] } in
    record {
      versions = made.versions;
      forms = forms_pushed p.registry.forms p.cases new made.forms is.1;
      begun = begun_pushed time p.cases new (later_begun p.numbering.at time p.cases le made.begun) (let now : e.at ≡ time = is.0 in omega (arith, now));
    }
change_made time p (Notes n e) is le legal made = record {
  versions = made.versions;
  forms = forms_noted p.registry.forms n e p.cases is made.forms;
  begun = begun_noted p.numbering.at n e (reckoning p.registry.settings) time p.cases legal made.begun;
}
change_made time p (Configures (OfForm item)) is le legal made = record {
  versions = versions_more p.registry.forms item made.versions is;
  forms = forms_stay p.registry.forms item p.cases made.versions is made.forms;
  begun = made.begun;
}
change_made time p (Configures (OfTenant next)) is le legal made = record { versions = made.versions; forms = made.forms; begun = made.begun }
change_made time p (Configures (OfUser item ends)) is le legal made = record { versions = made.versions; forms = made.forms; begun = made.begun }
change_made time p (Configures (OfContext item)) is le legal made = record { versions = made.versions; forms = made.forms; begun = made.begun }
change_made time p (Deletes n) is le legal made = record { versions = made.versions; forms = filtered_forms _ p.registry.forms p.cases made.forms; begun = filtered_begun _ p.numbering.at p.cases made.begun }
change_made time p Draws is le legal made = record { versions = made.versions; forms = made.forms; begun = later_begun p.numbering.at time p.cases le made.begun }
change_made time p _ is le legal made = record { versions = made.versions; forms = made.forms; begun = made.begun }

-- ---- a verdict

no_fault : {X Y : Type 0} (f : X → Y) (o : Option X) → option_map f o ≡ None → o ≡ None
no_fault f None e = refl
no_fault f (Some x) e = absurd (grind (arith, e))

within : (a b : Bool) → option_or (refuses_where (not a) NotFound) (refuses_where (not b) Full) ≡ None → b ≡ true
within a true e = refl
within true false e = absurd (grind (arith, e))
within false false e = absurd (grind (arith, e))

first_or_next : (o : Option FormItem) → 1 ≤ option_map_or (λ (x : FormItem). x.version) o 0 + 1
first_or_next o = omega arith

proposal_made : (time t : ℕ) (g : Registry) (x : Proposal) → proposal_refusal g x ≡ None → IsMade time g (option_map_or Configures (setting_of t g x) Nothing)
proposal_made time t g (ToForm f (Ok form)) e =
    let most : nat_le (next_version f g.forms) 99 ≡ true = within (in_range 16 f) (nat_le (next_version f g.forms) 99) (no_fault (admin_told 99) (form_fault g.forms f) e) in
    (first_or_next (newest_form f g.forms), grind (arith, nat_tests, most))
proposal_made time t g (ToForm f (Err fault)) e = tt
proposal_made time t g (ToContext c next) e = by (nat_le 1 next.retention)
  where
    by : (b : Bool) → IsMade time g (option_map_or Configures (cond b (Some (OfContext (context_item t c next))) None) Nothing)
    by true = tt
    by false = tt
proposal_made time t g (ToTenant next) e = tt
proposal_made time t g (ToUser u next) e = tt

alone_made : (at : TurnContext) (p : Plain) (who : Option Who) (o : Outcome) (d : Command) (e : Effect) → IsSubmitted p.registry d e → refusal_alone p.registry (drawing at p) o e ≡ None → IsMade at.time p.registry (change_alone at p.registry who o e)
unfolding submission_entry
alone_made at p who o d (Submits c form) k free = (refl, asked_form (context k.1.0 p.registry.contexts) p.registry.forms form k.1.2)
alone_made at p who o d (Sets t proposal) k free = proposal_made at.time t p.registry proposal free
alone_made at p who o d _ k free = tt

-- what is done is no submission
pub doing_silent : (calendar : Calendar) (time : ℕ) (who : Who) (trail : List Entry) (d : Doing) → submission_in (doing_entry calendar time who trail d).deed ≡ None
doing_silent calendar time who trail (Acts act) = by act
  where
    by : (x : Act) → submission_in (act_deed calendar trail x) ≡ None
    by (acts.Label text) = refl
    by _ = refl
doing_silent calendar time who trail (Moves move) = by move
  where
    by : (x : Move) → submission_in (move_deed time x) ≡ None
    by (moves.Ask reason stamp) = refl
    by _ = refl

on_made : (at : TurnContext) (g : Registry) (who : Who) (n : ℕ) (trail : List Entry) (e : Effect) → IsMade at.time g (change_on at g who n trail e)
on_made at g who n trail (Writes d) = doing_silent g.settings.calendar at.time who trail d
on_made at g who n trail _ = tt

judged_made : (time : ℕ) (g : Registry) (o : Option Told) (ch : Change) (a : Answer) → (o ≡ None → IsMade time g ch) → IsMade time g (change_of (judged o ch a))
judged_made time g None ch a h = h refl
judged_made time g (Some x) ch a h = tt

pub verdict_made : (p : Plain) (at : TurnContext) (q : Request) (t : Target) → IsMade at.time p.registry (change_of (verdict_on p at q t))
verdict_made p at q (Nobody x) = tt
verdict_made p at q (Alone who) = judged_made at.time p.registry _ _ _ (λ free. alone_made at p who q.outcome q.command (effect_at p at q who []) (submitted at p.registry who q.session [] q.command) free)
verdict_made p at q (On who c) = judged_made at.time p.registry _ _ _ (λ free. on_made at p.registry who c.number c.trail (effect_at p at q (Some who) c.trail))
