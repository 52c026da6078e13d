-- What is known of a context and of a form that a sound registry has.
use Rattle.std.proofs.Common.{◌≡◌, ℕ, ◌≤◌, Bool, true, false, cond, eqb, find, List, [], ◌∷◌, length, Option, Some, None, refl, subst, arith}
use Rattle.std.specs.Prelude.{fold, if◌then◌else◌, nat_le, ◌&&◌, ◌==◌}
use Rattle.std.proofs.lemmas.Bool.Decides.{nat_tests}
use Rattle.wb_base.specs.FormFaults.{is_good}
use Rattle.wb_model.specs.declared.entry.Entry.{Entry}
use Rattle.wb_model.specs.declared.registry.ContextItem.{ContextItem}
use Rattle.wb_model.specs.declared.registry.FormItem.{FormItem}
use Rattle.wb_model.specs.Legal.{AreSound, are_readers, ascends}
use Rattle.wb_model.specs.Opened.{AreVersions}
use Rattle.wb_model.specs.AskingForms.{form_of_trail}
use Rattle.wb_model.specs.Tables.{context, newest_form}
use Rattle.wb_model.specs.Trails as trails
use Rattle.wb_tables.specs.Places.{AreGoodForms}

some_same : {X : Type 0} (a b : X) → Some a ≡ Some b → a ≡ b
some_same a b e = cc e

-- what is so of each context of a sound registry is so of one that is found
abbrev pub IsSoundContext : ContextItem → Type 0
IsSoundContext c = (1 ≤ c.retention) × (c.retention ≤ 3_650) × (are_readers c.recipients ≡ true)

pub sound_context : (id : ℕ) (c : ContextItem) (cs : List ContextItem) → context id cs ≡ Some c → AreSound cs → IsSoundContext c
sound_context id c [] e all = absurd cc
sound_context id c (x ∷ xs) e all = by (λ f. sound_context id c xs f all.1) (eqb x.id id) e
  where
    by : (context id xs ≡ Some c → IsSoundContext c) → (b : Bool) → cond b (Some x) (context id xs) ≡ Some c → IsSoundContext c
    by later true f = subst IsSoundContext (some_same x c f) all.0
    by later false f = later f

-- a context has at most 32 recipients
pub few_readers : (us : List ℕ) → are_readers us ≡ true → length us ≤ 32
few_readers us e = by (nat_le 1 (length us)) (nat_le (length us) 32) (ascends us) refl e
  where
    by : (a b d : Bool) → nat_le (length us) 32 ≡ b → (a && b && d) ≡ true → length us ≤ 32
    by true true d f g = grind (arith, nat_tests, f)
    by true false d f g = absurd cc
    by false b d f g = absurd cc

-- the newest version of a form is at most 99
later_version : (f : ℕ) (item : FormItem) (before : Option FormItem) (xs : List FormItem) → (before ≡ Some item → item.version ≤ 99) → AreVersions xs → fold (λ b (x : FormItem). if x.id == f then Some x else b) before xs ≡ Some item → item.version ≤ 99
later_version f item before [] here all e = here e
later_version f item before (x ∷ xs) here all e = later_version f item (if x.id == f then Some x else before) xs (by (eqb x.id f)) all.1 e
  where
    by : (b : Bool) → cond b (Some x) before ≡ Some item → item.version ≤ 99
    by true k = subst (λ (y : FormItem). y.version ≤ 99) (some_same x item k) all.0.1
    by false k = here k

pub newest_version : (f : ℕ) (item : FormItem) (forms : List FormItem) → newest_form f forms ≡ Some item → AreVersions forms → item.version ≤ 99
newest_version f item forms e all = later_version f item None forms (λ k. absurd cc) all e

-- the form of a report is good where all are
found_good : (p : FormItem → Bool) (forms : List FormItem) (item : FormItem) → AreGoodForms forms → find p forms ≡ Some item → is_good item.form ≡ true
found_good p [] item all e = absurd cc
found_good p (x ∷ xs) item all e = by (λ f. found_good p xs item all.1 f) (p x) e
  where
    by : (find p xs ≡ Some item → is_good item.form ≡ true) → (b : Bool) → cond b (Some x) (find p xs) ≡ Some item → is_good item.form ≡ true
    by later true f = (let same : x ≡ item = cc in subst (λ (y : FormItem). is_good y.form ≡ true) same all.0)
    by later false f = later f

pub trail_form_good : (trail : List Entry) (forms : List FormItem) (item : FormItem) → AreGoodForms forms → form_of_trail trail forms ≡ Some item → is_good item.form ≡ true
trail_form_good trail forms item all e = found_good (λ x. (x.id == trails.form trail) && (x.version == trails.version trail)) forms item all e
