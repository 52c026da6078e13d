-- What is found among what passes a test: what was found, where that passes.
use Rattle.std.proofs.Common.{◌≡◌, ℕ, ℤ, Bor, Bool, true, false, cond, List, [], ◌∷◌, map, find, Option, Some, None, refl, sym, ap, ◌∙◌, subst}
use Rattle.std.specs.Prelude.{filter, ◌&&◌, ◌||◌, option_and_then, option_map, is_some, if◌then◌else◌, IfSome}
use Rattle.wb_base.specs.declared.words.Digest.{Digest}
use Rattle.wb_model.specs.Access.{requests}
use Rattle.wb_model.specs.Tables.{Case, has_number, has_receipt, report, with_receipt, is_there, is_live}
use Rattle.wb_model.specs.Opened.{Apart}
use Rattle.wb_tables.specs.Kept.{case_of, plain_of, live_plain, lives_on}
use Rattle.wb_base.specs.Days.{day_of}
use Rattle.std.specs.Option.{option_copied}
use Rattle.wb_tables.specs.declared.tenancy.Report.{Report as KeptCase}
use Rattle.wb_tables.specs.declared.tenancy.Tenancy.{Tenancy as KeptTenancy}

abbrev pub kept : {X : Type 0} → (X → Bool) → Option X → Option X
kept Q None = None
kept Q (Some x) = if Q x then Some x else None

-- of the items with a key, of which there is one at most
pub find_under : {K X : Type 0} (P : K → X → Bool) (k : K) (D Q : X → Bool) (xs : List X) → Apart P xs → find (λ x. P k x && D x) (filter Q xs) ≡ kept (λ x. D x && Q x) (find (P k) xs)
find_under P k D Q [] o = refl
find_under {K} {X} P k D Q (x ∷ xs) o = let rest = find_under P k D Q xs o.1 in by rest (λ is. rest ∙ ap (kept (λ y. D y && Q y)) (o.0 k is)) (P k x) (D x) (Q x) refl refl refl
  where
    by : (rest : find (λ y. P k y && D y) (filter Q xs) ≡ kept (λ y. D y && Q y) (find (P k) xs)) → (none : P k x ≡ true → find (λ y. P k y && D y) (filter Q xs) ≡ None) → (a d q : Bool) → P k x ≡ a → D x ≡ d → Q x ≡ q → find (λ y. P k y && D y) (cond q (x ∷ filter Q xs) (filter Q xs)) ≡ kept (λ y. D y && Q y) (cond a (Some x) (find (P k) xs))
    by rest none true true true a d q = rw (a, d, q) refl
    by rest none true true false a d q = rw (d, q) (none a)
    by rest none true false true a d q = rw (a, d) (none a)
    by rest none true false false a d q = rw d (none a)
    by rest none false d true a e q = rw a rest
    by rest none false d false a e q = rest

pub find_kept : {K X : Type 0} (P : K → X → Bool) (k : K) (Q : X → Bool) (xs : List X) → Apart P xs → find (P k) (filter Q xs) ≡ kept Q (find (P k) xs)
find_kept P k Q [] o = refl
find_kept {K} {X} P k Q (x ∷ xs) o = by (find_kept P k Q xs o.1) (P k x) (Q x) refl refl
  where
    by : (rest : find (P k) (filter Q xs) ≡ kept Q (find (P k) xs)) → (a q : Bool) → P k x ≡ a → Q x ≡ q → find (P k) (cond q (x ∷ filter Q xs) (filter Q xs)) ≡ kept Q (cond a (Some x) (find (P k) xs))
    by rest true true a q = rw (a, q) refl
    by rest true false a q = rw q (rest ∙ ap (kept Q) (o.0 k a))
    by rest false true a q = rw a rest
    by rest false false a q = rest

-- ---- reports

-- what the code found, of the reports with a key, of which there is one at most
kept_live : {K : Type 0} (P : K → Case → Bool) (k : K) (x : KeptTenancy) (time : ℕ) (today : ℤ) (o : Option KeptCase) → Apart P (plain_of x).cases → today ≡ day_of time x.configuration.registry.settings.offset → option_map case_of o ≡ find (P k) (map case_of x.cases.items)
    → kept (lives_on today) (option_map case_of o) ≡ find (P k) (live_plain time (plain_of x)).cases
kept_live P k x time today o apart day found =
    ap (λ d. kept (lives_on d) (option_map case_of o)) day ∙ (ap (kept (is_live x.configuration.registry.settings time)) found ∙ sym (find_kept P k (is_live x.configuration.registry.settings time) (map case_of x.cases.items) apart))

pub report_kept : (x : KeptTenancy) (time n : ℕ) (today : ℤ) (o : Option KeptCase) → Apart has_number (plain_of x).cases → today ≡ day_of time x.configuration.registry.settings.offset → option_map case_of o ≡ report n (map case_of x.cases.items)
    → kept (lives_on today) (option_map case_of o) ≡ report n (live_plain time (plain_of x)).cases
report_kept x time n today o apart day found = kept_live has_number n x time today o apart day found

pub receipt_kept : (x : KeptTenancy) (time : ℕ) (d : Digest) (today : ℤ) (o : Option KeptCase) → Apart has_receipt (plain_of x).cases → today ≡ day_of time x.configuration.registry.settings.offset → option_map case_of o ≡ with_receipt d (map case_of x.cases.items)
    → kept (lives_on today) (option_map case_of o) ≡ with_receipt d (live_plain time (plain_of x)).cases
receipt_kept x time d today o apart day found = kept_live has_receipt d x time today o apart day found

-- what was found, where it lives
abbrev Living : ℤ → Option (Bor KeptCase) → Option (Bor KeptCase) → Type 0
Living today found o = o ≡ option_and_then (λ (r : Bor KeptCase). if lives_on today (case_of r.now) then Some r else None) found

living_kept : (today : ℤ) (found : Option (Bor KeptCase)) → option_map case_of (option_copied (option_and_then (λ (r : Bor KeptCase). if lives_on today (case_of r.now) then Some r else None) found)) ≡ kept (lives_on today) (option_map case_of (option_copied found))
living_kept today None = refl
living_kept today (Some r) = by (lives_on today (case_of r.now))
  where
    by : (b : Bool) → option_map case_of (option_copied (cond b (Some r) None)) ≡ cond b (Some (case_of r.now)) None
    by true = refl
    by false = refl

pub living_found : (today : ℤ) (found o : Option (Bor KeptCase)) → Living today found o → {w : Option Case} → kept (lives_on today) (option_map case_of (option_copied found)) ≡ w → option_map case_of (option_copied o) ≡ w
living_found today found o is e = ap (λ p. option_map case_of (option_copied p)) is ∙ (living_kept today found ∙ e)

abbrev Custodied : Option (Bor KeptCase) → Type 0
Custodied o = IfSome o (λ (r : Bor KeptCase). r.now.desk.items ≡ requests r.now.case.items)

living_still : (today : ℤ) (found : Option (Bor KeptCase)) → Custodied found → Custodied (option_and_then (λ (r : Bor KeptCase). if lives_on today (case_of r.now) then Some r else None) found)
living_still today None all = tt
living_still today (Some r) all = by (lives_on today (case_of r.now))
  where
    by : (b : Bool) → Custodied (cond b (Some r) None)
    by true = all
    by false = tt

pub living_custodied : (today : ℤ) (found o : Option (Bor KeptCase)) → Living today found o → Custodied found → Custodied o
living_custodied today found o is all = subst Custodied (sym is) (living_still today found all)

pub there-found : (n : ℕ) (cs : List Case) → is_there n cs ≡ is_some (report n cs)
there-found n [] = refl
there-found n (c ∷ cs) = by (there-found n cs) (has_number n c) refl
  where
    by : is_there n cs ≡ is_some (report n cs) → (b : Bool) → has_number n c ≡ b → (b || is_there n cs) ≡ is_some (cond b (Some c) (report n cs))
    by rest true e = refl
    by rest false e = rest

some_mapped : {X Y : Type 0} (f : X → Y) (o : Option X) → is_some (option_map f o) ≡ is_some o
some_mapped f None = refl
some_mapped f (Some x) = refl

some_copied : {X : Type 0} (o : Option (Bor X)) → is_some (option_copied o) ≡ is_some o
some_copied None = refl
some_copied (Some x) = refl

-- whether a report was found
pub there_found : (n : ℕ) (cs : List Case) (o : Option (Bor KeptCase)) → option_map case_of (option_copied o) ≡ report n cs → is_some o ≡ is_there n cs
there_found n cs o found = sym (some_copied o) ∙ (sym (some_mapped case_of (option_copied o)) ∙ (ap is_some found ∙ sym (there-found n cs)))
