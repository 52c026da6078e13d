-- What the rules of a setup, and those of kept rows, let through is what a host may be opened with.
use Rattle.wb_base.specs.Calendars.{are_holidays}
use Rattle.std.proofs.Common.{◌≡◌, ℕ, ◌≤◌, Bool, true, false, cond, eqb, not, List, [], ◌∷◌, Some, None, refl, sym, ap, ◌∙◌, subst, arith}
use Rattle.std.specs.Prelude.{◌==◌, ◌&&◌, ◌||◌, nat_lt, nat_le, map, filter, find, is_some, unwrap_or}
use Rattle.std.specs.List.{list_all, list_any}
use Rattle.std.proofs.lemmas.Bool.Decides.{nat_tests}
use Rattle.wb_base.specs.declared.words.Digest.{Digest}
use Rattle.wb_base.specs.AnswerList.{is_text}
use Rattle.wb_base.specs.FormFaults.{is_good}
use Rattle.wb_model.specs.declared.registry.ContextItem.{ContextItem}
use Rattle.wb_model.specs.declared.registry.FormItem.{FormItem}
use Rattle.wb_model.specs.declared.registry.Lists.{Lists}
use Rattle.wb_model.specs.declared.registry.TenantItem.{TenantItem}
use Rattle.wb_model.specs.declared.registry.UserItem.{UserItem}
use Rattle.wb_model.specs.Settings.{form_key}
use Rattle.wb_model.specs.Trails.{receipt}
use Rattle.wb_model.specs.Tables.{Registry, Case, has_receipt}
use Rattle.wb_model.specs.AskingForms.{form_of_trail}
use Rattle.wb_model.specs.Host.{Tables}
use Rattle.wb_model.specs.Fits.{is_between, has_bytes}
use Rattle.wb_model.specs.Legal.{Reckoning, reckoning, ascends, ascends_from, are_readers, is_legal, last_at, AreSound, IsSound, AreLegal}
use Rattle.wb_model.specs.Opened.{Ascend, AtMost, AreVersions, AreOrdered, Apart, begun, AreBegunBy, HaveForms, AreOpened}
use Rattle.wb_model.specs.SetUps.{is_offset, is_tenant_item, is_form_item, is_context_item, are_apart, is_user_before, is_version_before, is_context_before, AreSetUp}
use Rattle.wb_model.specs.Ordered.{are_ordered}
use Rattle.wb_model.specs.KeptRules.{same_receipt, AreKept}
use Rattle.wb_model.specs.Openings.{no_settings, registry_of, empty_tables}
use Rattle.wb_model.proofs.Receipts.{same_text}
use Rattle.wb_model.proofs.EmptyOpenings.{empty_opened}

-- ---- parts

both : (a b : Bool) → (a && b) ≡ true → (a ≡ true) × (b ≡ true)
both true true e = (refl, refl)
both true false e = absurd (grind (arith, e))
both false b e = absurd (grind (arith, e))

at_most : (a b : ℕ) → nat_le a b ≡ true → a ≤ b
at_most a b e = grind (arith, nat_tests, e)

third : (a b c d e f : Bool) → (a && b && c && d && e && f) ≡ true → c ≡ true
third a b c d e f is = (both (a && b) c (both (a && b && c) d (both (a && b && c && d) e (both (a && b && c && d && e) f is).0).0).0).1

notice_in : (x : TenantItem) → is_tenant_item x ≡ true → x.notice_days ≤ 30
notice_in x e = at_most x.notice_days 30 (third (is_between 1 64 x.tenant) (has_bytes 1 128 x.name) (nat_le x.notice_days 30) (is_offset x.offset) (is_between 1 100_000 x.quota) (are_holidays x.calendar.holidays) e)

context_in : (x : ContextItem) → is_context_item x ≡ true → (1 ≤ x.retention) × (x.retention ≤ 3_650) × (are_readers x.recipients ≡ true)
context_in x e =
    let whole = both (is_between 1 64 x.id && has_bytes 1 128 x.name && is_between 1 3_650 x.retention) (are_readers x.recipients) e in
    let days = both (nat_le 1 x.retention) (nat_le x.retention 3_650) (both (is_between 1 64 x.id && has_bytes 1 128 x.name) (is_between 1 3_650 x.retention) whole.0).1 in
    (at_most 1 x.retention days.0, at_most x.retention 3_650 days.1, whole.1)

contexts_in : (cs : List ContextItem) → list_all is_context_item cs ≡ true → AreSound cs
contexts_in [] e = tt
contexts_in (c ∷ cs) e = let parts = both (is_context_item c) (list_all is_context_item cs) e in (context_in c parts.0, contexts_in cs parts.1)

-- ---- setups

filter_all : {X : Type 0} (p q : X → Bool) (xs : List X) → list_all q xs ≡ true → list_all q (filter p xs) ≡ true
filter_all p q [] e = refl
filter_all p q (x ∷ xs) e = by (p x) (both (q x) (list_all q xs) e) (filter_all p q xs (both (q x) (list_all q xs) e).1)
  where
    by : (b : Bool) → (q x ≡ true) × (list_all q xs ≡ true) → list_all q (filter p xs) ≡ true → list_all q (cond b (x ∷ filter p xs) (filter p xs)) ≡ true
    by true h ih = ap (λ b. b && list_all q (filter p xs)) h.0 ∙ ih
    by false h ih = ih

found_notice : (t : ℕ) (xs : List TenantItem) → list_all is_tenant_item xs ≡ true → (unwrap_or (find (λ (x : TenantItem). x.tenant == t) xs) (no_settings t)).notice_days ≤ 30
found_notice t [] e = omega arith
found_notice t (x ∷ xs) e = by (eqb x.tenant t) (found_notice t xs (both (is_tenant_item x) (list_all is_tenant_item xs) e).1)
  where
    by : (b : Bool) → (unwrap_or (find (λ (y : TenantItem). y.tenant == t) xs) (no_settings t)).notice_days ≤ 30 → (unwrap_or (cond b (Some x) (find (λ (y : TenantItem). y.tenant == t) xs)) (no_settings t)).notice_days ≤ 30
    by true ih = notice_in x (both (is_tenant_item x) (list_all is_tenant_item xs) e).0
    by false ih = ih

forms_in : (xs : List FormItem) → list_all is_form_item xs ≡ true → AreVersions xs
forms_in [] e = tt
forms_in (x ∷ xs) e =
    let parts = both (is_form_item x) (list_all is_form_item xs) e in
    let version = both (is_between 1 16 x.id) (is_between 1 99 x.version) (both (is_between 1 16 x.id && is_between 1 99 x.version) (is_good x.form) parts.0).0 in
    let range = both (nat_le 1 x.version) (nat_le x.version 99) version.1 in
    ((at_most 1 x.version range.0, at_most x.version 99 range.1), forms_in xs parts.1)

registry_versions : (lists : Lists) (t : ℕ) → AreSetUp lists → AreVersions (registry_of lists t).forms
registry_versions lists t up = forms_in (filter (λ (x : FormItem). x.tenant == t) lists.forms) (filter_all (λ (x : FormItem). x.tenant == t) is_form_item lists.forms up.forms)

-- one tenant's part of a list that is in order is in order
ordered_from : {X : Type 0} (tenant key : X → ℕ) (is_before : X → X → Bool) (t : ℕ) → ((x y : X) → is_before x y ≡ true → tenant x ≡ t → tenant y ≡ t → nat_lt (key x) (key y) ≡ true) →
    (x : X) → tenant x ≡ t → (ys : List X) → list_all (is_before x) ys ≡ true → are_ordered is_before ys ≡ true → ascends_from (key x) (map key (filter (λ (y : X). tenant y == t) ys)) ≡ true
ordered_from tenant key is_before t up x here [] all order = refl
ordered_from {X} tenant key is_before t up x here (y ∷ ys) all order =
    let first = both (is_before x y) (list_all (is_before x) ys) all in
    let rest = both (list_all (is_before y) ys) (are_ordered is_before ys) order in
    by (tenant y == t) refl (λ there. ordered_from tenant key is_before t up y there ys rest.0 rest.1) (ordered_from tenant key is_before t up x here ys first.1 rest.1) (λ there. up x y first.0 here there)
  where
    by : (b : Bool) → (tenant y == t) ≡ b → (tenant y ≡ t → ascends_from (key y) (map key (filter (λ (z : X). tenant z == t) ys)) ≡ true) → ascends_from (key x) (map key (filter (λ (z : X). tenant z == t) ys)) ≡ true → (tenant y ≡ t → nat_lt (key x) (key y) ≡ true) →
        ascends_from (key x) (map key (cond b (y ∷ filter (λ (z : X). tenant z == t) ys) (filter (λ (z : X). tenant z == t) ys))) ≡ true
    by true is own ih lt = let there : tenant y ≡ t = grind (arith, nat_tests, is) in ap (λ b. b && ascends_from (key y) (map key (filter (λ (z : X). tenant z == t) ys))) (lt there) ∙ own there
    by false is own ih lt = ih

tenant_ordered : {X : Type 0} (tenant key : X → ℕ) (is_before : X → X → Bool) (t : ℕ) → ((x y : X) → is_before x y ≡ true → tenant x ≡ t → tenant y ≡ t → nat_lt (key x) (key y) ≡ true) →
    (xs : List X) → are_ordered is_before xs ≡ true → ascends (map key (filter (λ (x : X). tenant x == t) xs)) ≡ true
tenant_ordered tenant key is_before t up [] order = refl
tenant_ordered {X} tenant key is_before t up (x ∷ xs) order =
    let parts = both (list_all (is_before x) xs) (are_ordered is_before xs) order in
    by (tenant x == t) refl (λ there. ordered_from tenant key is_before t up x there xs parts.0 parts.1) (tenant_ordered tenant key is_before t up xs parts.1)
  where
    by : (b : Bool) → (tenant x == t) ≡ b → (tenant x ≡ t → ascends_from (key x) (map key (filter (λ (z : X). tenant z == t) xs)) ≡ true) → ascends (map key (filter (λ (z : X). tenant z == t) xs)) ≡ true →
        ascends (map key (cond b (x ∷ filter (λ (z : X). tenant z == t) xs) (filter (λ (z : X). tenant z == t) xs))) ≡ true
    by true is own ih = own (grind (arith, nat_tests, is))
    by false is own ih = ih

before_in : (a b k l t : ℕ) → (nat_lt a b || ((a == b) && nat_lt k l)) ≡ true → a ≡ t → b ≡ t → nat_lt k l ≡ true
before_in a b k l t e here there = let same : a ≡ b = here ∙ sym there in grind (arith, nat_tests, e, same)

registry_ordered : (lists : Lists) (t : ℕ) → AreSetUp lists → AreOrdered (registry_of lists t)
registry_ordered lists t up = record {
  users = tenant_ordered (λ (x : UserItem). x.tenant) (λ (x : UserItem). x.id) is_user_before t (λ x y e here there. before_in x.tenant y.tenant x.id y.id t e here there) lists.users up.user_ids;
  forms = tenant_ordered (λ (x : FormItem). x.tenant) form_key is_version_before t (λ x y e here there. before_in x.tenant y.tenant (form_key x) (form_key y) t e here there) lists.forms up.versions;
  contexts = tenant_ordered (λ (x : ContextItem). x.tenant) (λ (x : ContextItem). x.id) is_context_before t (λ x y e here there. before_in x.tenant y.tenant x.id y.id t e here there) lists.contexts up.context_ids;
}

registry_sound : (lists : Lists) (t : ℕ) → AreSetUp lists → IsSound (registry_of lists t)
registry_sound lists t up = record {
  notice = found_notice t lists.tenants up.tenants;
  contexts = contexts_in (filter (λ (x : ContextItem). x.tenant == t) lists.contexts) (filter_all (λ (x : ContextItem). x.tenant == t) is_context_item lists.contexts up.contexts);
}

pub set_up_opened : (lists : Lists) → AreSetUp lists → (t : ℕ) → AreOpened 0 (empty_tables (registry_of lists t))
set_up_opened lists up t = empty_opened 0 (registry_of lists t) (registry_sound lists t up) (registry_versions lists t up) (registry_ordered lists t up)

-- ---- kept rows

kept_ascend : (k : ℕ) (cs : List Case) → ascends_from k (map (λ (c : Case). c.number) cs) ≡ true → Ascend k cs
kept_ascend k [] e = tt
kept_ascend k (c ∷ cs) e =
    let parts = both (nat_lt k c.number) (ascends_from c.number (map (λ (x : Case). x.number) cs)) e in
    (grind (arith, nat_tests, parts.0), kept_ascend c.number cs parts.1)

kept_most : (last : ℕ) (cs : List Case) → list_all (λ (c : Case). nat_le c.number last) cs ≡ true → AtMost last cs
kept_most last [] e = tt
kept_most last (c ∷ cs) e = let parts = both (nat_le c.number last) (list_all (λ (x : Case). nat_le x.number last) cs) e in (at_most c.number last parts.0, kept_most last cs parts.1)

kept_begun : (at : ℕ) (cs : List Case) → list_all (λ (c : Case). nat_le (begun c.trail) at) cs ≡ true → AreBegunBy at cs
kept_begun at [] e = tt
kept_begun at (c ∷ cs) e = let parts = both (nat_le (begun c.trail) at) (list_all (λ (x : Case). nat_le (begun x.trail) at) cs) e in (at_most (begun c.trail) at parts.0, kept_begun at cs parts.1)

kept_legal : (days : Reckoning) (at : ℕ) (cs : List Case) → list_all (λ (c : Case). is_legal days c.trail) cs ≡ true → list_all (λ (c : Case). nat_le (last_at 0 c.trail) at) cs ≡ true → AreLegal days at cs
kept_legal days at [] e f = tt
kept_legal days at (c ∷ cs) e f =
    let legal = both (is_legal days c.trail) (list_all (λ (x : Case). is_legal days x.trail) cs) e in
    let past = both (nat_le (last_at 0 c.trail) at) (list_all (λ (x : Case). nat_le (last_at 0 x.trail) at) cs) f in
    ((legal.0, at_most (last_at 0 c.trail) at past.0), kept_legal days at cs legal.1 past.1)

kept_forms : (forms : List FormItem) (cs : List Case) → list_all (λ (c : Case). is_some (form_of_trail c.trail forms)) cs ≡ true → HaveForms forms cs
kept_forms forms [] e = tt
kept_forms forms (c ∷ cs) e = let parts = both (is_some (form_of_trail c.trail forms)) (list_all (λ (x : Case). is_some (form_of_trail x.trail forms)) cs) e in (parts.0, kept_forms forms cs parts.1)

none_other : (c : Case) (cs : List Case) (k : Digest) → list_any (same_receipt c) cs ≡ false → has_receipt k c ≡ true → find (has_receipt k) cs ≡ None
none_other c [] k e is = refl
none_other c (d ∷ cs) k e is = by (has_receipt k d) refl (same_receipt c d) refl e (none_other c cs k)
  where
    by : (b : Bool) → has_receipt k d ≡ b → (x : Bool) → same_receipt c d ≡ x → (x || list_any (same_receipt c) cs) ≡ false → (list_any (same_receipt c) cs ≡ false → has_receipt k c ≡ true → find (has_receipt k) cs ≡ None) → cond b (Some d) (find (has_receipt k) cs) ≡ None
    by b h true g f ih = absurd (grind (arith, f))
    by false h false g f ih = ih f is
    by true h false g f ih =
        let one : receipt c.trail ≡ k.0 = same_text (receipt c.trail) k.0 is in
        let other : receipt d.trail ≡ k.0 = same_text (receipt d.trail) k.0 h in
        absurd (let bad : false ≡ true = sym g ∙ (ap (λ r. is_text r (receipt d.trail)) (one ∙ sym other) ∙ (ap (λ r. is_text r (receipt d.trail)) other ∙ (ap (is_text k.0) other ∙ (ap (λ r. is_text r k.0) (sym other) ∙ h)))) in grind (arith, bad))

kept_apart : (cs : List Case) → are_apart same_receipt cs ≡ true → Apart has_receipt cs
kept_apart [] e = tt
kept_apart (c ∷ cs) e =
    let parts = both (not (list_any (same_receipt c) cs)) (are_apart same_receipt cs) e in
    ((λ k is. none_other c cs k (grind (arith, parts.0)) is), kept_apart cs parts.1)

pub kept_opened : (at : ℕ) (lists : Lists) (tenant : ℕ) (t : Tables) → AreKept at lists tenant t → AreOpened at t
kept_opened at lists tenant t kept = record {
  sound = subst IsSound (sym kept.registry) (registry_sound lists tenant kept.set_up);
  versions = subst (λ (g : Registry). AreVersions g.forms) (sym kept.registry) (registry_versions lists tenant kept.set_up);
  ordered = subst AreOrdered (sym kept.registry) (registry_ordered lists tenant kept.set_up);
  numbering = kept.numbering;
  drawn = at_most t.plain.numbering.at at kept.drawn;
  ascend = kept_ascend 0 t.plain.cases kept.keys;
  most = kept_most t.plain.numbering.last t.plain.cases kept.numbers;
  begun = kept_begun t.plain.numbering.at t.plain.cases kept.begun;
  legal = kept_legal (reckoning t.plain.registry.settings) at t.plain.cases kept.legal kept.entries;
  forms = kept_forms t.plain.registry.forms t.plain.cases kept.forms;
  receipts = kept_apart t.plain.cases kept.receipts;
  marks = kept.marks;
  sessions = kept.sessions;
}
