-- Each value that tenants hold is in its range.
use Rattle.std.proofs.Common.{◌≡◌, inl, inr, ℕ, ◌+◌, ◌≤◌, ◌<◌, Bool, true, false, not, List, [], ◌∷◌, ◌++◌, Option, Some, None, refl, sym, ap, ◌∙◌, subst, arith}
use Rattle.std.specs.Prelude.{map, is_some, is_none, nat_le, length, unwrap_or, option_map, ◌&&◌, ◌==◌}
use Rattle.std.specs.List.{list_all, list_any}
use Rattle.std.specs.Option.{option_map_or}
use Rattle.std.proofs.lemmas.Bool.{and_parts, and_from, le-leb}
use Rattle.std.proofs.lemmas.Int.{ints}
use Rattle.std.proofs.lemmas.Bool.Decides.{nat_tests}
use Rattle.std.proofs.lemmas.List.Folds.{list_all-append, list_all-map}
use Rattle.std.specs.Prelude.{ℤ, int_le, neg_ℤ, pos}
use Rattle.wb_base.specs.AnswerList.{Answered}
use Rattle.wb_base.specs.Days.{IsOffset}
use Rattle.wb_base.specs.declared.callers.Role.TheVariants.{Recipient}
use Rattle.wb_base.specs.FormFaults.{is_good as is_good_form}
use Rattle.wb_custody.specs.declared.sealed.SealedItem.{SealedItem}
use Rattle.wb_row_codec.specs.declared.item.EntryItem.{EntryItem}
use Rattle.wb_row_codec.specs.declared.item.Item.{Item}
use Rattle.wb_row_codec.specs.declared.item.Item.TheVariants as items
use Rattle.wb_row_codec.specs.declared.item.NumberingItem.{NumberingItem}
use Rattle.wb_row_codec.specs.Good.{is_tenant, is_moment, is_actor, is_deed, is_entry, is_numbering, is_dated, is_in, are_users, is_good}
use Rattle.wb_model.specs.declared.entry.Actor.{Actor}
use Rattle.wb_model.specs.declared.entry.Actor.TheVariants as actors
use Rattle.wb_model.specs.declared.entry.Deed.{Deed}
use Rattle.wb_model.specs.declared.entry.Deed.TheVariants as deeds
use Rattle.wb_model.specs.declared.entry.Entry.{Entry}
use Rattle.wb_model.specs.declared.numbering.Numbering.{Numbering}
use Rattle.wb_model.specs.declared.registry.ContextItem.{ContextItem}
use Rattle.wb_model.specs.declared.registry.FormItem.{FormItem}
use Rattle.wb_model.specs.declared.registry.TenantItem.{TenantItem}
use Rattle.wb_model.specs.declared.registry.UserItem.{UserItem}
use Rattle.wb_model.specs.DeedFields.{TextOrNull}
use Rattle.wb_model.specs.Fits.{is_between, has_bytes, is_staff_role}
use Rattle.wb_model.specs.KeptRules.{is_of_channel, role_of, is_doer, users_in, is_named, has_public_answers, are_valid_after}
use Rattle.wb_model.specs.LeftLists.{of_each, lists_of}
use Rattle.wb_model.specs.Legal.{Reckoning, reckoning, ascends, are_readers, is_legal, last_at, LegalCase, AreLegal}
use Rattle.wb_model.specs.Opened.{Ascend, AreOpened}
use Rattle.wb_model.specs.Opened as model
use Rattle.wb_base.specs.Calendars.{ascend, are_holidays}
use Rattle.wb_model.specs.AnswerRanges.{are_answers}
use Rattle.wb_model.specs.Readable.{are_bytes, is_stored_tenant, is_count, is_withheld, is_own_form, has_id_of, IsOwn, is_stored, is_entry_of, are_sealed, is_readable, AreReadable}
use Rattle.wb_model.specs.Requests.{submission_fault, mark}
use Rattle.wb_model.specs.AskingForms.{form_of_trail}
use Rattle.wb_model.specs.Reopened.{without_sessions}
use Rattle.wb_model.specs.Settings.{is_recipient}
use Rattle.wb_model.specs.SetUps.{is_offset, is_tenant_item, is_user_item, is_form_item, is_context_item}
use Rattle.wb_model.specs.Tables.{Registry, Case, user, context, same_role}
use Rattle.wb_model.specs.Tenants.{Tenancy}
use Rattle.wb_model.specs.Trails as trails
use Rattle.wb_model.specs.Trails.{Submission, submission_in, context_in}
use Rattle.wb_model.proofs.Found.{Held as In, find_held, find_true}
use Rattle.wb_model.proofs.ItemPuts.{held_all, all_held, all_more}
use Rattle.wb_model.proofs.LeftSetUps.{ids, each_held, map_all, some_of, settings_parts, user_parts, form_parts, context_parts}
use Rattle.wb_model.proofs.TurnRows.{map_held}
use Rattle.wb_rows.specs.Reports.{Report}
use Rattle.wb_rows.specs.HeldItems.{trail_items, report_items, entry_items, sealed_item, sealed_items, items_of}
use Rattle.wb_rows.specs.Left.{numbering_item, report_in, reports_in, held_of}
use Rattle.wb_rows.proofs.DatedTrails.{is_of_moment, is_dated_deed, is_timed, moment_dated, trail_dated}
use Rattle.wb_rows.proofs.LeftTables.{own, order, sealed_back}
use Rattle.wb_rows.proofs.ReportsBack.{entries_all, seals_all}
use Rattle.wb_rows.proofs.WholeTrails.{AreSilent, begins_so, public-first}

-- ---- who and what is named

user_ranged : (t : ℕ) (g : Registry) (u : ℕ) → IsOwn t g → is_some (user u g.users) ≡ true → is_between 1 256 u ≡ true
user_ranged t g u is_own there = by (user u g.users) refl there
  where
    by : (o : Option UserItem) → user u g.users ≡ o → is_some o ≡ true → is_between 1 256 u ≡ true
    by None e f = absurd (grind (arith, f))
    by (Some x) e f =
        let is = held_all _ g.users x is_own.users (find_held (λ (y : UserItem). y.id == u) g.users x e) in
        let a = and_parts ((x.tenant == t) && is_user_item x) (are_bytes 32 x.secret.0) is in
        let b = and_parts (x.tenant == t) (is_user_item x) a.0 in
        let c = and_parts (is_between 1 256 x.id && has_bytes 1 64 x.name && is_staff_role x.role) (nat_le x.disabled 10_000) b.1 in
        let d = and_parts (is_between 1 256 x.id && has_bytes 1 64 x.name) (is_staff_role x.role) c.0 in
        let range = (and_parts (is_between 1 256 x.id) (has_bytes 1 64 x.name) d.0).0 in
        let id : (x.id == u) ≡ true = find_true (λ (y : UserItem). y.id == u) g.users x e in
        let same : x.id ≡ u = grind (arith, nat_tests, id) in
        subst (λ n. is_between 1 256 n ≡ true) same range

users_ranged : (t : ℕ) (g : Registry) (us : List ℕ) → IsOwn t g → list_all (λ u. is_some (user u g.users)) us ≡ true → are_users us ≡ true
users_ranged t g us is_own all = all_more (λ u. is_some (user u g.users)) (is_between 1 256) us (λ u k. user_ranged t g u is_own k) all

context_ranged : (t : ℕ) (g : Registry) (c : ℕ) → IsOwn t g → is_some (context c g.contexts) ≡ true → is_between 1 64 c ≡ true
context_ranged t g c is_own there = by (context c g.contexts) refl there
  where
    by : (o : Option ContextItem) → context c g.contexts ≡ o → is_some o ≡ true → is_between 1 64 c ≡ true
    by None e f = absurd (grind (arith, f))
    by (Some x) e f =
        let is = held_all _ g.contexts x is_own.contexts (find_held (λ (y : ContextItem). y.id == c) g.contexts x e) in
        let a = and_parts ((x.tenant == t) && is_context_item x && list_any (has_id_of x.form) g.forms) (list_all (is_recipient g.users) x.recipients) is in
        let b = and_parts ((x.tenant == t) && is_context_item x) (list_any (has_id_of x.form) g.forms) a.0 in
        let d = and_parts (x.tenant == t) (is_context_item x) b.0 in
        let e1 = and_parts (is_between 1 64 x.id && has_bytes 1 128 x.name && is_between 1 3_650 x.retention) (are_readers x.recipients) d.1 in
        let e2 = and_parts (is_between 1 64 x.id && has_bytes 1 128 x.name) (is_between 1 3_650 x.retention) e1.0 in
        let range = (and_parts (is_between 1 64 x.id) (has_bytes 1 128 x.name) e2.0).0 in
        let id : (x.id == c) ≡ true = find_true (λ (y : ContextItem). y.id == c) g.contexts x e in
        let same : x.id ≡ c = grind (arith, nat_tests, id) in
        subst (λ n. is_between 1 64 n ≡ true) same range

actor_ranged : (t : ℕ) (g : Registry) (d : Deed) (by : Actor) → IsOwn t g → is_doer g.users d by ≡ true → is_actor by ≡ true
actor_ranged t g d actors.Reporter is_own is = refl
actor_ranged t g d (actors.User u) is_own is = user_ranged t g u is_own (there (user u g.users) is)
  where
    there : (o : Option UserItem) → option_map_or (λ (x : UserItem). same_role x.role (role_of d)) o false ≡ true → is_some o ≡ true
    there None f = absurd (grind (arith, f))
    there (Some x) f = refl

-- ---- an entry

-- a submission's form and version are in their ranges
abbrev Formed : Deed → Type 0
Formed d = (s : Submission) → submission_in d ≡ Some s → (is_between 1 16 s.form ≡ true) × (is_between 1 99 s.version ≡ true)

-- the last of the fields that are in their ranges
one : {b : Bool} → b ≡ true → b && true ≡ true
one is = and_from _ _ is refl

-- a number that is bounded above alone is from 0
from_none : (most n : ℕ) → nat_le n most ≡ true → is_between 0 most n ≡ true
from_none most n is = and_from _ _ (le-leb 0 n (omega arith)) is

withheld_in : (text : Option (List ℕ)) → is_withheld text ≡ true → is_in (TextOrNull 1 1_024) text ≡ true
withheld_in None is = refl
withheld_in (Some text) is = is

module _ (t : ℕ) (g : Registry) (is_own : IsOwn t g) where
  deed_good : (d : Deed) → list_all (λ u. is_some (user u g.users)) (users_in d) ≡ true → option_map_or (λ c. is_some (context c g.contexts)) (context_in d) true ≡ true → is_stored d ≡ true → is_dated_deed d ≡ true → Formed d → is_deed d ≡ true
  deed_good (deeds.Submitted ack_due answers c expires feedback_due form mark readers receipt received version) users in_context stored days formed =
      let s = and_parts (are_answers answers) (are_bytes 32 receipt.0) stored in
      let d1 = and_parts (is_dated ack_due && is_dated expires && is_dated feedback_due) (is_of_moment received) days in
      let d2 = and_parts (is_dated ack_due && is_dated expires) (is_dated feedback_due) d1.0 in
      let d3 = and_parts (is_dated ack_due) (is_dated expires) d2.0 in
      let f = formed _ refl in
      and_from _ _ d3.0 (and_from _ _ s.0 (and_from _ _ (context_ranged t g c is_own in_context) (and_from _ _ d3.1 (and_from _ _ d2.1 (and_from _ _ f.0 (and_from _ _ (users_ranged t g readers is_own users) (and_from _ _ s.1 (and_from _ _ (moment_dated received d1.1) (one f.1)))))))))
  deed_good deeds.Identity users in_context stored days formed = refl
  deed_good (deeds.Comment internal text) users in_context stored days formed = one stored
  deed_good (deeds.Label text) users in_context stored days formed = one stored
  deed_good (deeds.SetStatus status) users in_context stored days formed = one stored
  deed_good (deeds.Acknowledged day feedback_due) users in_context stored days formed = let d = and_parts (is_of_moment day) (is_dated feedback_due) days in and_from _ _ (moment_dated day d.0) (one d.1)
  deed_good (deeds.Feedback text) users in_context stored days formed = one stored
  deed_good (deeds.Shared u) users in_context stored days formed = one (user_ranged t g u is_own (and_parts (is_some (user u g.users)) true users).0)
  deed_good (deeds.Unshared u) users in_context stored days formed = one (user_ranged t g u is_own (and_parts (is_some (user u g.users)) true users).0)
  deed_good (deeds.Transferred c readers) users in_context stored days formed = and_from _ _ (context_ranged t g c is_own in_context) (one (users_ranged t g readers is_own users))
  deed_good (deeds.Postponed expires) users in_context stored days formed = one days
  deed_good (deeds.Extended feedback_due reason) users in_context stored days formed = and_from _ _ days (one stored)
  deed_good (deeds.Asked reason stamp) users in_context stored days formed =
      let a = and_parts (has_bytes 1 1_024 reason) (nat_le stamp 10_000) stored in
      and_from _ _ a.0 (one (from_none 10_000 stamp a.1))
  deed_good (deeds.Granted effective reason request withheld) users in_context stored days formed =
      let a = and_parts (has_bytes 1 1_024 reason && is_count request) (is_withheld withheld) stored in
      let b = and_parts (has_bytes 1 1_024 reason) (is_count request) a.0 in
      and_from _ _ (from_none 100_002_591_999 effective days) (and_from _ _ b.0 (and_from _ _ (from_none 4_294_967_295 request b.1) (one (withheld_in withheld a.1))))
  deed_good (deeds.Denied reason request) users in_context stored days formed =
      let a = and_parts (has_bytes 1 1_024 reason) (is_count request) stored in
      and_from _ _ a.0 (one (from_none 4_294_967_295 request a.1))
  deed_good (deeds.Revoked reason request) users in_context stored days formed =
      let a = and_parts (has_bytes 1 1_024 reason) (is_count request) stored in
      and_from _ _ a.0 (one (from_none 4_294_967_295 request a.1))

  entry_good : (e : Entry) → is_entry_of g e ≡ true → is_timed e ≡ true → Formed e.deed → is_entry e ≡ true
  entry_good e is timed formed =
      let whole = and_parts (is_named g e) (is_stored e.deed) is in
      let names = and_parts (is_of_channel g.settings.external e.deed && is_doer g.users e.deed e.by && list_all (λ u. is_some (user u g.users)) (users_in e.deed)) (option_map_or (λ c. is_some (context c g.contexts)) (context_in e.deed) true) whole.0 in
      let two = and_parts (is_of_channel g.settings.external e.deed && is_doer g.users e.deed e.by) (list_all (λ u. is_some (user u g.users)) (users_in e.deed)) names.0 in
      let doer = (and_parts (is_of_channel g.settings.external e.deed) (is_doer g.users e.deed e.by) two.0).1 in
      let time = and_parts (nat_le e.at 99_999_999_999) (is_dated_deed e.deed) timed in
      and_from _ _ (and_from _ _ time.0 (actor_ranged t g e.deed e.by is_own doer)) (deed_good e.deed two.1 names.1 whole.1 time.1 formed)

  first_formed : (e : Entry) → has_public_answers g.forms (e ∷ []) ≡ true → Formed e.deed
  first_formed e is s said = by (form_of_trail (e ∷ []) g.forms) refl is
    where
      by : (o : Option FormItem) → form_of_trail (e ∷ []) g.forms ≡ o → option_map_or (λ (y : FormItem). is_none (submission_fault y.form (trails.answers (e ∷ []))) && not (mark y.form (trails.answers (e ∷ [])))) o false ≡ true → (is_between 1 16 s.form ≡ true) × (is_between 1 99 s.version ≡ true)
      by None f k = absurd (grind (arith, k))
      by (Some x) f k =
          let test = find_true (λ (y : FormItem). (y.id == trails.form (e ∷ [])) && (y.version == trails.version (e ∷ []))) g.forms x f in
          let own_x = held_all (is_own_form t) g.forms x is_own.forms (find_held (λ (y : FormItem). (y.id == trails.form (e ∷ [])) && (y.version == trails.version (e ∷ []))) g.forms x f) in
          let a = and_parts (x.tenant == t) (is_form_item x) own_x in
          let b = and_parts (is_between 1 16 x.id && is_between 1 99 x.version) (is_good_form x.form) a.1 in
          let c = and_parts (is_between 1 16 x.id) (is_between 1 99 x.version) b.0 in
          let ids = and_parts (x.id == trails.form (e ∷ [])) (x.version == trails.version (e ∷ [])) test in (
            subst (λ n. is_between 1 16 n ≡ true) (number_is x.id (trails.form (e ∷ [])) ids.0 ∙ form_said) c.0,
            subst (λ n. is_between 1 99 n ≡ true) (number_is x.version (trails.version (e ∷ [])) ids.1 ∙ version_said) c.1,
          )
        where
          number_is : (a b : ℕ) → (a == b) ≡ true → a ≡ b
          number_is a b k = grind (arith, nat_tests, k)

          form_said : trails.form (e ∷ []) ≡ s.form
          form_said = ap (λ (o : Option Submission). unwrap_or (option_map (λ (z : Submission). z.form) o) 0) said

          version_said : trails.version (e ∷ []) ≡ s.version
          version_said = ap (λ (o : Option Submission). unwrap_or (option_map (λ (z : Submission). z.version) o) 0) said

  silent_good : (es : List Entry) → AreSilent es → list_all (is_entry_of g) es ≡ true → list_all is_timed es ≡ true → list_all is_entry es ≡ true
  silent_good [] silent all timed = refl
  silent_good (e ∷ es) silent all timed =
      let a = and_parts (is_entry_of g e) (list_all (is_entry_of g) es) all in
      let b = and_parts (is_timed e) (list_all is_timed es) timed in
      and_from _ _ (entry_good e a.0 b.0 (λ s said. absurd (let bad : None ≡ Some s = sym silent.0 ∙ said in grind (arith, bad)))) (silent_good es silent.1 a.1 b.1)

  trail_good : (days : Reckoning) (trail : List Entry) → is_legal days trail ≡ true → has_public_answers g.forms trail ≡ true → list_all (is_entry_of g) trail ≡ true → list_all is_timed trail ≡ true → list_all is_entry trail ≡ true
  trail_good days [] legal public all timed = refl
  trail_good days (e ∷ es) legal public all timed =
      let first = begins_so days e es legal in
      let a = and_parts (is_entry_of g e) (list_all (is_entry_of g) es) all in
      let b = and_parts (is_timed e) (list_all is_timed es) timed in
      and_from _ _ (entry_good e a.0 b.0 (first_formed e (sym (public-first e es first.1 g.forms) ∙ public))) (silent_good es first.1 a.1 b.1)

items_good : (t n place : ℕ) (es : List Entry) → is_tenant t ≡ true → nat_le 1 n ≡ true → 1 ≤ place → list_all is_entry es ≡ true → list_all (λ (x : EntryItem). is_good (items.Entry x)) (trail_items t n place es) ≡ true
items_good t n place [] a b c all = refl
items_good t n place (e ∷ es) a b c all =
    let parts = and_parts (is_entry e) (list_all is_entry es) all in
    and_from _ _ (and_from _ _ (and_from _ _ (and_from _ _ a b) (grind (arith, nat_tests, c))) parts.0) (items_good t n (place + 1) es a b (omega (arith, c)) parts.1)

offset_in : (z : ℤ) → is_offset z ≡ true → IsOffset z
offset_in z e =
    let parts = and_parts (int_le (neg_ℤ (pos 720)) z) (int_le z (pos 840)) e in
    ((let k = parts.0 in grind (arith, ints, k)), (let k = parts.1 in grind (arith, ints, k)))

case_legal : (days : Reckoning) (time : ℕ) (cs : List Case) (c : Case) → AreLegal days time cs → In c cs → LegalCase days time c
case_legal days time [] c legal h = absurd h
case_legal days time (x ∷ cs) c legal (inl e) = subst (LegalCase days time) (sym e) legal.0
case_legal days time (x ∷ cs) c legal (inr h) = case_legal days time cs c legal.1 h

number_above : (k : ℕ) (cs : List Case) (c : Case) → Ascend k cs → In c cs → k < c.number
number_above k [] c up h = absurd h
number_above k (x ∷ cs) c up (inl e) = subst (λ (z : Case). k < z.number) (sym e) up.0
number_above k (x ∷ cs) c up (inr h) = let more : x.number < c.number = number_above x.number cs c up.1 h in omega (arith, up.0, more)

module _ (at : ℕ) (small : at ≤ 99_999_999_999) (xs : List Tenancy) (up : ascends (ids xs) ≡ true) (readable : (x : Tenancy) → In x xs → AreReadable x.id x.tables) (opened : (x : Tenancy) → In x xs → AreOpened at (without_sessions x.tables)) where
  abbrev owned : (x : Tenancy) → In x xs → IsOwn x.id x.tables.plain.registry
  owned x h = (readable x h).registry

  settings_of : (x : Tenancy) → In x xs → (x.tables.plain.registry.settings.tenant ≡ x.id) × (is_tenant_item x.tables.plain.registry.settings ≡ true) × (is_stored_tenant x.tables.plain.registry.settings ≡ true)
  settings_of x h = settings_parts xs up (own at xs up readable opened) (order at xs up readable opened) x h

  settings_ranges : (x : TenantItem) → is_tenant_item x ≡ true → (is_between 1 64 x.tenant ≡ true) × (is_offset x.offset ≡ true) × (length x.calendar.holidays ≤ 64)
  settings_ranges x is =
      let h = and_parts (is_between 1 64 x.tenant && has_bytes 1 128 x.name && nat_le x.notice_days 30 && is_offset x.offset && is_between 1 100_000 x.quota) (are_holidays x.calendar.holidays) is in
      let few : nat_le (length x.calendar.holidays) 64 ≡ true = (and_parts (nat_le (length x.calendar.holidays) 64) (ascend x.calendar.holidays) h.1).0 in
      let a = and_parts (is_between 1 64 x.tenant && has_bytes 1 128 x.name && nat_le x.notice_days 30 && is_offset x.offset) (is_between 1 100_000 x.quota) h.0 in
      let b = and_parts (is_between 1 64 x.tenant && has_bytes 1 128 x.name && nat_le x.notice_days 30) (is_offset x.offset) a.0 in
      let c = and_parts (is_between 1 64 x.tenant && has_bytes 1 128 x.name) (nat_le x.notice_days 30) b.0 in
      ((and_parts (is_between 1 64 x.tenant) (has_bytes 1 128 x.name) c.0).0, b.1, grind (arith, nat_tests, few))

  tenant_in : (x : Tenancy) → In x xs → is_tenant x.id ≡ true
  tenant_in x h = let s = settings_of x h in subst (λ n. is_between 1 64 n ≡ true) s.0 (settings_ranges x.tables.plain.registry.settings s.1).0

  tenant_as : (x : Tenancy) (n : ℕ) → In x xs → n ≡ x.id → is_tenant n ≡ true
  tenant_as x n h e = ap is_tenant e ∙ tenant_in x h

  numbering_good : (x : Tenancy) → In x xs → is_numbering x.tables.plain.numbering ≡ true
  numbering_good x h =
      let drawn_at : x.tables.plain.numbering.at ≤ at = (opened x h).drawn in
      let time : x.tables.plain.numbering.at ≤ 99_999_999_999 = omega (arith, small, drawn_at) in
      let last : is_count x.tables.plain.numbering.last ≡ true = (readable x h).last in
      let most : x.tables.plain.numbering.drawn ≤ x.tables.plain.numbering.last = few x.tables.plain.numbering (opened x h).numbering in
      and_from (is_moment x.tables.plain.numbering.at && is_count x.tables.plain.numbering.drawn) (is_count x.tables.plain.numbering.last) (and_from (is_moment x.tables.plain.numbering.at) (is_count x.tables.plain.numbering.drawn) (grind (arith, nat_tests, time)) (grind (arith, nat_tests, last, most))) last
    where
      few : (n : Numbering) → model.is_numbering n ≡ true → n.drawn ≤ n.last
      few n e = grind (arith, nat_tests, e)

  timed : (x : Tenancy) → In x xs → (c : Case) → In c x.tables.plain.cases → list_all is_timed c.trail ≡ true
  timed x h c k =
      let settings = x.tables.plain.registry.settings in
      let legal = case_legal (reckoning settings) at x.tables.plain.cases c (opened x h).legal k in
      let ranges = settings_ranges settings (settings_of x h).1 in
      let le : last_at 0 c.trail ≤ 99_999_999_999 = (let l = legal.1 in omega (arith, small, l)) in
      trail_dated (reckoning settings) (offset_in settings.offset ranges.1) ranges.2 c.trail le legal.0

  case_parts : (x : Tenancy) → In x xs → (c : Case) → In c x.tables.plain.cases → (list_all (is_entry_of x.tables.plain.registry) c.trail ≡ true) × (has_public_answers x.tables.plain.registry.forms c.trail ≡ true) × (are_sealed (x.tables.sealed c.number) ≡ true)
  case_parts x h c k =
      let g = x.tables.plain.registry in
      let is = held_all (is_readable g x.tables.sealed) x.tables.plain.cases c (readable x h).cases k in
      let a = and_parts (list_all (is_entry_of g) c.trail && has_public_answers g.forms c.trail && are_valid_after g.forms c.trail (x.tables.sealed c.number)) (are_sealed (x.tables.sealed c.number)) is in
      let b = and_parts (list_all (is_entry_of g) c.trail && has_public_answers g.forms c.trail) (are_valid_after g.forms c.trail (x.tables.sealed c.number)) a.0 in
      let d = and_parts (list_all (is_entry_of g) c.trail) (has_public_answers g.forms c.trail) b.0 in
      (d.0, d.1, a.1)

  number_good : (x : Tenancy) → In x xs → (c : Case) → In c x.tables.plain.cases → nat_le 1 c.number ≡ true
  number_good x h c k = let lt : 0 < c.number = number_above 0 x.tables.plain.cases c (opened x h).ascend k in grind (arith, nat_tests, lt)

  trail_entries : (x : Tenancy) → In x xs → (c : Case) → In c x.tables.plain.cases → list_all is_entry c.trail ≡ true
  trail_entries x h c k =
      let p = case_parts x h c k in
      trail_good x.id x.tables.plain.registry (owned x h) (reckoning x.tables.plain.registry.settings) c.trail (case_legal (reckoning x.tables.plain.registry.settings) at x.tables.plain.cases c (opened x h).legal k).0 p.1 p.0 (timed x h c k)

  of_reports : (P : Report → Type 0) → ((x : Tenancy) → In x xs → (c : Case) → In c x.tables.plain.cases → P (report_in x.id c)) → (r : Report) → In r (of_each reports_in xs) → P r
  of_reports P all r k =
      let x = each_held reports_in xs r k in
      let c = map_held (report_in x.0.id) x.0.tables.plain.cases r x.2 in
      subst P (sym c.1.1) (all x.0 x.1 c.0 c.1.0)

  entries_good : list_all is_good (map items.Entry (entry_items (of_each reports_in xs))) ≡ true
  entries_good = list_all-map is_good items.Entry (entry_items (of_each reports_in xs))
      ∙ entries_all (λ (x : EntryItem). is_good (items.Entry x)) (of_each reports_in xs) (of_reports (λ r. list_all (λ (x : EntryItem). is_good (items.Entry x)) (report_items r) ≡ true)
      (λ x h c k. items_good x.id c.number 1 c.trail (tenant_in x h) (number_good x h c k) (omega arith) (trail_entries x h c k)))

  seal_good : (t n : ℕ) (o : Option Answered) → is_tenant t ≡ true → nat_le 1 n ≡ true → are_sealed o ≡ true → list_all (λ (x : SealedItem). is_good (items.Sealed x)) (sealed_item t n o) ≡ true
  seal_good t n None a b c = refl
  seal_good t n (Some given) a b c = and_from _ _ (and_from _ _ (and_from _ _ a b) c) refl

  sealed_good : list_all is_good (map items.Sealed (sealed_items (held_of xs).sealed (of_each reports_in xs))) ≡ true
  sealed_good = list_all-map is_good items.Sealed (sealed_items (held_of xs).sealed (of_each reports_in xs))
      ∙ seals_all (λ (x : SealedItem). is_good (items.Sealed x)) (held_of xs).sealed (of_each reports_in xs) (of_reports (λ r. list_all (λ (x : SealedItem). is_good (items.Sealed x)) (sealed_item r.tenant r.number ((held_of xs).sealed r.tenant r.number)) ≡ true)
      (λ x h c k. seal_good x.id c.number ((held_of xs).sealed x.id c.number) (tenant_in x h) (number_good x h c k) (ap are_sealed (sealed_back at xs up readable opened x h c.number) ∙ (case_parts x h c k).2)))

  tenants_good : list_all is_good (map items.Settings (lists_of xs).tenants) ≡ true
  tenants_good = list_all-map is_good items.Settings (lists_of xs).tenants ∙ map_all (λ (y : TenantItem). is_good (items.Settings y)) (λ (x : Tenancy). x.tables.plain.registry.settings) xs (λ x h. let s = settings_of x h in and_from _ _ s.1 s.2)

  numberings_good : list_all is_good (map items.Numbering (map numbering_item xs)) ≡ true
  numberings_good = list_all-map is_good items.Numbering (map numbering_item xs) ∙ map_all (λ (y : NumberingItem). is_good (items.Numbering y)) numbering_item xs (λ x h. and_from _ _ (tenant_in x h) (numbering_good x h))

  users_good : list_all is_good (map items.User (lists_of xs).users) ≡ true
  users_good = list_all-map is_good items.User (lists_of xs).users ∙ all_held (λ (y : UserItem). is_good (items.User y)) (lists_of xs).users (λ y k.
      let x = each_held (λ (z : Tenancy). z.tables.plain.registry.users) xs y k in
      let p = user_parts xs up (own at xs up readable opened) (order at xs up readable opened) x.0 x.1 y x.2 in
      and_from _ _ (and_from _ _ (tenant_as x.0 y.tenant x.1 p.0) p.1) p.2)

  forms_good : list_all is_good (map items.Form (lists_of xs).forms) ≡ true
  forms_good = list_all-map is_good items.Form (lists_of xs).forms ∙ all_held (λ (y : FormItem). is_good (items.Form y)) (lists_of xs).forms (λ y k.
      let x = each_held (λ (z : Tenancy). z.tables.plain.registry.forms) xs y k in
      let p = form_parts xs up (own at xs up readable opened) (order at xs up readable opened) x.0 x.1 y x.2 in
      and_from _ _ (tenant_as x.0 y.tenant x.1 p.0) p.1)

  contexts_good : list_all is_good (map items.Context (lists_of xs).contexts) ≡ true
  contexts_good = list_all-map is_good items.Context (lists_of xs).contexts ∙ all_held (λ (y : ContextItem). is_good (items.Context y)) (lists_of xs).contexts (λ y k.
      let x = each_held (λ (z : Tenancy). z.tables.plain.registry.contexts) xs y k in
      let p = context_parts xs up (own at xs up readable opened) (order at xs up readable opened) x.0 x.1 y x.2 in
      let f = some_of (has_id_of y.form) x.0.tables.plain.registry.forms p.2 in
      let form = form_parts xs up (own at xs up readable opened) (order at xs up readable opened) x.0 x.1 f.0 f.1 in
      and_from _ _ (and_from _ _ (and_from _ _ (tenant_as x.0 y.tenant x.1 p.0) p.1) (form_ranged f.0 y.form f.2 form.1))
      (all_more (is_recipient x.0.tables.plain.registry.users) (is_between 1 256) y.recipients (λ u r. user_ranged x.0.id x.0.tables.plain.registry u (owned x.0 x.1) (recipient_there (user u x.0.tables.plain.registry.users) r)) p.3))
    where
      form_ranged : (f : FormItem) (n : ℕ) → (f.id == n) ≡ true → is_form_item f ≡ true → is_between 1 16 n ≡ true
      form_ranged f n same is =
          let a = and_parts (is_between 1 16 f.id && is_between 1 99 f.version) (is_good_form f.form) is in
          let e : f.id ≡ n = grind (arith, nat_tests, same) in
          subst (λ k. is_between 1 16 k ≡ true) e (and_parts (is_between 1 16 f.id) (is_between 1 99 f.version) a.0).0

      recipient_there : (o : Option UserItem) → option_map_or (λ (z : UserItem). same_role z.role Recipient) o false ≡ true → is_some o ≡ true
      recipient_there None f = absurd (grind (arith, f))
      recipient_there (Some x) f = refl

  both : (ys zs : List Item) → list_all is_good ys ≡ true → list_all is_good zs ≡ true → list_all is_good (ys ++ zs) ≡ true
  both ys zs p q = list_all-append is_good ys zs ∙ and_from _ _ p q

  pub fits_all : list_all is_good (items_of (held_of xs)) ≡ true
  fits_all =
      both (map items.Settings (lists_of xs).tenants) _ tenants_good
      (both (map items.Numbering (map numbering_item xs)) _ numberings_good
      (both (map items.User (lists_of xs).users) _ users_good
      (both (map items.Form (lists_of xs).forms) _ forms_good
      (both (map items.Context (lists_of xs).contexts) _ contexts_good
      (both (map items.Entry (entry_items (of_each reports_in xs))) _ entries_good sealed_good)))))
