-- The row of a good item is read as that item.
use Rattle.std.proofs.Common.{◌≡◌, ℕ, ◌≤◌, true, [], ◌∷◌, Some, codes, refl, arith}
use Rattle.std.proofs.lemmas.Bool.{and_parts, eq-eqb}
use Rattle.std.proofs.lemmas.Cmp.{nat_list_eq_equiv}
use Rattle.std.specs.Prelude.{◌&&◌, nat_le}
use Rattle.hex.specs.Hex.{encode_lower}
use Rattle.serde_json.specs.Data.{Data, boolean, string}
use Rattle.wb_base.specs.declared.form.Format.{Format}
use Rattle.wb_base.specs.declared.rows.Key.{Key}
use Rattle.wb_base.specs.FormFaults.{is_good as is_good_form}
use Rattle.wb_base.specs.FormJson.{form_in}
use Rattle.wb_custody.specs.declared.sealed.SealedItem.{SealedItem}
use Rattle.wb_form.proofs.Good.{back-good}
use Rattle.wb_model.specs.declared.registry.ContextItem.{ContextItem}
use Rattle.wb_model.specs.declared.registry.FormItem.{FormItem}
use Rattle.wb_model.specs.declared.registry.TenantItem.{TenantItem}
use Rattle.wb_model.specs.declared.registry.UserItem.{UserItem}
use Rattle.wb_model.specs.Fits.{is_between, has_bytes, is_staff_role}
use Rattle.wb_model.specs.Json.{answers_data, list_of, whole as whole_data}
use Rattle.wb_model.specs.Legal.{are_readers}
use Rattle.wb_model.specs.Names.{role_name, right_names}
use Rattle.wb_model.specs.Rows.{row, settings_data, numbering_data, user_data, context_data, entry_data}
use Rattle.wb_model.specs.SetUps.{is_tenant_item, is_user_item, is_form_item, is_context_item}
use Rattle.wb_row_codec.specs.declared.item.EntryItem.{EntryItem}
use Rattle.wb_row_codec.specs.declared.item.Item.{Item}
use Rattle.wb_row_codec.specs.declared.item.Item.TheVariants.{Settings, Numbering, User, Form, Context, Entry, Sealed}
use Rattle.wb_row_codec.specs.declared.item.NumberingItem.{NumberingItem}
use Rattle.wb_model.specs.AnswerRanges.{are_answers}
use Rattle.wb_model.specs.Readable.{are_bytes, are_dates, is_count, is_stored_tenant}
use Rattle.wb_row_codec.specs.Good.{are_users, is_entry, is_good, is_moment, is_numbering, is_tenant}
use Rattle.wb_row_codec.specs.Items.{item_row, item_of, is_key, shaped, is_kept_in}
use Rattle.wb_row_codec.specs.Shapes.{is_in_format}
use Rattle.wb_row_codec.proofs.BackAnswers.{answers-back, within-answers}
use Rattle.wb_row_codec.proofs.BackEntries.{entry-back, within-between, within-count, within-entry, within-users}
use Rattle.wb_row_codec.proofs.BackSettings.{settings-back, tenant-in, within-settings}
use Rattle.wb_row_codec.proofs.BackValues.{bytes-back, most-back, rights-back, role-back, text-back, users-back, whole-back}
use Rattle.wb_row_codec.proofs.Canonical.{IsWithin, within-any, within-flag, within-object, within-string}
use Rattle.wb_row_codec.proofs.CanonicalForms.{within-form}
use Rattle.wb_row_codec.proofs.RoundTrip.{read-compact_text}

-- ---- a row whose value is read

own_key : (k : Key) → is_key k k ≡ true
own_key k = rw (eq-eqb k.kind k.kind refl, eq-eqb k.tenant k.tenant refl, eq-eqb k.a k.a refl, eq-eqb k.b k.b refl) refl

module _ (format : Format) where
  of_row : (kind t a b n : ℕ) (d : Data) (x : Item) → item_row format x ≡ row kind t a b d → IsWithin n d → n ≤ 127 → shaped format (record { kind = kind; tenant = t; a = a; b = b }) d ≡ Some x → item_of format (row kind t a b d) ≡ Some x
  unfolding item_of
  of_row kind t a b n d x own within few is =
      let read = read-compact_text d within.0 (omega (arith, within.1, few)) in
      rw (read, is, own, own_key (record { kind = kind; tenant = t; a = a; b = b }), nat_list_eq_equiv.refl (row kind t a b d).text) refl

  -- ---- kinds

  settings_back : (x : TenantItem) → is_good (Settings x) ≡ true → item_of format (item_row format (Settings x)) ≡ Some (Settings x)
  settings_back x is =
      let s = and_parts (is_tenant_item x) (is_stored_tenant x) is in
      let t = and_parts (are_bytes 16 x.salt.0) (are_dates x.calendar.holidays) s.1 in
      of_row 1 x.tenant 0 0 2 (settings_data x) (Settings x) refl (within-settings x s.0) (omega arith)
      (rw (tenant-in x s.0, settings-back x s.0 t.1 t.0) refl)

  numbering_back : (x : NumberingItem) → is_good (Numbering x) ≡ true → item_of format (item_row format (Numbering x)) ≡ Some (Numbering x)
  unfolding numbering_data
  numbering_back x is =
      let own = and_parts (is_tenant x.tenant) (is_numbering x.numbering) is in
      let l = and_parts (is_moment x.numbering.at && is_count x.numbering.drawn) (is_count x.numbering.last) own.1 in
      let d = and_parts (is_moment x.numbering.at) (is_count x.numbering.drawn) l.0 in
      of_row 2 x.tenant 0 0 1 (numbering_data x.numbering) (Numbering x) refl
      (within-object 0 ((codes "at", whole_data x.numbering.at) ∷ (codes "drawn", whole_data x.numbering.drawn) ∷ (codes "last", whole_data x.numbering.last) ∷ [])
      (within-count 0 99_999_999_999 x.numbering.at d.0 (omega arith), (within-count 0 4_294_967_295 x.numbering.drawn d.1 (omega arith), (within-count 0 4_294_967_295 x.numbering.last l.1 (omega arith), tt))))
      (omega arith)
      (rw (own.0, most-back 99_999_999_999 x.numbering.at d.0, most-back 4_294_967_295 x.numbering.drawn d.1, most-back 4_294_967_295 x.numbering.last l.1) refl)

  user_back : (x : UserItem) → is_good (User x) ≡ true → item_of format (item_row format (User x)) ≡ Some (User x)
  unfolding user_data
  user_back x is =
      let s = and_parts (is_tenant x.tenant && is_user_item x) (are_bytes 32 x.secret.0) is in
      let t = and_parts (is_tenant x.tenant) (is_user_item x) s.0 in
      let d = and_parts (is_between 1 256 x.id && has_bytes 1 64 x.name && is_staff_role x.role) (nat_le x.disabled 10_000) t.1 in
      let r = and_parts (is_between 1 256 x.id && has_bytes 1 64 x.name) (is_staff_role x.role) d.0 in
      let n = and_parts (is_between 1 256 x.id) (has_bytes 1 64 x.name) r.0 in
      of_row 3 x.tenant x.id 0 2 (user_data x) (User x) refl
      (within-object 1 ((codes "disabled", whole_data x.disabled) ∷ (codes "enabled", boolean x.enabled) ∷ (codes "may", list_of string (right_names x.may)) ∷ (codes "name", string x.name) ∷ (codes "role", string (role_name x.role)) ∷ (codes "secret", string (encode_lower x.secret.0)) ∷ [])
      (within-count 1 10_000 x.disabled d.1 (omega arith), (within-flag 1 x.enabled, (within-any string 0 (λ s. within-string 0 s) (right_names x.may), (within-string 1 x.name, (within-string 1 (role_name x.role), (within-string 1 (encode_lower x.secret.0), tt)))))))
      (omega arith)
      (rw (t.0, n.0, most-back 10_000 x.disabled d.1, rights-back x.may, text-back 1 64 x.name n.1, role-back x.role r.1, bytes-back 32 x.secret.0 s.1) refl)

  form_back : (x : FormItem) → is_good (Form x) ≡ true → is_in_format format x.form ≡ true → item_of format (item_row format (Form x)) ≡ Some (Form x)
  form_back x is kept =
      let t = and_parts (is_tenant x.tenant) (is_form_item x) is in
      let f = and_parts (is_between 1 16 x.id && is_between 1 99 x.version) (is_good_form x.form) t.1 in
      of_row 4 x.tenant x.id x.version 9 (form_in format x.form) (Form x) refl (within-form format x.form f.1) (omega arith) (rw (t.0, f.0, back-good format x.form f.1, f.1, kept) refl)

  context_back : (x : ContextItem) → is_good (Context x) ≡ true → item_of format (item_row format (Context x)) ≡ Some (Context x)
  unfolding context_data
  context_back x is =
      let u = and_parts (is_tenant x.tenant && is_context_item x && is_between 1 16 x.form) (are_users x.recipients) is in
      let f = and_parts (is_tenant x.tenant && is_context_item x) (is_between 1 16 x.form) u.0 in
      let t = and_parts (is_tenant x.tenant) (is_context_item x) f.0 in
      let r = and_parts (is_between 1 64 x.id && has_bytes 1 128 x.name && is_between 1 3_650 x.retention) (are_readers x.recipients) t.1 in
      let d = and_parts (is_between 1 64 x.id && has_bytes 1 128 x.name) (is_between 1 3_650 x.retention) r.0 in
      let n = and_parts (is_between 1 64 x.id) (has_bytes 1 128 x.name) d.0 in
      of_row 5 x.tenant x.id 0 2 (context_data x) (Context x) refl
      (within-object 1 ((codes "form", whole_data x.form) ∷ (codes "name", string x.name) ∷ (codes "open", boolean x.is_open) ∷ (codes "recipients", list_of whole_data x.recipients) ∷ (codes "retention", whole_data x.retention) ∷ [])
      (within-between 1 1 16 x.form f.1 (omega arith), (within-string 1 x.name, (within-flag 1 x.is_open, (within-users 0 x.recipients u.1, (within-between 1 1 3_650 x.retention d.1 (omega arith), tt))))))
      (omega arith)
      (rw (t.0, n.0, whole-back 1 16 x.form f.1, text-back 1 128 x.name n.1, users-back x.recipients u.1, r.1, whole-back 1 3_650 x.retention d.1) refl)

  entry_row_back : (x : EntryItem) → is_good (Entry x) ≡ true → item_of format (item_row format (Entry x)) ≡ Some (Entry x)
  entry_row_back x is =
      let e = and_parts (is_tenant x.tenant && nat_le 1 x.number && nat_le 1 x.place) (is_entry x.entry) is in
      let p = and_parts (is_tenant x.tenant && nat_le 1 x.number) (nat_le 1 x.place) e.0 in
      let t = and_parts (is_tenant x.tenant) (nat_le 1 x.number) p.0 in
      of_row 6 x.tenant x.number x.place 3 (entry_data x.entry) (Entry x) refl (within-entry x.entry e.1) (omega arith) (rw (t.0, t.1, p.1, entry-back x.entry e.1) refl)

  sealed_back : (x : SealedItem) → is_good (Sealed x) ≡ true → item_of format (item_row format (Sealed x)) ≡ Some (Sealed x)
  sealed_back x is =
      let a = and_parts (is_tenant x.tenant && nat_le 1 x.number) (are_answers x.answers) is in
      let t = and_parts (is_tenant x.tenant) (nat_le 1 x.number) a.0 in
      of_row 7 x.tenant x.number 0 2 (answers_data x.answers) (Sealed x) refl (within-answers 0 x.answers a.1) (omega arith) (rw (t.0, t.1, answers-back x.answers a.1) refl)

  pub item-back : (x : Item) → is_good x ≡ true → is_kept_in format x ≡ true → item_of format (item_row format x) ≡ Some x
  item-back (Settings x) is kept = settings_back x is
  item-back (Numbering x) is kept = numbering_back x is
  item-back (User x) is kept = user_back x is
  item-back (Form x) is kept = form_back x is kept
  item-back (Context x) is kept = context_back x is
  item-back (Entry x) is kept = entry_row_back x is
  item-back (Sealed x) is kept = sealed_back x is
