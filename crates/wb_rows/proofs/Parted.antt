-- Rows and their format.
use Rattle.std.proofs.Common.{◌≡◌, true, false, ◌-◌, List, [], ◌∷◌, drop, length, take, slice_get, Some, None, Err, refl, sym, ap, ◌∙◌, subst, arith}
use Rattle.std.proofs.lemmas.List.{take_all}
use Rattle.std.specs.List.Sorted.{IsStrictlySortedBy}
use Rattle.std.specs.Prelude.{map, codes}
use Rattle.std.specs.Fmt.{digits}
use Rattle.std.proofs.lemmas.Bool.{and_from}
use Rattle.json.specs.Print.{escape_byte}
use Rattle.wb_base.specs.AnswerList.{is_text}
use Rattle.wb_base.specs.KeptRows.{key_cmp, key_of}
use Rattle.wb_base.specs.declared.form.Format.{Format}
use Rattle.wb_base.specs.declared.form.Format.TheVariants.{Plain, Weighed}
use Rattle.wb_base.specs.declared.rows.Row.{Row}
use Rattle.wb_row_codec.specs.Items.{is_key}
use Rattle.wb_model.specs.Rows.{format_row, format_data}
use Rattle.wb_model.specs.Rows as model_rows
use Rattle.wb_model.specs.Tenants.{Tenancy}
use Rattle.wb_rows.specs.declared.faults.RowFault.TheVariants.{BadRow}
use Rattle.wb_rows.specs.Held.{Held}
use Rattle.wb_rows.specs.HeldRows.{own_rows, rows_in}
use Rattle.wb_rows.specs.Judged.{judged, is_format_key, with_format, IsParted}
use Rattle.wb_rows.proofs.ItemOrder.{is_same_row}

pub format-text : format_row.text ≡ codes "{\"format\":2}"
unfolding format_data escape_byte digits
format-text = refl

pub parted-none : (rows : List Row) → slice_get rows 0 ≡ None → IsParted rows Plain rows
parted-none [] none = record { judged = refl; stated = refl; whole = refl }
parted-none (r ∷ rows) none = absurd cc

pub parted-first : (rows : List Row) (r : Row) → slice_get rows 0 ≡ Some r → is_format_key r.key ≡ false → IsParted rows Plain rows
parted-first [] r here other = absurd cc
parted-first (s ∷ rows) r here other =
    let is : s ≡ r = cc in
    let no : is_format_key s.key ≡ false = ap (λ (x : Row). is_format_key x.key) is ∙ other in
    record { judged = rw no refl; stated = rw no refl; whole = refl }

pub parted-second : (rows : List Row) (r : Row) → slice_get rows 0 ≡ Some r → is_format_key r.key ≡ true → is_text r.text format_row.text ≡ true → IsParted rows Weighed (take (length rows - 1) (drop 1 rows))
parted-second [] r here own says = absurd cc
parted-second (s ∷ rows) r here own says =
    let rest : take (length (s ∷ rows) - 1) rows ≡ rows = take_all (length (s ∷ rows) - 1) rows (omega arith) in
    let is : s ≡ r = cc in
    let key : is_format_key s.key ≡ true = ap (λ (x : Row). is_format_key x.key) is ∙ own in
    let text : is_text s.text format_row.text ≡ true = ap (λ (x : Row). is_text x.text format_row.text) is ∙ says in
    let same : s ≡ format_row = is_same_row s format_row (and_from (is_key s.key format_row.key) (is_text s.text format_row.text) key text) in
    subst (IsParted (s ∷ rows) Weighed) (sym rest) (record { judged = rw (key, text) refl; stated = rw key refl; whole = ap (λ x. x ∷ rows) (sym same) })

pub parted-bad : (rows : List Row) (r : Row) → slice_get rows 0 ≡ Some r → is_format_key r.key ≡ true → is_text r.text format_row.text ≡ false → judged rows ≡ Err (BadRow r.key)
parted-bad [] r here own other = absurd cc
parted-bad (s ∷ rows) r here own other =
    let is : s ≡ r = cc in
    let key : is_format_key s.key ≡ true = ap (λ (x : Row). is_format_key x.key) is ∙ own in
    let text : is_text s.text format_row.text ≡ false = ap (λ (x : Row). is_text x.text format_row.text) is ∙ other in
    rw (key, text) (ap (λ (x : Row). Err (BadRow x.key)) is)

-- the others are in order too
pub own-sorted : (rows own : List Row) (format : Format) → IsParted rows format own → IsStrictlySortedBy key_cmp (map key_of rows) → IsStrictlySortedBy key_cmp (map key_of own)
unfolding IsStrictlySortedBy
own-sorted rows own Plain parted up = subst (λ l. IsStrictlySortedBy key_cmp (map key_of l)) (sym parted.whole) up
own-sorted rows own Weighed parted up = (subst (λ l. IsStrictlySortedBy key_cmp (map key_of l)) (sym parted.whole) up).1

pub rows-with : (format : Format) (h : Held) (own : List Row) → own_rows format h ≡ own → rows_in format h ≡ with_format format own
rows-with Plain h own is = is
rows-with Weighed h own is = ap (λ l. format_row ∷ l) is

pub tenants-with : (format : Format) (xs : List Tenancy) (own : List Row) → model_rows.own_rows_in format xs ≡ own → model_rows.rows_in format xs ≡ with_format format own
tenants-with Plain xs own is = is
tenants-with Weighed xs own is = ap (λ l. format_row ∷ l) is
