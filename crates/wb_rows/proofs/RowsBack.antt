-- THE LAW of what is read: rows that are read as tables are the rows of the tables.
use Rattle.std.proofs.Common.{◌≡◌, Bool, true, false, List, [], ◌∷◌, ◌++◌, append_assoc, map, find, Option, Some, None, Result, Ok, Err, refl, sym, ap, ◌∙◌, subst}
use Rattle.std.proofs.lemmas.Bool.{and_parts, false≢true}
use Rattle.std.specs.List.{list_all}
use Rattle.std.specs.List.Sorted.{IsStrictlySortedBy}
use Rattle.std.specs.Option.{is_some, option_map_or}
use Rattle.std.specs.Prelude.{◌&&◌}
use Rattle.wb_base.specs.KeptRows.{key_cmp, key_of}
use Rattle.wb_base.specs.declared.rows.Key.{Key}
use Rattle.wb_base.specs.declared.rows.Row.{Row}
use Rattle.wb_custody.specs.declared.sealed.SealedItem.{SealedItem}
use Rattle.wb_row_codec.specs.declared.item.Item.{Item}
use Rattle.wb_row_codec.specs.Items.{is_in_range, item_row}
use Rattle.wb_model.specs.declared.registry.Lists.{Lists}
use Rattle.wb_model.specs.Openings.{registry_of}
use Rattle.wb_model.specs.Trails.{has_identity}
use Rattle.wb_rows.specs.declared.faults.RowFault.{RowFault}
use Rattle.wb_rows.specs.declared.items.ItemsByKind.{ItemsByKind}
use Rattle.wb_rows.specs.Reports.{Report}
use Rattle.wb_rows.specs.Held.{Held}
use Rattle.wb_rows.specs.HeldRows.{settings_row, numbering_row, user_row, form_row, context_row, list_rows, own_rows}
use Rattle.wb_rows.specs.Judged.{report_fault, held, unless, judged_reports, judged_items, judged_in}
use Rattle.wb_rows.specs.KeptItems.{kept_of}
use Rattle.wb_rows.specs.ListRules.{list_fault}
use Rattle.wb_rows.specs.ReadItems.{items_in}
use Rattle.wb_rows.specs.ReportRules.{are_late_answers, is_report, is_right_seal}
use Rattle.wb_rows.specs.TrailRule.{reports_of}
use Rattle.wb_rows.proofs.ItemKinds.{by_kinds, entry_row, sealed_row}
use Rattle.wb_rows.proofs.ItemOrder.{entries-order, items_ascend, item_key, rows_of_items, sealed-order}
use Rattle.wb_rows.proofs.ReportOrder.{reports_ascend}
use Rattle.wb_rows.proofs.RulesHold.{rules-hold}
use Rattle.wb_rows.proofs.SealedRows.{AreThere, sealed-back}
use Rattle.wb_rows.proofs.TrailRows.{trails-back}
use Rattle.wb_base.specs.declared.form.Format.{Format}

-- ---- identity answers

pub is_there : {X : Type 0} (f : X → Bool) (o : Option X) → option_map_or f o false ≡ true → is_some o ≡ true
is_there f None e = absurd (false≢true e)
is_there f (Some x) e = refl

seal_there : (lists : Lists) (rs : List Report) (s : SealedItem) → is_right_seal lists rs s ≡ true → is_some (find (is_report s.tenant s.number) rs) ≡ true
unfolding is_right_seal
seal_there lists rs s right = is_there (λ (r : Report). has_identity r.trail && are_late_answers (registry_of lists s.tenant).forms s.answers r.trail) (find (is_report s.tenant s.number) rs) right

seals_there : (lists : Lists) (rs : List Report) (ss : List SealedItem) → list_all (is_right_seal lists rs) ss ≡ true → AreThere rs ss
seals_there lists rs [] right = tt
seals_there lists rs (s ∷ ss) right =
    let parts = and_parts (is_right_seal lists rs s) (list_all (is_right_seal lists rs) ss) right in
    (seal_there lists rs s parts.0, seals_there lists rs ss parts.1)

-- ---- the rows

pub together : (a b c d e f g : List Row) → (a ++ (b ++ (c ++ (d ++ e)))) ++ (f ++ g) ≡ a ++ (b ++ (c ++ (d ++ (e ++ (f ++ g)))))
together a b c d e f g =
    append_assoc a (b ++ (c ++ (d ++ e))) (f ++ g)
    ∙ ap (λ l. a ++ l) (append_assoc b (c ++ (d ++ e)) (f ++ g) ∙ ap (λ l. b ++ l) (append_assoc c (d ++ e) (f ++ g) ∙ ap (λ l. c ++ l) (append_assoc d e (f ++ g))))

kept_back : (format : Format) (all : List Item) (rs : List Report) → list_all is_in_range all ≡ true → IsStrictlySortedBy key_cmp (map item_key all) → reports_of (kept_of all).lists (kept_of all).entries ≡ Ok rs → report_fault (kept_of all) rs ≡ None → own_rows format (held (kept_of all) rs) ≡ map (item_row format) all
kept_back format all rs fits order reports none =
    let k : ItemsByKind = kept_of all in
    let trails = trails-back k.lists k.entries rs reports in
    let ascend = reports_ascend k.lists k.entries rs (entries-order all fits order) reports in
    let there = seals_there k.lists rs k.sealed (rules-hold k rs none).seals in
    let sealed = sealed-back k.sealed rs (sealed-order all fits order) ascend there in
    (λ i. list_rows format k.lists k.numberings ++ (sym trails i ++ sym sealed i))
    ∙ (together (map settings_row k.lists.tenants) (map numbering_row k.numberings) (map user_row k.lists.users) (map (form_row format) k.lists.forms) (map context_row k.lists.contexts) (map entry_row k.entries) (map sealed_row k.sealed)
    ∙ by_kinds format all order)

-- ---- what was read

-- rows were read as these items, of which no rule was broken, and these reports
pub record IsReadAs (format : Format) (rows : List Row) (h : Held) (all : List Item) (rs : List Report) : Type 0 where
  pub items : items_in format rows ≡ Ok all
  pub lists : list_fault rows (kept_of all).lists (kept_of all).numberings ≡ None
  pub reports : reports_of (kept_of all).lists (kept_of all).entries ≡ Ok rs
  pub rules : report_fault (kept_of all) rs ≡ None
  pub held : held (kept_of all) rs ≡ h

pub is-read : (format : Format) (rows : List Row) (h : Held) → judged_in format rows ≡ Ok h → (all : List Item) × ((rs : List Report) × IsReadAs format rows h all rs)
is-read format rows h is = by (items_in format rows) refl is
  where
    fourth : (all : List Item) (rs : List Report) (o : Option RowFault) → items_in format rows ≡ Ok all → list_fault rows (kept_of all).lists (kept_of all).numberings ≡ None → reports_of (kept_of all).lists (kept_of all).entries ≡ Ok rs → report_fault (kept_of all) rs ≡ o → unless o (Ok (held (kept_of all) rs)) ≡ Ok h → (all : List Item) × ((rs : List Report) × IsReadAs format rows h all rs)
    fourth all rs (Some fault) read first reports e j = absurd (cc (j))
    fourth all rs None read first reports e j = (all, (rs, record { items = read; lists = first; reports = reports; rules = e; held = cc (j) }))

    third : (all : List Item) (r : Result (List Report) Key) → items_in format rows ≡ Ok all → list_fault rows (kept_of all).lists (kept_of all).numberings ≡ None → reports_of (kept_of all).lists (kept_of all).entries ≡ r → judged_reports (kept_of all) r ≡ Ok h → (all : List Item) × ((rs : List Report) × IsReadAs format rows h all rs)
    third all (Err key) read first e j = absurd (cc (j))
    third all (Ok rs) read first e j = fourth all rs (report_fault (kept_of all) rs) read first e refl j

    second : (all : List Item) (o : Option RowFault) → items_in format rows ≡ Ok all → list_fault rows (kept_of all).lists (kept_of all).numberings ≡ o → unless o (judged_reports (kept_of all) (reports_of (kept_of all).lists (kept_of all).entries)) ≡ Ok h → (all : List Item) × ((rs : List Report) × IsReadAs format rows h all rs)
    second all (Some fault) read first j = absurd (cc (j))
    second all None read first j = third all (reports_of (kept_of all).lists (kept_of all).entries) read first refl j

    by : (r : Result (List Item) RowFault) → items_in format rows ≡ r → judged_items rows r ≡ Ok h → (all : List Item) × ((rs : List Report) × IsReadAs format rows h all rs)
    by (Err fault) read j = absurd (cc (j))
    by (Ok all) read j = second all (list_fault rows (kept_of all).lists (kept_of all).numberings) read refl j

-- they are the rows of what they are read as
pub rows-back : (format : Format) (rows : List Row) (h : Held) → IsStrictlySortedBy key_cmp (map key_of rows) → ((all : List Item) → items_in format rows ≡ Ok all → list_all is_in_range all ≡ true) → judged_in format rows ≡ Ok h → own_rows format h ≡ rows
rows-back format rows h order fits is =
    let parts = is-read format rows h is in
    let how = parts.1.1 in
    subst (λ x. own_rows format x ≡ rows) how.held (kept_back format parts.0 parts.1.0 (fits parts.0 how.items) (items_ascend format rows parts.0 how.items order) how.reports how.rules ∙ rows_of_items format rows parts.0 how.items)
