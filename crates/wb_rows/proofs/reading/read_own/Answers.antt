use Rattle.std.proofs.Common.{◌≡◌, refl, true, Ok, Err, map, sym, ap, ◌∙◌, subst, List}
use Rattle.std.specs.List.{list_all}
use Rattle.std.specs.List.Sorted.{IsStrictlySortedBy}
use Rattle.wb_base.specs.KeptRows.{key_cmp}
use Rattle.wb_custody.specs.SealedAnswers.{pair_cmp, sealed_place}
use Rattle.wb_list.specs.Keyed.{IsAscending}
use Rattle.wb_model.specs.SetUps.{is_tenant_item, is_form_item}
use Rattle.wb_rows.specs.declared.items.ItemsByKind.{ItemsByKind}
use Rattle.wb_rows.specs.Places.{entry_key}
use Rattle.wb_rows.specs.ReadItems.{items_in}
use Rattle.wb_row_codec.specs.declared.item.Item.{Item}
use Rattle.wb_row_codec.specs.Items.{is_in_range}
use Rattle.wb_base.specs.declared.form.Format.{Format}
use Rattle.wb_base.specs.declared.rows.Row.{Row}
use Rattle.wb_rows.specs.declared.faults.RowFault.{RowFault}
use Rattle.wb_rows.specs.Held.{Held, held_by}
use Rattle.wb_rows.specs.KeptItems.{kept_of}
use Rattle.wb_rows.proofs.KeptSetUp.{read-set-up}
use Rattle.wb_rows.proofs.LegalReports.{read-legal}
use Rattle.wb_rows.specs.Judged.{judged_in, judged_items, judged_kept}
use Rattle.wb_rows.proofs.Judging.{ok-then}
use Rattle.wb_rows.proofs.OpenedTables.{read-kept, read-others, read-whole}
use Rattle.wb_rows.proofs.RowsBack.{rows-back}
use Rattle.wb_rows.proofs.StoredTables.{read-readable, read-stored}
use Rattle.wb_rows.proofs.FitItems.{tenants-fit, forms-fit}
use Rattle.wb_rows.proofs.ItemOrder.{items_ascend, lists-order, entries-order, sealed-order}
use Rattle.wb_setup.specs.Keys.{AreInOrder}
use Rattle.wb_rows.proofs.reading.read_own.Goals as goal

pub judge-requires-clause-tenants : goal.judge-requires-clause-tenants
judge-requires-clause-tenants c = subst (λ (k : ItemsByKind). list_all is_tenant_item k.lists.tenants ≡ true) (sym c.in_ok-kept.ensures) (tenants-fit c.in_ok-items.items.items c.in_ok-items.ensures.fits)

pub judge-requires-clause-forms : goal.judge-requires-clause-forms
judge-requires-clause-forms c = subst (λ (k : ItemsByKind). list_all is_form_item k.lists.forms ≡ true) (sym c.in_ok-kept.ensures) (forms-fit c.in_ok-items.items.items c.in_ok-items.ensures.fits)

pub judge-requires-clause-lists : goal.judge-requires-clause-lists
judge-requires-clause-lists c =
    let read : items_in c.args.format c.args.rows.now ≡ Ok c.in_ok-items.items.items = c.in_ok-items.ensures.ok in
    subst (λ (k : ItemsByKind). AreInOrder k.lists) (sym c.in_ok-kept.ensures) (lists-order c.in_ok-items.items.items c.in_ok-items.ensures.fits (items_ascend c.args.format c.args.rows.now c.in_ok-items.items.items read c.requires))

pub judge-requires-clause-entries : goal.judge-requires-clause-entries
judge-requires-clause-entries c =
    let read : items_in c.args.format c.args.rows.now ≡ Ok c.in_ok-items.items.items = c.in_ok-items.ensures.ok in
    subst (λ (k : ItemsByKind). IsStrictlySortedBy key_cmp (map entry_key k.entries)) (sym c.in_ok-kept.ensures) (entries-order c.in_ok-items.items.items c.in_ok-items.ensures.fits (items_ascend c.args.format c.args.rows.now c.in_ok-items.items.items read c.requires))

pub judge-requires-clause-sealed : goal.judge-requires-clause-sealed
judge-requires-clause-sealed c =
    let read : items_in c.args.format c.args.rows.now ≡ Ok c.in_ok-items.items.items = c.in_ok-items.ensures.ok in
    subst (λ (k : ItemsByKind). IsAscending pair_cmp sealed_place k.sealed) (sym c.in_ok-kept.ensures) (sealed-order c.in_ok-items.items.items c.in_ok-items.ensures.fits (items_ascend c.args.format c.args.rows.now c.in_ok-items.items.items read c.requires))

-- the items that are read are in their ranges
module _ (format : Format) (rows : List Row) (own : List Item) (read : items_in format rows ≡ Ok own) (fit : list_all is_in_range own ≡ true) where
  fits : (all : List Item) → items_in format rows ≡ Ok all → list_all is_in_range all ≡ true
  fits all e = let same : own ≡ all = cc (read, e) in subst (λ l. list_all is_in_range l ≡ true) same fit

  -- and the tables that are judged of them are those of the rows
  of_rows : (seen : List Row) (kept : ItemsByKind) (h : Held) → seen ≡ rows → kept ≡ kept_of own → judged_kept seen kept ≡ Ok h → judged_in format rows ≡ Ok h
  of_rows seen kept h same sorted is = ap (judged_items rows) read ∙ ((λ i. judged_kept (sym same i) (sym sorted i)) ∙ is)

  -- and a fault that is judged is theirs
  fault_of_rows : (seen : List Row) (kept : ItemsByKind) (fault : RowFault) → seen ≡ rows → kept ≡ kept_of own → judged_kept seen kept ≡ Err fault → judged_in format rows ≡ Err fault
  fault_of_rows seen kept fault same sorted is = ap (judged_items rows) read ∙ ((λ i. judged_kept (sym same i) (sym sorted i)) ∙ is)

pub returns-clause-rows : goal.returns-clause-rows
returns-clause-rows c =
    let rows = c.args.rows.now in
    let own = c.in_ok-items.items.items in
    let read : items_in c.args.format rows ≡ Ok own = c.in_ok-items.ensures.ok in
    let fit = c.in_ok-items.ensures.fits in
    ok-then c.judge.result c.judge.ensures.ok (λ tables is. rows-back c.args.format rows (held_by tables) c.requires (fits c.args.format rows own read fit) (of_rows c.args.format rows own read fit _ _ (held_by tables) refl c.in_ok-kept.ensures is))

pub returns-clause-set_up : goal.returns-clause-set_up
returns-clause-set_up c =
    let rows = c.args.rows.now in
    let own = c.in_ok-items.items.items in
    let read : items_in c.args.format rows ≡ Ok own = c.in_ok-items.ensures.ok in
    let fit = c.in_ok-items.ensures.fits in
    ok-then c.judge.result c.judge.ensures.ok (λ tables is. read-set-up c.args.format rows (held_by tables) c.requires (fits c.args.format rows own read fit) (of_rows c.args.format rows own read fit _ _ (held_by tables) refl c.in_ok-kept.ensures is))

pub returns-clause-legal : goal.returns-clause-legal
returns-clause-legal c =
    let rows = c.args.rows.now in
    let own = c.in_ok-items.items.items in
    let read : items_in c.args.format rows ≡ Ok own = c.in_ok-items.ensures.ok in
    let fit = c.in_ok-items.ensures.fits in
    ok-then c.judge.result c.judge.ensures.ok (λ tables is. read-legal c.args.format rows (held_by tables) (of_rows c.args.format rows own read fit _ _ (held_by tables) refl c.in_ok-kept.ensures is))

pub returns-clause-kept : goal.returns-clause-kept
returns-clause-kept c =
    let rows = c.args.rows.now in
    let own = c.in_ok-items.items.items in
    let read : items_in c.args.format rows ≡ Ok own = c.in_ok-items.ensures.ok in
    let fit = c.in_ok-items.ensures.fits in
    ok-then c.judge.result c.judge.ensures.ok (λ tables is. read-kept c.args.format rows (held_by tables) c.requires (fits c.args.format rows own read fit) (of_rows c.args.format rows own read fit _ _ (held_by tables) refl c.in_ok-kept.ensures is))

pub returns-clause-others : goal.returns-clause-others
returns-clause-others c =
    let rows = c.args.rows.now in
    let own = c.in_ok-items.items.items in
    let read : items_in c.args.format rows ≡ Ok own = c.in_ok-items.ensures.ok in
    let fit = c.in_ok-items.ensures.fits in
    ok-then c.judge.result c.judge.ensures.ok (λ tables is. read-others c.args.format rows (held_by tables) c.requires (fits c.args.format rows own read fit) (of_rows c.args.format rows own read fit _ _ (held_by tables) refl c.in_ok-kept.ensures is))

pub returns-clause-whole : goal.returns-clause-whole
returns-clause-whole c =
    let rows = c.args.rows.now in
    let own = c.in_ok-items.items.items in
    let read : items_in c.args.format rows ≡ Ok own = c.in_ok-items.ensures.ok in
    let fit = c.in_ok-items.ensures.fits in
    ok-then c.judge.result c.judge.ensures.ok (λ tables is. read-whole c.args.format rows (held_by tables) c.requires (fits c.args.format rows own read fit) (of_rows c.args.format rows own read fit _ _ (held_by tables) refl c.in_ok-kept.ensures is))

pub returns-clause-readable : goal.returns-clause-readable
returns-clause-readable c =
    let rows = c.args.rows.now in
    let own = c.in_ok-items.items.items in
    let read : items_in c.args.format rows ≡ Ok own = c.in_ok-items.ensures.ok in
    let fit = c.in_ok-items.ensures.fits in
    ok-then c.judge.result c.judge.ensures.ok (λ tables is. read-readable c.args.format rows (held_by tables) c.requires (fits c.args.format rows own read fit) (of_rows c.args.format rows own read fit _ _ (held_by tables) refl c.in_ok-kept.ensures is))

pub returns-clause-stored : goal.returns-clause-stored
returns-clause-stored c =
    let rows = c.args.rows.now in
    let own = c.in_ok-items.items.items in
    let read : items_in c.args.format rows ≡ Ok own = c.in_ok-items.ensures.ok in
    let fit = c.in_ok-items.ensures.fits in
    ok-then c.judge.result c.judge.ensures.ok (λ tables is. read-stored c.args.format rows (held_by tables) c.requires (fits c.args.format rows own read fit) (of_rows c.args.format rows own read fit _ _ (held_by tables) refl c.in_ok-kept.ensures is))
