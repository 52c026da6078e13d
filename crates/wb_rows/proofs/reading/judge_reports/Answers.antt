use Rattle.std.proofs.Common.{◌≡◌, List, refl, sym, ap, ◌∙◌}
use Rattle.std.specs.Option.{option_or}
use Rattle.wb_custody.specs.declared.sealed.SealedItem.{SealedItem}
use Rattle.wb_row_codec.specs.declared.item.EntryItem.{EntryItem}
use Rattle.wb_row_codec.specs.declared.item.NumberingItem.{NumberingItem}
use Rattle.wb_rows.specs.declared.items.ItemsByKind.{ItemsByKind}
use Rattle.wb_rows.specs.declared.report_rules.Blames.{Blames}
use Rattle.wb_rows.specs.Blame.{first_breaking, first_repeated}
use Rattle.wb_rows.specs.Judged.{AreBlames, judged_reports}
use Rattle.wb_rows.specs.Places.{entry_key, numbering_key, sealed_key}
use Rattle.wb_rows.specs.ReportRules.{is_right_entry, is_drawn, has_its_seal, same_receipt, is_right_numbering}
use Rattle.wb_rows.proofs.Judging.{ok-then, err-then}
use Rattle.wb_rows.proofs.reading.judge_reports.Goals as goal

-- what was found in these lists is that of what is kept
are_blames : (k : ItemsByKind) (b : Blames) (numbers : List NumberingItem) (entries : List EntryItem) (sealed : List SealedItem) → numbers ≡ k.numberings → entries ≡ k.entries → sealed ≡ k.sealed
    → b.wrong ≡ first_breaking (is_right_entry k.lists) entry_key entries
    → b.undrawn ≡ option_or (first_breaking (λ x. is_drawn numbers x.tenant x.number) entry_key entries) (first_breaking (λ x. is_drawn numbers x.tenant x.number) sealed_key sealed)
    → b.unsealed ≡ first_breaking (has_its_seal sealed) entry_key entries
    → b.receipt ≡ first_repeated same_receipt entry_key entries
    → b.numbering ≡ first_breaking (is_right_numbering entries) numbering_key numbers
    → AreBlames k b
are_blames k b numbers entries sealed n e s wrong undrawn unsealed receipt numbering = record {
  wrong = wrong ∙ ap (first_breaking (is_right_entry k.lists) entry_key) e;
  undrawn = undrawn ∙ (λ i. option_or (first_breaking (λ (x : EntryItem). is_drawn (n i) x.tenant x.number) entry_key (e i)) (first_breaking (λ (x : SealedItem). is_drawn (n i) x.tenant x.number) sealed_key (s i)));
  unsealed = unsealed ∙ (λ i. first_breaking (has_its_seal (s i)) entry_key (e i));
  receipt = receipt ∙ ap (first_repeated same_receipt entry_key) e;
  numbering = numbering ∙ (λ i. first_breaking (is_right_numbering (e i)) numbering_key (n i));
}

pub returns-in-Ok-clause-ok : goal.returns-in-Ok-clause-ok
returns-in-Ok-clause-ok c =
    let k : ItemsByKind = record { lists = c.args.registry.lists; numberings = c.args.numberings; entries = c.args.entries; sealed = c.args.sealed } in
    let sealed = c.of-sealed.ensures ∙ c.into_vec.ensures in
    let found = c.in_ok-blames.ensures in
    let are = are_blames k c.in_ok-blames.blames _ _ _ c.as_slice.ensures c.as_slice-2.ensures sealed found.wrong found.undrawn found.unsealed found.receipt found.numbering in
    ok-then c.judge_blames.result c.judge_blames.ensures.ok (λ tables judged. ap (judged_reports k) c.in-Ok.ensures.ok ∙ judged k refl refl (sym sealed) are)

pub returns-in-Ok-clause-err : goal.returns-in-Ok-clause-err
returns-in-Ok-clause-err c =
    let k : ItemsByKind = record { lists = c.args.registry.lists; numberings = c.args.numberings; entries = c.args.entries; sealed = c.args.sealed } in
    let sealed = c.of-sealed.ensures ∙ c.into_vec.ensures in
    let found = c.in_ok-blames.ensures in
    let are = are_blames k c.in_ok-blames.blames _ _ _ c.as_slice.ensures c.as_slice-2.ensures sealed found.wrong found.undrawn found.unsealed found.receipt found.numbering in
    err-then c.judge_blames.result c.judge_blames.ensures.err (λ fault judged known. ap (judged_reports k) c.in-Ok.ensures.ok ∙ judged known k refl refl (sym sealed) are)
