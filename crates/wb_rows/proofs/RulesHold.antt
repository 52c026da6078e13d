-- Where none of the rules of reports and numberings is broken, each of them holds of all rows that it looks at.
use Rattle.std.proofs.Common.{◌≡◌, ℕ, Bool, true, false, not, cond, List, [], ◌∷◌, find, Option, Some, None, refl}
use Rattle.std.specs.List.{list_all, list_any}
use Rattle.std.specs.Option.{option_map, option_or}
use Rattle.std.specs.Prelude.{◌&&◌, if◌then◌else◌}
use Rattle.wb_base.specs.declared.rows.Key.{Key}
use Rattle.wb_custody.specs.declared.sealed.SealedItem.{SealedItem}
use Rattle.wb_row_codec.specs.declared.item.EntryItem.{EntryItem}
use Rattle.wb_model.specs.SetUps.{are_apart}
use Rattle.wb_rows.specs.declared.items.ItemsByKind.{ItemsByKind}
use Rattle.wb_rows.specs.declared.faults.RowFault.{RowFault}
use Rattle.wb_rows.specs.Blame.{blamed, first_breaking, first_repeated}
use Rattle.wb_rows.specs.Reports.{Report}
use Rattle.wb_rows.specs.Judged.{first_undrawn, first_unsealed, report_fault}
use Rattle.wb_rows.specs.Places.{entry_key, numbering_key, sealed_key}
use Rattle.wb_rows.specs.ReportRules.{has_its_seal, is_drawn, is_right_entry, is_right_numbering, is_right_seal, same_receipt}

-- ---- a rule that is not broken

-- where none breaks a rule, all keep it
pub none-breaking : {X : Type 0} (rule : X → Bool) (key : X → Key) (xs : List X) → first_breaking rule key xs ≡ None → list_all rule xs ≡ true
none-breaking rule key [] none = refl
none-breaking rule key (x ∷ xs) none = by (rule x) none (none-breaking rule key xs)
  where
    by : (b : Bool) → option_map key (cond (not b) (Some x) (find (λ y. not (rule y)) xs)) ≡ None → (first_breaking rule key xs ≡ None → list_all rule xs ≡ true) → (b && list_all rule xs) ≡ true
    by true e rest = rest e
    by false e rest = absurd (cc (e))

pub none-blamed : (rule : ℕ) (o : Option Key) (rest : Option RowFault) → blamed rule o rest ≡ None → (o ≡ None) × (rest ≡ None)
none-blamed rule None rest e = (refl, e)
none-blamed rule (Some k) rest e = absurd (cc (e))

neither : (a b : Option Key) → option_or a b ≡ None → (a ≡ None) × (b ≡ None)
neither None b e = (refl, e)
neither (Some k) b e = absurd (cc (e))

-- where none is the same as a later one, they are apart
pub apart : {X : Type 0} (same : X → X → Bool) (key : X → Key) (xs : List X) → first_repeated same key xs ≡ None → are_apart same xs ≡ true
apart same key [] none = refl
apart same key (x ∷ xs) none = by (list_any (same x) xs) none (apart same key xs)
  where
    by : (b : Bool) → (if b then Some (key x) else first_repeated same key xs) ≡ None → (first_repeated same key xs ≡ None → are_apart same xs ≡ true) → (not b && are_apart same xs) ≡ true
    by true e rest = absurd (cc (e))
    by false e rest = rest e

-- ---- rules 6 to 10

abbrev pub drawn_entry : ItemsByKind → EntryItem → Bool
drawn_entry k x = is_drawn k.numberings x.tenant x.number

abbrev pub drawn_seal : ItemsByKind → SealedItem → Bool
drawn_seal k x = is_drawn k.numberings x.tenant x.number

pub record RulesHold (k : ItemsByKind) (rs : List Report) : Type 0 where
  pub entries : list_all (is_right_entry k.lists) k.entries ≡ true
  pub drawn : list_all (drawn_entry k) k.entries ≡ true
  pub drawn_seals : list_all (drawn_seal k) k.sealed ≡ true
  pub sealed : list_all (has_its_seal k.sealed) k.entries ≡ true
  pub seals : list_all (is_right_seal k.lists rs) k.sealed ≡ true
  pub receipts : are_apart same_receipt k.entries ≡ true
  pub numberings : list_all (is_right_numbering k.entries) k.numberings ≡ true

pub rules-hold : (k : ItemsByKind) (rs : List Report) → report_fault k rs ≡ None → RulesHold k rs
rules-hold k rs none =
    let six = none-blamed 6 (first_breaking (is_right_entry k.lists) entry_key k.entries) _ none in
    let seven = none-blamed 7 (first_undrawn k) _ six.1 in
    let eight = none-blamed 8 (first_unsealed k rs) _ seven.1 in
    let nine = none-blamed 9 (first_repeated same_receipt entry_key k.entries) _ eight.1 in
    let ten = none-blamed 10 (first_breaking (is_right_numbering k.entries) numbering_key k.numberings) _ nine.1 in
    let undrawn = neither (first_breaking (drawn_entry k) entry_key k.entries) (first_breaking (drawn_seal k) sealed_key k.sealed) seven.0 in
    let unsealed = neither (first_breaking (has_its_seal k.sealed) entry_key k.entries) (first_breaking (is_right_seal k.lists rs) sealed_key k.sealed) eight.0 in
    record {
      entries = none-breaking (is_right_entry k.lists) entry_key k.entries six.0;
      drawn = none-breaking (drawn_entry k) entry_key k.entries undrawn.0;
      drawn_seals = none-breaking (drawn_seal k) sealed_key k.sealed undrawn.1;
      sealed = none-breaking (has_its_seal k.sealed) entry_key k.entries unsealed.0;
      seals = none-breaking (is_right_seal k.lists rs) sealed_key k.sealed unsealed.1;
      receipts = apart same_receipt entry_key k.entries nine.0;
      numberings = none-breaking (is_right_numbering k.entries) numbering_key k.numberings ten.0;
    }
