-- Nothing is held of a tenant that is not there.
use Rattle.std.proofs.Common.{◌≡◌, ℕ, Bool, true, false, cond, List, [], ◌∷◌, map, filter, find, Some, None, refl, sym, ap, ◌∙◌}
use Rattle.std.proofs.lemmas.Bool.{and_parts, eqb-true, false≢true}
use Rattle.std.specs.List.{list_all}
use Rattle.std.specs.Option.{option_map, option_map_or}
use Rattle.std.specs.Prelude.{◌==◌}
use Rattle.wb_custody.specs.declared.sealed.SealedItem.{SealedItem}
use Rattle.wb_custody.specs.SealedAnswers.{is_of}
use Rattle.wb_row_codec.specs.declared.item.NumberingItem.{NumberingItem}
use Rattle.wb_model.specs.declared.registry.Lists.{Lists}
use Rattle.wb_model.specs.Openings.{empty_tables, registry_of}
use Rattle.wb_model.specs.SetUps.{has_tenant}
use Rattle.wb_rows.specs.declared.items.ItemsByKind.{ItemsByKind}
use Rattle.wb_rows.specs.Reports.{Report}
use Rattle.wb_rows.specs.Judged.{held}
use Rattle.wb_rows.specs.Openings.{case_of, tables_of}
use Rattle.wb_rows.specs.ReportRules.{is_numbering_of}
use Rattle.wb_rows.proofs.OwnedRows.{AreOwned}

module _ (lists : Lists) (t : ℕ) (absent : has_tenant lists t ≡ false) {X : Type 0} (tenant : X → ℕ) (wanted : X → Bool) (is : (x : X) → wanted x ≡ true → tenant x ≡ t) where
  unwanted : (x : X) → has_tenant lists (tenant x) ≡ true → wanted x ≡ false
  unwanted x there = by (wanted x) refl
    where
      by : (b : Bool) → wanted x ≡ b → b ≡ false
      by true own = absurd (false≢true (sym absent ∙ (ap (has_tenant lists) (sym (is x own)) ∙ there)))
      by false own = refl

  none_found : (xs : List X) → list_all (λ x. has_tenant lists (tenant x)) xs ≡ true → find wanted xs ≡ None
  none_found [] all = refl
  none_found (x ∷ xs) all =
      let parts = and_parts (has_tenant lists (tenant x)) (list_all (λ y. has_tenant lists (tenant y)) xs) all in
      (λ i. cond (unwanted x parts.0 i) (Some x) (find wanted xs)) ∙ none_found xs parts.1

  none_passes : (xs : List X) → list_all (λ x. has_tenant lists (tenant x)) xs ≡ true → filter wanted xs ≡ []
  none_passes [] all = refl
  none_passes (x ∷ xs) all =
      let parts = and_parts (has_tenant lists (tenant x)) (list_all (λ y. has_tenant lists (tenant y)) xs) all in
      (λ i. cond (unwanted x parts.0 i) (x ∷ filter wanted xs) (filter wanted xs)) ∙ none_passes xs parts.1

pub none-held : (k : ItemsByKind) (rs : List Report) → AreOwned k → list_all (λ (r : Report). has_tenant k.lists r.tenant) rs ≡ true → (t : ℕ) → has_tenant k.lists t ≡ false → tables_of (held k rs) t ≡ empty_tables (registry_of k.lists t)
none-held k rs owned reports t absent =
    let numbering = none_found k.lists t absent (λ (x : NumberingItem). x.tenant) (is_numbering_of t) (λ x e. eqb-true x.tenant t e) k.numberings owned.numberings in
    let cases = none_passes k.lists t absent (λ (r : Report). r.tenant) (λ (r : Report). r.tenant == t) (λ r e. eqb-true r.tenant t e) rs reports in
    let sealed : (n : ℕ) → find (is_of t n) k.sealed ≡ None = λ n. none_found k.lists t absent (λ (x : SealedItem). x.tenant) (is_of t n) (λ x e. eqb-true x.tenant t (and_parts (x.tenant == t) (x.number == n) e).0) k.sealed owned.sealed in
    λ i. record {
      plain = record {
        registry = registry_of k.lists t;
        numbering = option_map_or (λ (x : NumberingItem). x.numbering) (numbering i) (record { at = 0; drawn = 0; last = 0 });
        cases = map case_of (cases i);
        sessions = [];
      };
      sealed = λ n. option_map (λ (x : SealedItem). x.answers) (sealed n i);
    }
