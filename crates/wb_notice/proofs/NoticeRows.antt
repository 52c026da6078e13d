-- Rows that are those of notices.
use Rattle.std.proofs.Common.{◌≡◌, ℕ, ◌<◌, ◌+◌, ◌++◌, true, List, [], ◌∷◌, length, map, take, drop, get_or, refl, sym, ap, ◌∙◌}
use Rattle.std.proofs.lemmas.Bool.{and_parts}
use Rattle.std.proofs.lemmas.List.{drop_more, take-append-drop}
use Rattle.std.proofs.lemmas.List.Elements.{All-cons, All-nil}
use Rattle.std.specs.Prelude.{All}
use Rattle.std.specs.List.{list_all}
use Rattle.wb_base.specs.declared.rows.Row.{Row}
use Rattle.wb_notice.specs.declared.notice.Notice.{Notice}
use Rattle.wb_notice.specs.Deliveries.{IsFirstOther}
use Rattle.wb_notice.specs.Notices.{IsNotice, is_ranged, notice_row}

pub are_notices : (ns : List Notice) → list_all is_ranged ns ≡ true → All IsNotice (map notice_row ns)
are_notices [] all = All-nil IsNotice
are_notices (n ∷ ns) all =
    let parts = and_parts (is_ranged n) (list_all is_ranged ns) all in
    All-cons IsNotice (notice_row n) (map notice_row ns) (record { notice = n; ranged = parts.0; own = refl }) (are_notices ns parts.1)

-- the first row that is none, after rows that are
pub first_other : (rows : List Row) (i : ℕ) (row : Row) (ns : List Notice) → i < length rows → row ≡ get_or rows i row → take i rows ≡ map notice_row ns → list_all is_ranged ns ≡ true → (IsNotice row → ⊥) → IsFirstOther rows row.key
first_other rows i row ns within is own ranged other = record {
  before = map notice_row ns;
  row = row;
  after = drop (i + 1) rows;
  parts = sym (take-append-drop i rows) ∙ (ap (λ l. l ++ drop i rows) own ∙ ap (λ l. map notice_row ns ++ l) (drop_more rows i row within ∙ ap (λ r. r ∷ drop (i + 1) rows) (sym is)));
  notices = are_notices ns ranged;
  other = other;
  has = refl;
}
