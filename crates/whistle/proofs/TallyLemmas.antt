-- The writes of a tally, one after another.
use Rattle.std.proofs.Common.{◌≡◌, ◌<◌, ℕ, ◌+◌, List, [], ◌∷◌, ◌++◌, Option, length, drop, sym, ap, subst, ◌∙◌, append_assoc, append-nil, add-one, drop-cons, get_or, refl}
use Rattle.std.specs.List.{flat_map}
use Rattle.std.specs.Io.KnownBytes.{Appends}
use Rattle.std.proofs.KnownBytes.{Appends-trans, Appends-nil}
use Rattle.wb_base.specs.Outside.{AppendsFront}
use Rattle.whistle.specs.declared.counting.StatusCount.{StatusCount}
use Rattle.whistle.specs.TallyText.{status_line}
use Rattle.wb_cli.proofs.SinkLemmas.{front_more, front_after}

abbrev lines : List StatusCount → List ℕ
lines rows = flat_map status_line rows

-- what was written before the next row, and what is left, are the whole
pub record WroteRows (old now : Option (List ℕ)) (rows : List StatusCount) (index : ℕ) : Type 0 where
  pub done : List ℕ
  pub told : Appends old now done
  pub left : lines rows ≡ done ++ lines (drop index rows)

pub no_rows : (old : Option (List ℕ)) (rows : List StatusCount) → WroteRows old old rows 0
no_rows old rows = record { done = []; told = Appends-nil old; left = refl }

-- the next row's line comes first of what is left
next : (done : List ℕ) (rows rest : List StatusCount) (index : ℕ) (row : StatusCount) → drop index rows ≡ row ∷ rest → lines rows ≡ done ++ lines (drop index rows) → lines rows ≡ done ++ (status_line row ++ lines rest)
next done rows rest index row split left = left ∙ ap (λ left. done ++ lines left) split

pub after_row : (old now now' : Option (List ℕ)) (rows : List StatusCount) (index : ℕ) (row : StatusCount) → drop index rows ≡ row ∷ drop (index + 1) rows → WroteRows old now rows index → Appends now now' (status_line row) → WroteRows old now' rows (index + 1)
after_row old now now' rows index row split so_far h = record {
  done = so_far.done ++ status_line row;
  told = Appends-trans old now now' so_far.done (status_line row) so_far.told h;
  left = next so_far.done rows (drop (index + 1) rows) index row split so_far.left ∙ sym (append_assoc so_far.done (status_line row) (lines (drop (index + 1) rows)));
}

pub in_row : (old now now' : Option (List ℕ)) (rows : List StatusCount) (index : ℕ) (row : StatusCount) → drop index rows ≡ row ∷ drop (index + 1) rows → WroteRows old now rows index → AppendsFront now now' (status_line row) → AppendsFront old now' (lines rows)
in_row old now now' rows index row split so_far h =
    let rest : List ℕ = lines (drop (index + 1) rows) in
    subst (AppendsFront old now') (sym (next so_far.done rows (drop (index + 1) rows) index row split so_far.left)) (front_after old now now' so_far.done (status_line row ++ rest) so_far.told (front_more now now' (status_line row) rest h))

pub all_rows : (old now : Option (List ℕ)) (rows : List StatusCount) (index : ℕ) → drop index rows ≡ [] → WroteRows old now rows index → Appends old now (lines rows)
all_rows old now rows index none so_far = subst (Appends old now) (sym (so_far.left ∙ (ap (λ left. so_far.done ++ lines left) none ∙ append-nil so_far.done))) so_far.told

-- the row at a place, and what comes after it
abbrev pub row_at : List StatusCount → ℕ → StatusCount
row_at rows index = get_or rows index (record { status = 0; count = 0 })

pub parted : (rows : List StatusCount) (index : ℕ) → index < length rows → drop index rows ≡ row_at rows index ∷ drop (index + 1) rows
parted rows index within = rw add-one (drop-cons rows index (record { status = 0; count = 0 }) within)
