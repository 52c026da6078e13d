-- The rows of the reports that pass a test, over those alone that have any.
use Rattle.std.proofs.Common.{◌≡◌, ℕ, ℤ, zero, suc, ◌+◌, ◌≤◌, ◌++◌, Bool, true, false, cond, not, List, [], ◌∷◌, length, drop, Some, refl, sym, ap, ◌∙◌, subst, append_assoc, arith}
use Rattle.std.specs.Prelude.{◌==◌, ◌&&◌, filter, slice_get}
use Rattle.std.proofs.lemmas.Bool.Decides.{nat_tests}
use Rattle.std.proofs.lemmas.List.{drop_more}
use Rattle.std.proofs.lemmas.Option.{get_or_from_slice_get, slice_get_within}
use Rattle.wb_model.specs.Access.{requests}
use Rattle.wb_model.specs.Tables.{Case}
use Rattle.wb_model.specs.Trails.{reads}
use Rattle.wb_model.specs.ViewRows.{custodied, dues_of, readable}
use Rattle.wb_model.specs.declared.registry.UserItem.{UserItem}
use Rattle.wb_model.specs.declared.view.Custodied.{Custodied}
use Rattle.wb_tables.specs.Indexed.{AreFewRequests, has_dues, has_requests}
use Rattle.wb_tables.specs.Lives.{lives_on}
use Rattle.wb_model.proofs.Found.{filter_both}

-- one of them has few where each report has
pub few_at : (i : ℕ) (cs : List Case) (c : Case) → AreFewRequests cs → slice_get (filter has_requests cs) i ≡ Some c → length (requests c.trail) ≤ 100
few_at i [] c all e = absurd (cc e)
few_at i (d ∷ cs) c all e = by (λ j f. few_at j cs c all.1 f) (has_requests d) i e
  where
    by : ((j : ℕ) → slice_get (filter has_requests cs) j ≡ Some c → length (requests c.trail) ≤ 100) → (b : Bool) (i : ℕ) → slice_get (cond b (d ∷ filter has_requests cs) (filter has_requests cs)) i ≡ Some c → length (requests c.trail) ≤ 100
    by later true zero f = let same : d ≡ c = cc f in subst (λ (x : Case). length (requests x.trail) ≤ 100) same all.0
    by later true (suc j) f = later j f
    by later false j f = later j f

-- ---- what rows there are: those of a report, and those of all, in their order
module _ {X : Type 0} (rows_of : Case → List X) (all_rows : List Case → List X) (no_rows : all_rows [] ≡ []) (each : (c : Case) (cs : List Case) → all_rows (c ∷ cs) ≡ rows_of c ++ all_rows cs) (p : Case → Bool) where
  -- the rows of those that pass
  abbrev pub rows : List Case → List X
  rows cs = all_rows (filter p cs)

  first : (c : Case) (cs : List Case) → p c ≡ true → rows (c ∷ cs) ≡ rows_of c ++ rows cs
  first c cs is = rw is (each c (filter p cs))

  -- those that have none may be left out
  pub picked : (has : Case → Bool) → ((c : Case) → has c ≡ false → rows_of c ≡ []) → (cs : List Case) → rows (filter has cs) ≡ rows cs
  picked has none [] = refl
  picked has none (c ∷ cs) = by (has c) refl (p c) refl (picked has none cs)
    where
      by : (b : Bool) → has c ≡ b → (d : Bool) → p c ≡ d → rows (filter has cs) ≡ rows cs → rows (cond b (c ∷ filter has cs) (filter has cs)) ≡ all_rows (cond d (c ∷ filter p cs) (filter p cs))
      by true e true is later = first c (filter has cs) is ∙ (ap (λ xs. rows_of c ++ xs) later ∙ sym (each c (filter p cs)))
      by true e false is later = rw is later
      by false e true is later = later ∙ sym (each c (filter p cs) ∙ ap (λ xs. xs ++ rows cs) (none c e))
      by false e false is later = later

  next : (i : ℕ) (cs : List Case) (c : Case) → slice_get cs i ≡ Some c → drop i cs ≡ c ∷ drop (i + 1) cs
  next i cs c e = drop_more cs i c (slice_get_within cs i c e) ∙ ap (λ d. d ∷ drop (i + 1) cs) (get_or_from_slice_get cs i c c e)

  -- the rows of one that passes come, and those of one that does not pass are none
  pub more_rows : (i : ℕ) (cs : List Case) (c : Case) (before all : List X) → slice_get cs i ≡ Some c → p c ≡ true → before ++ rows (drop i cs) ≡ all → (before ++ rows_of c) ++ rows (drop (i + 1) cs) ≡ all
  more_rows i cs c before all e is so_far =
      append_assoc before (rows_of c) (rows (drop (i + 1) cs))
      ∙ (ap (λ xs. before ++ xs) (sym (ap rows (next i cs c e) ∙ first c (drop (i + 1) cs) is)) ∙ so_far)

  pub same_rows : (i : ℕ) (cs : List Case) (c : Case) (before all : List X) → slice_get cs i ≡ Some c → p c ≡ false → before ++ rows (drop i cs) ≡ all → before ++ rows (drop (i + 1) cs) ≡ all
  same_rows i cs c before all e is so_far = ap (λ xs. before ++ xs) (sym (ap rows (next i cs c e) ∙ rw is refl)) ∙ so_far

none_has : {X : Type 0} (xs : List X) → not (length xs == 0) ≡ false → xs ≡ []
none_has [] e = refl
none_has (x ∷ xs) e = absurd (grind (arith, nat_tests, e))

-- ---- the requests of reports

abbrev pub requests_of : List UserItem → Case → List Custodied
requests_of users c = custodied users c.number (requests c.trail)

pub no_requests : (users : List UserItem) (c : Case) → has_requests c ≡ false → custodied users c.number (requests c.trail) ≡ []
no_requests users c e = ap (custodied users c.number) (none_has (requests c.trail) e)

-- ---- what is due on reports

pub no_dues : (c : Case) → has_dues c ≡ false → dues_of c.number c.trail ≡ []
no_dues c e = none_has (dues_of c.number c.trail) e

-- one that lives on a day and that a user reads
abbrev pub is_read_on : ℤ → ℕ → Case → Bool
is_read_on today user c = lives_on today c && reads user c.trail

-- those that a user reads of those that live
pub read_on : (today : ℤ) (user : ℕ) (cs : List Case) → filter (is_read_on today user) cs ≡ readable user (filter (lives_on today) cs)
read_on today user cs = sym (filter_both (lives_on today) (λ c. reads user c.trail) cs)
