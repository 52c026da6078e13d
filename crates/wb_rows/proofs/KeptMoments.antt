-- No moment that is held is after the greatest one.
use Rattle.std.proofs.Common.{◌≡◌, inl, inr, ℕ, ◌≤◌, true, List, [], ◌∷◌, ◌++◌, map, refl, sym, ◌∙◌, subst, arith}
use Rattle.std.proofs.lemmas.Bool.{and_from, and_parts}
use Rattle.std.proofs.lemmas.Bool.Decides.{nat_tests}
use Rattle.std.proofs.lemmas.List.Folds.{list_all-append, list_all-map}
use Rattle.std.specs.List.{list_all}
use Rattle.std.specs.Prelude.{max, nat_le}
use Rattle.wb_row_codec.specs.declared.item.NumberingItem.{NumberingItem}
use Rattle.wb_model.specs.declared.entry.Entry.{Entry}
use Rattle.wb_model.specs.Legal.{last_at}
use Rattle.wb_model.specs.Reopened.{latest}
use Rattle.wb_model.proofs.Found.{Held as In}
use Rattle.wb_rows.specs.Reports.{Report}
use Rattle.wb_rows.specs.Held.{Held}
use Rattle.wb_rows.specs.Openings.{report_moments, time_of}

up_to : (top : ℕ) (ms : List ℕ) → latest ms ≤ top → list_all (λ m. nat_le m top) ms ≡ true
up_to top [] le = refl
up_to top (m ∷ ms) le =
    let most : max m (latest ms) ≤ top = le in
    let first : m ≤ top = omega (arith, most) in
    let rest : latest ms ≤ top = omega (arith, most) in
    and_from (nat_le m top) (list_all (λ n. nat_le n top) ms) (grind (arith, nat_tests, first)) (up_to top ms rest)

moments_held : (top : ℕ) (rs : List Report) → list_all (λ m. nat_le m top) (report_moments rs) ≡ true → (r : Report) → In r rs → list_all (λ (e : Entry). nat_le e.at top) r.trail ≡ true
moments_held top [] all r held = absurd held
moments_held top (x ∷ xs) all r (inl is) =
    let parts = and_parts _ _ (sym (list_all-append (λ m. nat_le m top) (map (λ (e : Entry). e.at) x.trail) (report_moments xs)) ∙ all) in
    subst (λ (y : Report). list_all (λ (e : Entry). nat_le e.at top) y.trail ≡ true) (sym is) (sym (list_all-map (λ m. nat_le m top) (λ (e : Entry). e.at) x.trail) ∙ parts.0)
moments_held top (x ∷ xs) all r (inr held) =
    let parts = and_parts _ _ (sym (list_all-append (λ m. nat_le m top) (map (λ (e : Entry). e.at) x.trail) (report_moments xs)) ∙ all) in
    moments_held top xs parts.1 r held

last_up_to : (top time : ℕ) (es : List Entry) → nat_le time top ≡ true → list_all (λ (e : Entry). nat_le e.at top) es ≡ true → nat_le (last_at time es) top ≡ true
last_up_to top time [] le all = le
last_up_to top time (e ∷ es) le all = let parts = and_parts (nat_le e.at top) (list_all (λ (x : Entry). nat_le x.at top) es) all in last_up_to top e.at es parts.0 parts.1

module _ (h : Held) where
  all_up_to : (list_all (λ m. nat_le m (time_of h)) (map (λ (x : NumberingItem). x.numbering.at) h.numberings) ≡ true) × (list_all (λ m. nat_le m (time_of h)) (report_moments h.reports) ≡ true)
  all_up_to = and_parts _ _ (sym (list_all-append (λ m. nat_le m (time_of h)) (map (λ (x : NumberingItem). x.numbering.at) h.numberings) (report_moments h.reports)) ∙ up_to (time_of h) (map (λ (x : NumberingItem). x.numbering.at) h.numberings ++ report_moments h.reports) (omega arith))

  pub draws-past : list_all (λ (x : NumberingItem). nat_le x.numbering.at (time_of h)) h.numberings ≡ true
  draws-past = sym (list_all-map (λ m. nat_le m (time_of h)) (λ (x : NumberingItem). x.numbering.at) h.numberings) ∙ all_up_to.0

  pub last-past : (r : Report) → In r h.reports → nat_le (last_at 0 r.trail) (time_of h) ≡ true
  last-past r held = last_up_to (time_of h) 0 r.trail (grind (arith, nat_tests)) (moments_held (time_of h) h.reports all_up_to.1 r held)
