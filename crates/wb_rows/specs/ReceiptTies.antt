-- Two submissions have the same receipt where the tenant and the digest are the same in order.
use Rattle.std.specs.Prelude.{◌≡◌, ℕ, ◌==◌, ◌&&◌, Bool, true, false, refl, Option, Some, None}
use mathlib.Core.Path.{◌∙◌}
use Rattle.std.specs.Cmp.{both_tied, unsigned_ties}
use Rattle.std.specs.Cmp.Lexicographic.{texts_ties}
use Rattle.std.specs.Option.{option_map}
use Rattle.std.proofs.lemmas.Cmp.{eq_by_cmp_equiv}
use Rattle.std.specs.declared.cmp.Ordering.{Ordering}
use Rattle.wb_base.specs.declared.words.Digest.{Digest}
use Rattle.wb_row_codec.specs.declared.item.EntryItem.{EntryItem}
use Rattle.wb_model.specs.Trails.{Submission, submission_in}
use Rattle.wb_rows.specs.Marks.{same_mark}
use Rattle.wb_rows.specs.NameTies.{place_cmp, place_total}
use Rattle.wb_rows.specs.ReportRules.{is_same_receipt, same_receipt}

-- the tenant and the digest
abbrev pub digest_cmp : ℕ × Digest → ℕ × Digest → Ordering
digest_cmp a b = place_cmp (a.0, a.1.0) (b.0, b.1.0)

abbrev pub receipt_mark : ℕ → Option Submission → Option (ℕ × Digest)
receipt_mark t s = option_map (λ (x : Submission). (t, record { 0 = x.receipt })) s

neither : (b : Bool) → (b && false) ≡ false
neither true = refl
neither false = refl

tied : (t u : ℕ) (s r : Option Submission) → ((t == u) && is_same_receipt s r) ≡ same_mark digest_cmp (receipt_mark t s) (receipt_mark u r)
tied t u None r = neither (t == u)
tied t u (Some s) None = neither (t == u)
tied t u (Some s) (Some r) = both_tied _ _ _ _ (unsigned_ties t u) (texts_ties s.receipt r.receipt) ∙ (eq_by_cmp_equiv place_total).symm (t, s.receipt) (u, r.receipt)

pub receipts_tie : (x y : EntryItem) → same_receipt x y ≡ same_mark digest_cmp (receipt_mark x.tenant (submission_in x.entry.deed)) (receipt_mark y.tenant (submission_in y.entry.deed))
unfolding same_receipt
receipts_tie x y = tied x.tenant y.tenant (submission_in x.entry.deed) (submission_in y.entry.deed)
