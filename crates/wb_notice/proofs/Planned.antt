-- What the changes of a delivery make of the rows of an outbox.
use Rattle.std.proofs.Common.{◌≡◌, ℕ, ◌++◌, List, [], ◌∷◌, map, filter, sym, ap, ◌∙◌, arith}
use Rattle.std.proofs.lemmas.List.Elements.{All-append, All-cons, All-nil}
use Rattle.std.specs.Prelude.{All}
use Rattle.wb_base.specs.KeptRows.{IsGoodChange, all_changed}
use Rattle.wb_base.specs.declared.rows.Change.{Change as RowChange}
use Rattle.wb_base.specs.declared.rows.Change.TheVariants.{Put}
use Rattle.wb_base.specs.declared.rows.Row.{Row}
use Rattle.wb_model.proofs.Found.{filter_same}
use Rattle.wb_model.proofs.TurnRows.{changed_append}
use Rattle.wb_notice.specs.declared.live.LiveReport.{LiveReport}
use Rattle.wb_notice.specs.declared.notice.Notice.{Notice}
use Rattle.wb_notice.specs.LiveReports.{has_report, is_among}
use Rattle.wb_notice.specs.Notices.{notice_row}
use Rattle.wb_notice.specs.Outbox.{box, is_of_live, lives, new_rows}
use Rattle.wb_notice.specs.Owed.{Unsealed}
use Rattle.wb_notice.proofs.ListFacts.{filter-map}

-- the rows of notices may be put
puts_good : (ns : List Notice) → All IsGoodChange (map Put (map notice_row ns))
puts_good [] = All-nil IsGoodChange
puts_good (n ∷ ns) = All-cons IsGoodChange (Put (notice_row n)) (map Put (map notice_row ns)) (omega arith, λ e. absurd (omega (arith, e))) (puts_good ns)

pub batch_good : (drops : List RowChange) (ns : List Notice) → All IsGoodChange drops → All IsGoodChange (drops ++ map Put (map notice_row ns))
batch_good drops ns good = All-append IsGoodChange drops (map Put (map notice_row ns)) good (puts_good ns)

module _ (x : Unsealed) (now : ℕ) (live : List LiveReport) (all : (t n : ℕ) → has_report live t n ≡ lives x now t n) where
  -- the drops leave the rows of live reports
  left : (held : List Notice) (drops : List RowChange) → all_changed (map notice_row held) drops ≡ map notice_row (filter (is_among live) held) → all_changed (map notice_row held) drops ≡ filter (is_of_live x now) (map notice_row held)
  left held drops dropped =
      dropped ∙ (ap (map notice_row) (filter_same (is_among live) (λ (n : Notice). lives x now n.tenant n.number) (λ n. all n.tenant n.number) held) ∙ sym (filter-map notice_row (is_of_live x now) held))

  -- and with the new rows the outbox is what it is to be
  pub planned : (rows : List Row) (held : List Notice) (drops : List RowChange) → rows ≡ map notice_row held → all_changed (map notice_row held) drops ≡ map notice_row (filter (is_among live) held)
      → all_changed rows (drops ++ map Put (new_rows x now rows)) ≡ box x now rows
  planned rows held drops own dropped =
      changed_append rows drops (map Put (new_rows x now rows))
      ∙ ap (λ l. all_changed l (map Put (new_rows x now rows))) (ap (λ l. all_changed l drops) own ∙ (left held drops dropped ∙ ap (filter (is_of_live x now)) (sym own)))
