use Rattle.std.proofs.Common.{◌≡◌, ◌≤◌, Bool, true, false, length, refl, sym, ap, ◌∙◌}
use Rattle.std.proofs.lemmas.List.{drop_all}
use Rattle.std.specs.List.{list_any}
use Rattle.std.specs.Prelude.{◌||◌}
use Rattle.wb_notice.specs.LiveReports.{has_report}
use Rattle.wb_notice.proofs.LiveOnes.{any_here, found_with, is_here, lives_itself, none_live, one_live}
use Rattle.wb_notice.proofs.live.live_reports.Goals as goal
use Rattle.wb_notice.proofs.live.live_reports.Goals.{then-is_live_report+in_ok-reserve, else-is_live_report}

pub loop-item-preserved : goal.loop-item-preserved
loop-item-preserved c t n =
    let lists = c.args.tables.now.registry.lists in
    let now = c.args.now in
    let items = c.args.tables.now.cases in
    let i = c.loop-item.item-index in
    let x = c.item-item.result in
    let old = c.loop-item.reports.items in
    let within = rw c.as_slice-item-items.ensures at c.loop-item-test.true in
    let is = rw c.as_slice-item-items.ensures at c.item-item.is in
    elim c.if-is_live_report.branch [
      | then-is_live_report+in_ok-reserve w ↦
          let live : lives_itself lists now x ≡ true = sym c.is_live_report.ensures ∙ w.if-is_live_report.true in
          let found = rw w.in_ok-reserve.ensures.items at (w.set.ensures.found (t, n)) in
          rw w.reports-is (one_live lists now items i x within is t n (has_report old t n) _ live (found_with lists now items i x within is t n old _ (record { tenant = x.tenant; number = x.number }) refl refl found) (c.loop-item.invariant t n))
      | else-is_live_report w ↦
          let dead : lives_itself lists now x ≡ false = sym c.is_live_report.ensures ∙ w.if-is_live_report.false in
          rw w.reports-is (none_live lists now items i x within is t n (has_report old t n) dead (c.loop-item.invariant t n))
    ]

or_none : (b : Bool) → b ≡ (b || false)
or_none true = refl
or_none false = refl

pub returns : goal.returns
returns c t n =
    let items = c.args.tables.now.cases in
    let i = c.loop-item.item-index in
    let lists = c.args.tables.now.registry.lists in
    let over : length items ≤ i = rw c.as_slice-item-items.ensures at c.loop-item-test.false in
    or_none (has_report c.loop-item.reports.items t n)
    ∙ (ap (λ l. has_report c.loop-item.reports.items t n || list_any (is_here lists c.args.now t n) l) (sym (drop_all i items over))
    ∙ (c.loop-item.invariant t n ∙ any_here lists c.args.now t n items))
