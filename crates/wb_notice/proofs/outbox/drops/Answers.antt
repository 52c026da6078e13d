use Rattle.std.proofs.Common.{◌≡◌, ◌+◌, ◌++◌, ◌∷◌, [], false, true, take, sym, ap, ◌∙◌}
use Rattle.std.proofs.lemmas.List.{take_all, take_more}
use Rattle.wb_notice.specs.LiveReports.{is_among, is_on_last}
use Rattle.wb_notice.proofs.Dropped.{gone_again, gone_all, gone_good, gone_live, gone_more, gone_none}
use Rattle.wb_notice.proofs.outbox.drops.Goals as goal
use Rattle.wb_notice.proofs.outbox.drops.Goals.{then-not-is_live+then-not-is_of_last+in_ok-push, else-not-is_live, else-not-is_live-via-then-not-is_live+else-not-is_of_last, else-not-is_live-via-else-not-is_live}

pub loop-notice-init : goal.loop-notice-init
loop-notice-init c = rw c.new-drops.ensures.items (gone_none c.args.live.now.items)

pub loop-notice-preserved : goal.loop-notice-preserved
loop-notice-preserved c =
    let ns = c.args.notices.now in
    let i = c.loop-notice.notice-index in
    let n = c.notice-item.result in
    let live = c.args.live.now.items in
    let ds = c.loop-notice.drops.items in
    let last = c.loop-notice.last in
    let inv = c.loop-notice.invariant in
    let grown : take (i + 1) ns ≡ take i ns ++ n ∷ [] = take_more ns i n c.loop-notice-test.true ∙ ap (λ m. take i ns ++ m ∷ []) (sym c.notice-item.is) in
    elim c.if-not-is_live.branch [
      | then-not-is_live+then-not-is_of_last+in_ok-push w ↦
          let dead : is_among live n ≡ false = sym c.is_live.ensures ∙ w.if-not-is_live.true in
          rw (grown, w.drops-is, w.last-is, w.in_ok-push.ensures.items) (gone_more live (take i ns) ds last n inv dead)
      | else-not-is_live w ↦ elim w.else-not-is_live.branch [
        | else-not-is_live-via-then-not-is_live+else-not-is_of_last w' ↦
            let same : is_on_last last n ≡ true = sym w'.is_of_last.ensures ∙ w'.if-not-is_of_last.false in
            rw (grown, w.drops-is, w.last-is) (gone_again live (take i ns) ds last n inv same)
        | else-not-is_live-via-else-not-is_live w' ↦
            let lives : is_among live n ≡ true = sym c.is_live.ensures ∙ w'.if-not-is_live.false in
            rw (grown, w.drops-is, w.last-is) (gone_live live (take i ns) ds last n inv lives)
      ]
    ]

pub returns-clause-rows : goal.returns-clause-rows
returns-clause-rows c =
    let all : take c.loop-notice.notice-index c.args.notices.now ≡ c.args.notices.now = take_all c.loop-notice.notice-index c.args.notices.now c.loop-notice-test.false in
    gone_all c.args.live.now.items c.args.notices.now c.loop-notice.drops.items c.loop-notice.last (rw all at c.loop-notice.invariant)

pub returns-clause-good : goal.returns-clause-good
returns-clause-good c = gone_good c.loop-notice.drops.items c.loop-notice.invariant.drops
