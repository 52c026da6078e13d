use Rattle.std.proofs.Common.{◌≡◌, Bool, true, false, sym, ap, ◌∙◌, rules}
use Rattle.std.specs.Prelude.{◌&&◌}
use Rattle.wb_base.specs.Days.{day_of}
use Rattle.wb_model.specs.Legal as legal
use Rattle.wb_rows.specs.Legality.{right_days}
use Rattle.wb_rows.proofs.legal.is_first.Goals as goal

all : (a b x v : Bool) → a ≡ true → b ≡ true → x ≡ v → x ≡ (true && a && (b && v))
all a b x v ha hb hx = rw (ha, hb) hx

not_all : (a b x v : Bool) → a ≡ true → b ≡ false → x ≡ b → x ≡ (true && a && (b && v))
not_all a b x v ha hb hx = rw (ha, hb) (hx ∙ hb)

pub returns-then-right_days : goal.returns-then-right_days
returns-then-right_days c = let s = c.in-Submitted in
    let on : c.day_of-today.result ≡ day_of c.args.entry.now.at c.args.days.now.offset = search rules in
    let days : right_days c.args.days.now.calendar.now (day_of c.args.entry.now.at c.args.days.now.offset) s.received s.ack_due s.feedback_due s.expires ≡ c.right_days.result = sym (c.right_days.ensures ∙ ap (λ today. right_days c.args.days.now.calendar.now today s.received s.ack_due s.feedback_due s.expires) on) in
    rw s.is (all (legal.is_reporter c.args.entry.now.by) (right_days c.args.days.now.calendar.now (day_of c.args.entry.now.at c.args.days.now.offset) s.received s.ack_due s.feedback_due s.expires) c.are_readers.result (legal.are_readers s.readers) (sym c.is_reporter.ensures ∙ c.if-not-is_reporter.false) (days ∙ c.if-right_days.true) (c.are_readers.ensures ∙ ap legal.are_readers c.as_slice.ensures))

pub returns-else-right_days : goal.returns-else-right_days
returns-else-right_days c = let s = c.in-Submitted in
    let on : c.day_of-today.result ≡ day_of c.args.entry.now.at c.args.days.now.offset = search rules in
    let days : right_days c.args.days.now.calendar.now (day_of c.args.entry.now.at c.args.days.now.offset) s.received s.ack_due s.feedback_due s.expires ≡ c.right_days.result = sym (c.right_days.ensures ∙ ap (λ today. right_days c.args.days.now.calendar.now today s.received s.ack_due s.feedback_due s.expires) on) in
    rw s.is (not_all (legal.is_reporter c.args.entry.now.by) (right_days c.args.days.now.calendar.now (day_of c.args.entry.now.at c.args.days.now.offset) s.received s.ack_due s.feedback_due s.expires) c.right_days.result (legal.are_readers s.readers) (sym c.is_reporter.ensures ∙ c.if-not-is_reporter.false) (days ∙ c.if-right_days.false) (sym days))
