use Rattle.std.proofs.Common.{◌≡◌, Some, refl, sym, ap, ◌∙◌}
use Rattle.std.proofs.lemmas.Bool.{eq-eqb}
use Rattle.std.proofs.lemmas.Cmp.{nat_list_eq_equiv}
use Rattle.wb_base.specs.declared.rows.Row.{Row}
use Rattle.wb_notice.specs.Notices.{notice_row}
use Rattle.wb_notice.proofs.NoticeTexts.{told}
use Rattle.wb_notice.proofs.reading.read_notice.Goals as goal

pub returns-in_default-clause-none : goal.returns-in_default-clause-none
returns-in_default-clause-none c h =
    let t = told c.args.row.now h in
    let day : c.told_day.result ≡ Some h.notice.day = (rw c.as_str.ensures at c.told_day.ensures.day) t.0 ∙ t.1 in
    cc (day, c.in_default.is)

pub returns-in_default-notice_of-clause-none : goal.returns-in_default-notice_of-clause-none
returns-in_default-notice_of-clause-none c h =
    let t = told c.args.row.now h in
    let day : c.told_day.result ≡ Some h.notice.day = (rw c.as_str.ensures at c.told_day.ensures.day) t.0 ∙ t.1 in
    let same : c.in-Some.day ≡ h.notice.day = cc (day, c.in-Some.is) in
    let found = c.notice_of.ensures.each h.notice h.ranged (ap (λ (r : Row). r.key) h.own) same in
    cc (found, c.in_default-notice_of.is)

pub returns-else-eq-clause-none : goal.returns-else-eq-clause-none
returns-else-eq-clause-none c h =
    let t = told c.args.row.now h in
    let r = c.args.row.now in
    let day : c.told_day.result ≡ Some h.notice.day = (rw c.as_str.ensures at c.told_day.ensures.day) t.0 ∙ t.1 in
    let same : c.in-Some.day ≡ h.notice.day = cc (day, c.in-Some.is) in
    let found = c.notice_of.ensures.each h.notice h.ranged (ap (λ (r : Row). r.key) h.own) same in
    let notice : c.in-Some-notice_of.notice ≡ h.notice = cc (found, c.in-Some-notice_of.is) in
    let own : c.in_ok-notice_row.field-0 ≡ r = c.in_ok-notice_row.ensures ∙ (ap notice_row notice ∙ sym h.own) in
    let equal = rw (
      own,
      eq-eqb r.key.kind r.key.kind refl,
      eq-eqb r.key.tenant r.key.tenant refl,
      eq-eqb r.key.a r.key.a refl,
      eq-eqb r.key.b r.key.b refl,
      nat_list_eq_equiv.refl r.text,
    ) at c.eq.ensures in
    cc (equal, c.if-eq.false)
