use Rattle.std.proofs.Common.{◌≡◌, ◌≤◌, List, map, refl, sym, ap, ◌∙◌, subst}
use Rattle.std.specs.Prelude.{All}
use Rattle.std.specs.List.Sorted.{IsStrictlySortedBy}
use Rattle.wb_base.specs.KeptRows.{all_changed, key_cmp, key_of, IsGoodChange}
use Rattle.wb_base.specs.declared.rows.Row.{Row as KeptRow}
use Rattle.wb_base.specs.declared.rows.Change.{Change}
use Rattle.wb_model.specs.Rows.{rows, rows_of, rows_in}
use Rattle.wb_model.specs.Tenants.{Hosts}
use Rattle.wb_rows.specs.Held.{held_by}
use Rattle.wb_rows.specs.Judged.{format_of, judged}
use Rattle.wb_rows.specs.Openings.{tables_of, tenancies_of, time_of, with_setup}
use Rattle.wb_tables.specs.Kept.{place_of, tenancy_of}
use Rattle.wb_tables.specs.Standing.{hosts_of}
use Rattle.wb_desk.specs.Desks.{IsDesk}
use Rattle.wb_recovery.specs.HeldPlaces.{held_places}
use Rattle.wb_desk.specs.Openings.{IsOpenedOver}
use Rattle.wb_desk.specs.Turns.{standing}
use Rattle.wb_desk.proofs.KeptOpenings.{AreRead, is_desk, opened_over, same_tenancies}
use Rattle.wb_desk.proofs.Reopened.{reopened}
use Rattle.wb_desk.proofs.desk.Desk.open.Given as given
use Rattle.wb_desk.proofs.desk.Desk.open.Goals as goal
use Rattle.wb_desk.proofs.desk.Desk.open.Goals.{In_ok-time}

pub keep-requires : goal.keep-requires
keep-requires g c = subst (λ (changes : List Change). All IsGoodChange changes) (sym c.as_slice-2.ensures.value) c.in_ok-time.ensures.good

pub begin-requires-clause-receipts : goal.begin-requires-clause-receipts
begin-requires-clause-receipts g c = λ t.
    let h = held_by c.in_ok-kept.kept in
    (c.setups_and_kept_rows_make_openings.ensures.kept_rows (time_of h) h.lists t (tables_of h t) (c.in_ok-kept.ensures.kept t)).receipts

pub invariant_of-result : goal.invariant_of-result
invariant_of-result g c =
    let setup = c.args.setup.now.lists in
    let h = held_by c.in_ok-kept.kept in
    let told = c.in_ok-kept.ensures in
    let read : AreRead h = record { set_up = told.set_up; kept = told.kept; others = told.others } in
    let made = c.in_ok-time.ensures in
    let same : standing 0 c.in_ok-time.field-0.time (map place_of c.in_ok-time.field-0.tenancies.items) c.in_ok-time.field-0.sealed.items ≡ standing 0 (time_of h) (held_places (with_setup setup h)) c.in_ok-kept.kept.sealed.items =
    λ i. standing 0 (made.time i) (made.places i) (made.sealed i).items in
    subst IsDesk (sym same) (is_desk setup h read (c.a_kept_tenant_stays_whole.ensures setup h.lists) (c.kept_rows_and_a_setup_make_an_opening.ensures setup h.lists c.requires.set_up told.set_up) c.setups_and_kept_rows_make_openings.ensures.setups c.setups_and_kept_rows_make_openings.ensures.kept_rows
    c.in_ok-kept.kept.sealed.items refl (subst (λ n. n ≤ 99_999_999_999) made.time c.seconds-seconds.ensures.high) (c.openings_are_read_back.ensures setup h c.requires.set_up c.requires.stored told.set_up told.stored told.readable told.others))

-- the desk is opened over the rows that were read
opened_here : (g : given.Over) (c : In_ok-time g) → IsOpenedOver c.in_ok-rows.rows.items c.args.setup.now.lists (hosts_of (standing 0 c.in_ok-time.field-0.time (map place_of c.in_ok-time.field-0.tenancies.items) c.in_ok-time.field-0.sealed.items))
opened_here g c =
    let setup = c.args.setup.now.lists in
    let h = held_by c.in_ok-kept.kept in
    let told = c.in_ok-kept.ensures in
    let read : AreRead h = record { set_up = told.set_up; kept = told.kept; others = told.others } in
    let made = c.in_ok-time.ensures in
    let same : standing 0 c.in_ok-time.field-0.time (map place_of c.in_ok-time.field-0.tenancies.items) c.in_ok-time.field-0.sealed.items ≡ standing 0 (time_of h) (held_places (with_setup setup h)) c.in_ok-kept.kept.sealed.items =
    λ i. standing 0 (made.time i) (made.places i) (made.sealed i).items in
    subst (λ (hosts : Hosts). IsOpenedOver c.in_ok-rows.rows.items setup hosts) (ap hosts_of (sym same))
    (opened_over setup h read (c.a_kept_tenant_stays_whole.ensures setup h.lists) (c.kept_rows_and_a_setup_make_an_opening.ensures setup h.lists c.requires.set_up told.set_up) c.setups_and_kept_rows_make_openings.ensures.setups c.setups_and_kept_rows_make_openings.ensures.kept_rows
    c.in_ok-kept.kept.sealed.items refl c.in_ok-rows.rows.items told.ok)

pub returns-clause-past : goal.returns-clause-past
returns-clause-past g c = (
  c.in_ok-rows.rows.items,
  (λ honest before held. sym (c.in_ok-rows.ensures.all (c.keep.ensures.back honest) before held)),
  opened_here g (goal.at.returns-clause-past g c).In_ok-time,
)

pub returns-clause-kept : goal.returns-clause-kept
returns-clause-kept g c = λ honest rows held_before.
    let setup = c.args.setup.now.lists in
    let h = held_by c.in_ok-kept.kept in
    let told = c.in_ok-kept.ensures in
    let read : AreRead h = record { set_up = told.set_up; kept = told.kept; others = told.others } in
    let made = c.in_ok-time.ensures in
    let stays = c.a_kept_tenant_stays_whole.ensures setup h.lists in
    let set_up = c.kept_rows_and_a_setup_make_an_opening.ensures setup h.lists c.requires.set_up told.set_up in
    let law = c.setups_and_kept_rows_make_openings.ensures in
    let back = c.keep.ensures.back honest in
    let loaded = c.in_ok-rows.ensures.all back rows held_before in
    let after = c.in_ok-keep.ensures.ok honest rows (c.load.ensures.same back rows held_before) in
    let whole = ap (λ format. rows_in format (tenancies_of h)) (c.format_of-format.ensures ∙ ap format_of c.as_slice.ensures.value) ∙ (told.whole ∙ loaded) in
    let up = subst (λ (xs : List KeptRow). IsStrictlySortedBy key_cmp (map key_of xs)) loaded c.in_ok-rows.ensures.ascending in
    let puts = made.rows told.others rows up whole in
    let list = (λ i. map (tenancy_of (made.sealed i).items) (made.places i)) ∙ same_tenancies setup h read stays set_up law.setups law.kept_rows c.in_ok-kept.kept.sealed.items refl in
    subst (g.K.Keeper.end c.keep.new.keeper).holds (ap (all_changed rows) c.as_slice-2.ensures.value ∙ (puts ∙ sym (ap rows_of list))) after

pub returns-clause-reopened : goal.returns-clause-reopened
returns-clause-reopened g c = λ before is honest held.
    let law = c.what_hosts_leave_is_read.ensures in
    let loaded = c.in_ok-rows.ensures.all (c.keep.ensures.back honest) (rows before) held in
    reopened before c.args.setup.now.lists c.in_ok-rows.rows.items _ (opened_here g (goal.at.returns-clause-reopened g c).In_ok-time) (ap judged loaded ∙ law.read before is) (law.left before is) (c.a_kept_tenant_stays_whole.ensures c.args.setup.now.lists)
