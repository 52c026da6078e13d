use Rattle.std.proofs.Common.{rules, ◌≡◌, ◌≢◌, ◌<◌, [], length, map, refl, sym, ap, ◌∙◌, subst, arith}
use Rattle.std.specs.Prelude.{All, slice_index_or}
use Rattle.wb_base.specs.KeptRows.{all_changed, IsGoodChange}
use Rattle.wb_model.specs.Commands.{tenant_of}
use Rattle.wb_model.specs.Rows.{rows_of}
use Rattle.wb_tables.specs.Kept.{place_of, tenancy_of, live_place}
use Rattle.wb_desk.proofs.ChangeRows.{puttable}
use Rattle.wb_desk.proofs.KeptTurns.{keeps_at, lost_turn, names_none, pick}
use Rattle.wb_desk.proofs.OwnSessions.{own_at}
use Rattle.wb_desk.proofs.Rooms.{room_made}
use Rattle.wb_desk.proofs.Tenants.{tenant_there}
use Rattle.wb_desk.proofs.TurnRows.{batch_same, rows_at}
use Rattle.wb_desk.proofs.Whole.{IsPurge, purge_of, turn_over, length_same}
use Rattle.wb_desk.proofs.turn.turn_at.Goals as goal

pub returns-in_default-clause-turn : goal.returns-in_default-clause-turn
returns-in_default-clause-turn g c = (
  record { places = c.prepare_at.ensures.tenants_left; sealed = c.prepare_at.ensures.sealed_left },
  λ health. absurd (let there : 0 < tenant_of c.args.asked.now.command = tenant_there c.requires.places.0 (tenant_of c.args.asked.now.command) c.args.place c.args.sealed.now.items c.args.tenancies.now c.requires.places.2 c.requires.place in
      let none : tenant_of c.args.asked.now.command ≡ 0 = names_none c.args.asked.now.command health in omega (arith, there, none)),
)

pub keep-requires : goal.keep-requires
keep-requires g c =
    let within : c.args.place < length c.prepare_at.new.tenancies = length_same c.args.place c.args.tenancies.now c.prepare_at.new.tenancies c.prepare_at.ensures.tenants_left c.requires.place.within in
    subst (All IsGoodChange) (sym c.as_slice.ensures.value) (pick c.prepare_at.new.tenancies c.args.place within (λ d. (c.in-Ok.ensures.batch d).good))

pub returns-in-Err-clause-turn : goal.returns-in-Err-clause-turn
returns-in-Err-clause-turn g c =
    lost_turn (map place_of c.args.tenancies.now) c.args.sealed.now.items (map place_of c.prepare_at.new.tenancies) c.prepare_at.new.sealed.items c.args.at.now c.args.asked.now c.in-Err.lost (record { places = c.prepare_at.ensures.tenants_left; sealed = c.prepare_at.ensures.sealed_left })
    (pick c.args.tenancies.now c.args.place c.requires.place.within (λ d.
    keeps_at c.requires.places.0 (tenant_of c.args.asked.now.command) c.args.place c.args.at.now c.args.asked.now c.args.sealed.now.items c.args.tenancies.now d c.in-Ok.batched.plan c.in-Ok.batched.batch.items c.requires.places.2 c.requires.place refl (c.in-Ok.ensures.plan d)
    (batch_same c.args.at.now.time c.args.place c.args.tenancies.now c.prepare_at.new.tenancies d c.in-Ok.batched.plan.change c.in-Ok.batched.batch.items c.prepare_at.ensures.tenants_left (c.in-Ok.ensures.batch d))
    (subst (λ l. l ≢ []) c.as_slice.ensures.value c.in-Err.ensures.asked)))

pub make_at-requires-clause-room : goal.make_at-requires-clause-room
make_at-requires-clause-room g c =
    room_made c.requires.places.0 c.args.at.now.time c.args.place c.prepare_at.new.sealed.spare c.purge_all.new.sealed.spare c.args.sealed.now.items c.args.tenancies.now c.prepare_at.new.tenancies c.purge_all.new.tenancies c.in-Ok.batched.plan.change
    c.requires.places.2 c.prepare_at.ensures.tenants_left c.purge_all.ensures.kept c.purge_all.ensures.places c.requires.place.within c.purge_all.ensures.sealed_room c.in-Ok.ensures.room

pub make_at-requires-clause-own : goal.make_at-requires-clause-own
make_at-requires-clause-own g c = λ d.
    own_at c.requires.places.0 c.args.place c.args.at.now c.args.asked.now c.in-Ok.batched.plan c.args.sealed.now.items c.args.tenancies.now c.purge_all.new.tenancies d (slice_index_or c.prepare_at.new.tenancies c.args.place d) c.requires.places.2
    (c.purge_all.ensures.places ∙ ap (map (live_place c.args.at.now.time)) c.prepare_at.ensures.tenants_left) c.requires.place.within (c.in-Ok.ensures.room d).fit (c.in-Ok.ensures.plan d)

pub returns-clause-turn : goal.returns-clause-turn
returns-clause-turn g c =
    let purge : IsPurge c.args.at.now.time (map place_of c.args.tenancies.now) c.args.sealed.now.items (map place_of c.purge_all.new.tenancies) c.purge_all.new.sealed.items = (purge_of c.args.at.now.time (map place_of c.args.tenancies.now) (map place_of c.prepare_at.new.tenancies) (map place_of c.purge_all.new.tenancies) c.args.sealed.now.items c.prepare_at.new.sealed.items c.purge_all.new.sealed.items
    (sym c.prepare_at.ensures.tenants_left) (sym c.prepare_at.ensures.sealed_left) c.purge_all.ensures.places c.purge_all.ensures.hosts) in
    turn_over c.requires.places.0 (tenant_of c.args.asked.now.command) c.args.place c.args.at.now c.args.asked.now c.in-Ok.batched.plan c.args.sealed.now.items c.purge_all.new.sealed.items c.make_at.new.sealed.items c.args.tenancies.now c.purge_all.new.tenancies c.make_at.new.tenancies
    c.requires.places.2 c.requires.place refl c.in-Ok.ensures.plan purge c.make_at.ensures.made c.make_at.ensures.set_up c.make_at.ensures.sessions

pub returns-clause-keeper : goal.returns-clause-keeper
returns-clause-keeper g c = record {
  kept = λ h held.
      let purge : IsPurge c.args.at.now.time (map place_of c.args.tenancies.now) c.args.sealed.now.items (map place_of c.purge_all.new.tenancies) c.purge_all.new.sealed.items = (purge_of c.args.at.now.time (map place_of c.args.tenancies.now) (map place_of c.prepare_at.new.tenancies) (map place_of c.purge_all.new.tenancies) c.args.sealed.now.items c.prepare_at.new.sealed.items c.purge_all.new.sealed.items
      (sym c.prepare_at.ensures.tenants_left) (sym c.prepare_at.ensures.sealed_left) c.purge_all.ensures.places c.purge_all.ensures.hosts) in
      subst (g.K.Keeper.end c.keep.new.keeper).holds
      (ap (all_changed (rows_of (map (tenancy_of c.args.sealed.now.items) (map place_of c.args.tenancies.now)))) c.as_slice.ensures.value
      ∙ rows_at c.requires.places.0 c.args.at.now.time c.args.place c.args.sealed.now.items c.purge_all.new.sealed.items c.make_at.new.sealed.items c.args.tenancies.now c.purge_all.new.tenancies c.make_at.new.tenancies c.in-Ok.batched.plan.change c.in-Ok.batched.batch.items c.requires.places.2 c.requires.place.within
      (λ d. batch_same c.args.at.now.time c.args.place c.args.tenancies.now c.prepare_at.new.tenancies d c.in-Ok.batched.plan.change c.in-Ok.batched.batch.items c.prepare_at.ensures.tenants_left (c.in-Ok.ensures.batch d))
      purge
      (λ d. puttable c.args.at.now.time c.purge_all.new.sealed.spare (slice_index_or c.purge_all.new.tenancies c.args.place d) c.in-Ok.batched.plan.change
      (room_made c.requires.places.0 c.args.at.now.time c.args.place c.prepare_at.new.sealed.spare c.purge_all.new.sealed.spare c.args.sealed.now.items c.args.tenancies.now c.prepare_at.new.tenancies c.purge_all.new.tenancies c.in-Ok.batched.plan.change
      c.requires.places.2 c.prepare_at.ensures.tenants_left c.purge_all.ensures.kept c.purge_all.ensures.places c.requires.place.within c.purge_all.ensures.sealed_room c.in-Ok.ensures.room d))
      c.make_at.ensures.made)
      (c.in-Ok-keep.ensures.ok h (rows_of (map (tenancy_of c.args.sealed.now.items) (map place_of c.args.tenancies.now))) held);
  back = c.in-Ok-keep.ensures.back;
  later = c.in-Ok-keep.ensures.later;
  fault = λ e. cc;
  stayed = λ e. search rules;
}
