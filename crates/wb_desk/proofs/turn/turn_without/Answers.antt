use Rattle.std.proofs.Common.{[], map, refl, ◌∙◌, subst}
use Rattle.std.specs.Prelude.{◌≢◌}
use Rattle.wb_tables.specs.Kept.{place_of}
use Rattle.wb_desk.proofs.KeptTurns.{dead_keeps, keeps_without, lost_turn, names_none}
use Rattle.wb_desk.proofs.Whole.{turn_without}
use Rattle.wb_desk.proofs.turn.turn_without.Goals as goal

pub returns-in_default-clause-turn : goal.returns-in_default-clause-turn
returns-in_default-clause-turn g c =
    (record { places = refl; sealed = refl }, λ health. dead_keeps (map place_of c.args.tenancies.now) c.args.sealed.now.items c.args.at.now c.args.asked.now (c.in_default.ensures.health (c.requires.tenant ∙ names_none c.args.asked.now.command health)))

pub returns-in-Err-clause-turn : goal.returns-in-Err-clause-turn
returns-in-Err-clause-turn g c =
    lost_turn (map place_of c.args.tenancies.now) c.args.sealed.now.items (map place_of c.args.tenancies.now) c.args.sealed.now.items c.args.at.now c.args.asked.now c.in-Err.lost (record { places = refl; sealed = refl })
    (keeps_without (map place_of c.args.tenancies.now) c.args.sealed.now.items c.args.at.now c.args.asked.now c.in-Ok.unnamed.batch.items c.in-Ok.ensures.batch (subst (λ l. l ≢ []) c.as_slice.ensures.value c.in-Err.ensures.asked))

pub returns-clause-turn : goal.returns-clause-turn
returns-clause-turn g c =
    turn_without c.requires.places.0 c.args.t c.args.at.now c.args.asked.now c.in-Ok.unnamed.told c.args.sealed.now.items c.purge_all.new.sealed.items (map place_of c.args.tenancies.now) (map place_of c.purge_all.new.tenancies)
    c.requires.places.2 c.requires.tenant c.requires.absent c.in-Ok.ensures.told (record { places = c.purge_all.ensures.places; hosts = c.purge_all.ensures.hosts })
