use Rattle.std.proofs.Common.{length, refl, ap, ◌∙◌, arith}
use Rattle.std.specs.Prelude.{slice_index_or}
use Rattle.wb_model.specs.Host.{Tables, changed}
use Rattle.wb_tables.specs.Kept.{place_of, plain_of, tables_of}
use Rattle.wb_tables.specs.declared.tenancy.Tenancy.{Tenancy as KeptTenancy}
use Rattle.wb_tables.proofs.PlacesAt.{place_at}
use Rattle.wb_tables.proofs.Counting.{sessions_set}
use Rattle.wb_commands.specs.Made.{planned_change}
use Rattle.wb_commands.specs.Plans.{given_of}
use Rattle.wb_desk.proofs.SessionCounts.{one_more}
use Rattle.wb_desk.proofs.SetUps.{right_at, right_planned}
use Rattle.wb_desk.proofs.TurnRows.{same_index}
use Rattle.wb_desk.proofs.turn.make_at.Goals as goal

pub apply-requires-clause-place : goal.apply-requires-clause-place
apply-requires-clause-place c = (c.requires.places.0, place_at c.requires.places.0 0 c.args.place c.args.sealed.now.items c.args.tenancies.now c.index-tenancies-place.result c.requires.places.1 c.requires.within)

pub apply-requires-clause-fit : goal.apply-requires-clause-fit
apply-requires-clause-fit c = (c.args.time, (c.requires.room c.index-tenancies-place.result).fit)

pub apply-requires-clause-room : goal.apply-requires-clause-room
apply-requires-clause-room c = (c.requires.room c.index-tenancies-place.result).room

pub apply-requires-clause-own : goal.apply-requires-clause-own
apply-requires-clause-own c = c.requires.own c.index-tenancies-place.result

pub returns-clause-made : goal.returns-clause-made
returns-clause-made c =
    let same = λ (d : KeptTenancy). same_index c.args.place c.args.tenancies.now c.index-tenancies-place.result d c.requires.within in
    let made = c.apply.ensures.tables c.args.time (c.requires.room c.index-tenancies-place.result).fit in
    record {
      tenancy = c.apply.new.tenancy;
      set_at = refl;
      id = λ d. c.apply.ensures.id ∙ ap (λ (x : KeptTenancy). x.configuration.tenant) (same d);
      tables = λ d. made ∙ ap (λ (x : KeptTenancy). changed c.args.time (planned_change x c.args.change) (given_of c.args.change) (tables_of c.args.sealed.now.items (place_of x))) (same d);
      others = λ d t n other. c.apply.ensures.others t n (λ e. other (e ∙ ap (λ (x : KeptTenancy). x.configuration.tenant) (same d)));
    }

pub returns-clause-set_up : goal.returns-clause-set_up
returns-clause-set_up c =
    let x = slice_index_or c.args.tenancies.now c.args.place c.index-tenancies-place.result in
    let roomy = c.requires.room c.index-tenancies-place.result in
    right_at 0 c.args.place c.args.tenancies.now c.apply.new.tenancy c.index-tenancies-place.result c.requires.within c.apply.ensures.id
    (right_planned c.args.time c.args.sealed.now.spare x (place_of c.apply.new.tenancy) c.args.change roomy c.apply.ensures.id (ap (λ (t : Tables). t.plain.registry) (c.apply.ensures.tables c.args.time roomy.fit)))

pub returns-clause-sessions : goal.returns-clause-sessions
returns-clause-sessions c =
    let x = slice_index_or c.args.tenancies.now c.args.place c.index-tenancies-place.result in
    let same = ap (λ (t : Tables). length t.plain.sessions) (c.apply.ensures.tables c.args.time (c.requires.room c.index-tenancies-place.result).fit) in
    let most = one_more (planned_change x c.args.change) (plain_of x).sessions in
    sessions_set c.args.place c.args.tenancies.now c.apply.new.tenancy c.index-tenancies-place.result c.requires.within (omega (arith, same, most))
