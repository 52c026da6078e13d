use Rattle.std.proofs.Common.{◌≡◌, None, refl, sym, ap, ◌∙◌, subst}
use Rattle.wb_model.specs.Changes.{Begins, Notes, Deletes, LogsIn, LogsOut, Configures}
use Rattle.wb_model.specs.Host.{changed, sealed_under}
use Rattle.wb_commands.specs.Plans.{IsFit, HasRoomFor, begins, given_of}
use Rattle.wb_tables.specs.Configured.{setting_of}
use Rattle.wb_tables.specs.Kept.{place_of, plain_of, sealed_of, tables_of}
use Rattle.wb_tables.specs.Logins.{login_of, who_seen}
use Rattle.wb_commands.specs.Made.{IsOwnMutation, planned_change}
use Rattle.wb_commands.proofs.Made.{tables_made}
use Rattle.wb_commands.proofs.mutation.Mutation.apply.Goals as goal

-- ---- a report begins

pub apply-requires-clause-drawn : goal.apply-requires-clause-drawn
apply-requires-clause-drawn c = (c.requires.fit.0, (subst (IsFit c.requires.fit.0 c.args.tenancy.now) c.in-Begins.is c.requires.fit.1).0)

pub apply-requires-clause-begun : goal.apply-requires-clause-begun
apply-requires-clause-begun c = (subst (IsFit c.requires.fit.0 c.args.tenancy.now) c.in-Begins.is c.requires.fit.1).1

pub apply-requires-clause-none : goal.apply-requires-clause-none
apply-requires-clause-none c = (subst (IsFit c.requires.fit.0 c.args.tenancy.now) c.in-Begins.is c.requires.fit.1).2

pub apply-requires-clause-submitted : goal.apply-requires-clause-submitted
apply-requires-clause-submitted c = (subst (IsFit c.requires.fit.0 c.args.tenancy.now) c.in-Begins.is c.requires.fit.1).3

pub apply-requires-clause-own : goal.apply-requires-clause-own
apply-requires-clause-own c = subst (IsOwnMutation (plain_of c.args.tenancy.now)) c.in-Begins.is c.requires.own

pub apply-requires-clause-room : goal.apply-requires-clause-room
apply-requires-clause-room c = (subst (HasRoomFor c.args.tenancy.now c.args.sealed.now.spare) c.in-Begins.is c.requires.room).0

pub apply-requires-clause-sealed_room : goal.apply-requires-clause-sealed_room
apply-requires-clause-sealed_room c = (subst (HasRoomFor c.args.tenancy.now c.args.sealed.now.spare) c.in-Begins.is c.requires.room).1

pub returns-in-Begins-clause-tables : goal.returns-in-Begins-clause-tables
returns-in-Begins-clause-tables c = λ time fit.
    let begun = subst (IsFit time c.args.tenancy.now) c.in-Begins.is fit in
    let o = c.in-Begins.opening in
    subst (λ change. tables_of c.apply.new.sealed.items (place_of c.apply.new.tenancy) ≡ changed time (planned_change c.args.tenancy.now change) (given_of change) (tables_of c.args.sealed.now.items (place_of c.args.tenancy.now))) (sym c.in-Begins.is)
    (tables_made c.args.sealed.now.items c.apply.new.sealed.items (place_of c.args.tenancy.now) (place_of c.apply.new.tenancy) time (Begins begun.1.0) o.secret c.apply.ensures.id (c.apply.ensures.plain time begun.1.0 begun.0 begun.1.1) (λ n. c.apply.ensures.here n ∙ ap (λ k. sealed_under k o.secret (sealed_of c.args.sealed.now.items c.args.tenancy.now.configuration.tenant) n) begun.0.0)
    ∙ sym (ap (λ es. changed time (begins es) o.secret (tables_of c.args.sealed.now.items (place_of c.args.tenancy.now))) begun.1.1))

-- ---- a report gets an entry

pub apply-requires-in-Notes-clause-ready : goal.apply-requires-in-Notes-clause-ready
apply-requires-in-Notes-clause-ready c = (subst (HasRoomFor c.args.tenancy.now c.args.sealed.now.spare) c.in-Notes.is c.requires.room).0

pub apply-requires-in-Notes-clause-room : goal.apply-requires-in-Notes-clause-room
apply-requires-in-Notes-clause-room c = (subst (HasRoomFor c.args.tenancy.now c.args.sealed.now.spare) c.in-Notes.is c.requires.room).1

pub apply-requires-in-Notes-clause-sealed_room : goal.apply-requires-in-Notes-clause-sealed_room
apply-requires-in-Notes-clause-sealed_room c = (subst (HasRoomFor c.args.tenancy.now c.args.sealed.now.spare) c.in-Notes.is c.requires.room).2

pub returns-in-Notes-clause-tables : goal.returns-in-Notes-clause-tables
returns-in-Notes-clause-tables c = λ time fit.
    let n = c.in-Notes.noted in
    subst (λ change. tables_of c.apply-in-Notes.new.sealed.items (place_of c.apply-in-Notes.new.tenancy) ≡ changed time (planned_change c.args.tenancy.now change) (given_of change) (tables_of c.args.sealed.now.items (place_of c.args.tenancy.now))) (sym c.in-Notes.is)
    (tables_made c.args.sealed.now.items c.apply-in-Notes.new.sealed.items (place_of c.args.tenancy.now) (place_of c.apply-in-Notes.new.tenancy) time (Notes n.number n.entry) n.secret c.apply-in-Notes.ensures.id (c.apply-in-Notes.ensures.plain time) (λ k. c.apply-in-Notes.ensures.here k))

-- ---- a report goes

pub returns-in-Deletes-clause-tables : goal.returns-in-Deletes-clause-tables
returns-in-Deletes-clause-tables c = λ time fit.
    subst (λ change. tables_of c.delete_report.new.sealed.items (place_of c.delete_report.new.tenancy) ≡ changed time (planned_change c.args.tenancy.now change) (given_of change) (tables_of c.args.sealed.now.items (place_of c.args.tenancy.now))) (sym c.in-Deletes.is)
    (tables_made c.args.sealed.now.items c.delete_report.new.sealed.items (place_of c.args.tenancy.now) (place_of c.delete_report.new.tenancy) time (Deletes c.in-Deletes.number) None c.delete_report.ensures.id (c.delete_report.ensures.plain time) (λ k. c.delete_report.ensures.here k))

-- ---- a session begins, or ends

pub log_in-requires-clause-room : goal.log_in-requires-clause-room
log_in-requires-clause-room c = (subst (HasRoomFor c.args.tenancy.now c.args.sealed.now.spare) c.in-LogsIn.is c.requires.room)

pub log_in-requires-clause-later : goal.log_in-requires-clause-later
log_in-requires-clause-later c = subst (IsFit c.requires.fit.0 c.args.tenancy.now) c.in-LogsIn.is c.requires.fit.1

pub returns-in-LogsIn-clause-tables : goal.returns-in-LogsIn-clause-tables
returns-in-LogsIn-clause-tables c = λ time fit.
    subst (λ change. tables_of c.args.sealed.now.items (place_of c.log_in.new.tenancy) ≡ changed time (planned_change c.args.tenancy.now change) (given_of change) (tables_of c.args.sealed.now.items (place_of c.args.tenancy.now))) (sym c.in-LogsIn.is)
    (tables_made c.args.sealed.now.items c.args.sealed.now.items (place_of c.args.tenancy.now) (place_of c.log_in.new.tenancy) time (LogsIn (login_of c.in-LogsIn.login)) None c.log_in.ensures.id (c.log_in.ensures.plain time) (λ k. refl))

pub returns-in-LogsOut-clause-tables : goal.returns-in-LogsOut-clause-tables
returns-in-LogsOut-clause-tables c = λ time fit.
    subst (λ change. tables_of c.args.sealed.now.items (place_of c.log_out.new.tenancy) ≡ changed time (planned_change c.args.tenancy.now change) (given_of change) (tables_of c.args.sealed.now.items (place_of c.args.tenancy.now))) (sym c.in-LogsOut.is)
    (tables_made c.args.sealed.now.items c.args.sealed.now.items (place_of c.args.tenancy.now) (place_of c.log_out.new.tenancy) time (LogsOut c.in-LogsOut.turn (who_seen c.in-LogsOut.field-1)) None c.log_out.ensures.id (c.log_out.ensures.plain time (who_seen c.in-LogsOut.field-1) (subst (IsOwnMutation (plain_of c.args.tenancy.now)) c.in-LogsOut.is c.requires.own)) (λ k. refl))

-- ---- a setting is put in

pub apply-requires-in-Configures : goal.apply-requires-in-Configures
apply-requires-in-Configures c = record { ready = (subst (HasRoomFor c.args.tenancy.now c.args.sealed.now.spare) c.in-Configures.is c.requires.room) }

pub returns-in-Configures-clause-tables : goal.returns-in-Configures-clause-tables
returns-in-Configures-clause-tables c = λ time fit.
    let x = c.args.tenancy.now.configuration in
    subst (λ change. tables_of c.args.sealed.now.items (place_of c.apply-in-Configures.new.tenancy) ≡ changed time (planned_change c.args.tenancy.now change) (given_of change) (tables_of c.args.sealed.now.items (place_of c.args.tenancy.now))) (sym c.in-Configures.is)
    (tables_made c.args.sealed.now.items c.args.sealed.now.items (place_of c.args.tenancy.now) (place_of c.apply-in-Configures.new.tenancy) time (Configures (setting_of x.tenant x.registry c.in-Configures.next.proposal)) None c.apply-in-Configures.ensures.id (c.apply-in-Configures.ensures.plain time) (λ k. refl))
