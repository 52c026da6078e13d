use Rattle.std.proofs.Common.{Some, None, sym, ap, ◌∙◌}
use Rattle.std.specs.Prelude.{if◌then◌else◌}
use Rattle.wb_access.specs.Sessions.{session_shown}
use Rattle.wb_model.specs.declared.registry.TenantItem.{TenantItem}
use Rattle.wb_tables.specs.Kept.{live_plain, plain_of}
use Rattle.wb_tables.specs.Logins.{session_of}
use Rattle.wb_tables.proofs.SessionLists.{found_session}
use Rattle.wb_tables.proofs.sessions.live_session.Goals as goal

pub returns-then-stays : goal.returns-then-stays
returns-then-stays c =
    let s = session_of c.in-Some.session in
    ap Some c.login.ensures ∙ (sym (ap (λ b. if b then Some s else None) (sym c.stays.ensures ∙ c.if-stays.true)) ∙ found_session c.args.tenancy.now.sessions.tenant c.args.tenancy.now.configuration.registry.settings.salt c.args.presented.now c.args.time (live_plain c.args.time (plain_of c.args.tenancy.now)).cases c.args.tenancy.now.sessions.items c.shown.result (Some c.in-Some.session) c.shown.ensures.own c.requires.place.logins (c.shown.ensures.shown ∙ ap (λ (x : TenantItem). session_shown c.args.tenancy.now.sessions.tenant x.salt c.args.presented.now c.args.time c.args.tenancy.now.sessions.items) c.settings.ensures) c.in-Some.is)

pub returns-else-stays : goal.returns-else-stays
returns-else-stays c =
    let s = session_of c.in-Some.session in
    sym (ap (λ b. if b then Some s else None) (sym c.stays.ensures ∙ c.if-stays.false)) ∙ found_session c.args.tenancy.now.sessions.tenant c.args.tenancy.now.configuration.registry.settings.salt c.args.presented.now c.args.time (live_plain c.args.time (plain_of c.args.tenancy.now)).cases c.args.tenancy.now.sessions.items c.shown.result (Some c.in-Some.session) c.shown.ensures.own c.requires.place.logins (c.shown.ensures.shown ∙ ap (λ (x : TenantItem). session_shown c.args.tenancy.now.sessions.tenant x.salt c.args.presented.now c.args.time c.args.tenancy.now.sessions.items) c.settings.ensures) c.in-Some.is

pub returns-in-None : goal.returns-in-None
returns-in-None c = found_session c.args.tenancy.now.sessions.tenant c.args.tenancy.now.configuration.registry.settings.salt c.args.presented.now c.args.time (live_plain c.args.time (plain_of c.args.tenancy.now)).cases c.args.tenancy.now.sessions.items c.shown.result None c.shown.ensures.own c.requires.place.logins (c.shown.ensures.shown ∙ ap (λ (x : TenantItem). session_shown c.args.tenancy.now.sessions.tenant x.salt c.args.presented.now c.args.time c.args.tenancy.now.sessions.items) c.settings.ensures) c.in-None.is
