use Rattle.std.proofs.Common.{◌≡◌, true, sym, ap, ◌∙◌, arith}
use Rattle.std.specs.Option.{option_copied}
use Rattle.std.specs.List.{slice_get}
use Rattle.wb_tables.specs.Logins.{Logins}
use Rattle.wb_tables.proofs.LateSessions.{first_is_early}
use Rattle.wb_tables.proofs.sessions.Sessions.is_first_late.Goals as goal

pub returns-in-Some : goal.returns-in-Some
returns-in-Some c = λ early.
    let timely : c.is_timely.result ≡ true = grind (arith, early) in
    rw (← ap (λ (l : Logins). l.items) c.self.view_is)
    (first_is_early c.args.time c.self.inside.table.items c.in-Some.first.now (ap (λ ss. slice_get ss 0) (sym c.as_slice.ensures.all) ∙ (sym c.first.ensures.value ∙ ap option_copied c.in-Some.is)) (sym c.is_timely.ensures ∙ timely))
