use Rattle.std.proofs.Common.{refl, sym, subst, ap, arith, ◌≡◌}
use Rattle.std.proofs.KnownBytes.{Keeps-refl}
use Rattle.wb_cli.specs.declared.plans.Plan.TheVariants.{Play, Make, Tally, Register, Forecast}
use Rattle.wb_cli.proofs.CommandLineLemmas.{few_turns, form_in, same_turns}
use Rattle.wb_export.specs.Exports.{IsForecastOf, IsRegisterOf, has_recipient, has_tenant}
use Rattle.whistle.specs.Asked.{ReadsNothing}
use Rattle.whistle.specs.Tallies.{Tallied}
use Rattle.whistle.proofs.PlanLemmas.{exports_forms, same_forecast, same_register}
use Rattle.whistle.proofs.SampleSetupRead.{sample_setup_reads}
use Rattle.whistle.proofs.TallyCompleteness.{comes}
use Rattle.whistle.proofs.running.run_plan.Goals as goal

pub returns-in-Play-clause-complete : goal.returns-in-Play-clause-complete
returns-in-Play-clause-complete g c = λ store asks. c.play_script.ensures.complete

pub tally-requires : goal.tally-requires
tally-requires g c = few_turns c.args.words.now c.in-Tally.turns (rw c.in-Tally.is at c.requires.ok)

pub returns-in-Tally-clause-complete_tally : goal.returns-in-Tally-clause-complete_tally
returns-in-Tally-clause-complete_tally g c = λ turns asks kept held h holding judged wrote.
    let (lists, reads) = sample_setup_reads in
    comes (g.K.Keeper.end c.args.keeper.now) (g.K.Keeper.end c.tally.new.keeper) lists reads h kept holding held judged
    (g.W.Sink.end c.args.sink.now) (g.W.Sink.end c.tally.new.sink) c.in-Tally.turns c.tally.result wrote c.tally.ensures.tallied

pub returns-in-Tally-clause-did : goal.returns-in-Tally-clause-did
returns-in-Tally-clause-did g c =
    let ok = rw c.in-Tally.is at c.requires.ok in
    let only = rw c.in-Tally.is at c.requires.only in
    let reads : ReadsNothing (g.S.Source.end c.args.source.now) (g.S.Source.end c.args.source.now) = record { left_as_it_was = Keeps-refl (g.S.Source.end c.args.source.now).left; no_read = refl } in
    record {
      usage = λ is form. absurd (c.tally.ensures.no_usage is);
      no_form = λ none. absurd (none (Tally c.in-Tally.turns, ok, tt));
      play = λ store asks. let bad : 0 ≡ 2 = ap form_in (only (Play store) asks) in absurd (omega (arith, bad));
      make = λ turns asks. let bad : 1 ≡ 2 = ap form_in (only (Make turns) asks) in absurd (omega (arith, bad));
      tally = λ turns asks. (
        subst (λ n. Tallied (g.K.Keeper.end c.args.keeper.now) (g.K.Keeper.end c.tally.new.keeper) (g.W.Sink.end c.args.sink.now) (g.W.Sink.end c.tally.new.sink) n c.tally.result) (sym (same_turns turns c.in-Tally.turns (only (Tally turns) asks))) c.tally.ensures.tallied,
        reads,
      );
      register = λ t u moment store asks. let bad : 5 ≡ 2 = ap form_in (only (Register t u moment store) asks) in absurd (omega (arith, bad));
      forecast = λ t day store asks. let bad : 6 ≡ 2 = ap form_in (only (Forecast t day store) asks) in absurd (omega (arith, bad));
    }

pub returns-in-Register-clause-did : goal.returns-in-Register-clause-did
returns-in-Register-clause-did g c =
    let ok = rw c.in-Register.is at c.requires.ok in
    let only = rw c.in-Register.is at c.requires.only in
    let reads : ReadsNothing (g.S.Source.end c.args.source.now) (g.S.Source.end c.args.source.now) = record { left_as_it_was = Keeps-refl (g.S.Source.end c.args.source.now).left; no_read = refl } in
    record {
      usage = λ is form. absurd (exports_forms (g.K.Keeper.end c.args.keeper.now) (g.K.Keeper.end c.export_register.new.keeper) (g.W.Sink.end c.args.sink.now) (g.W.Sink.end c.export_register.new.sink) (has_recipient c.in-Register.tenant c.in-Register.user) (IsRegisterOf c.in-Register.tenant c.in-Register.user c.in-Register.moment) c.export_register.result c.export_register.ensures.did is);
      no_form = λ none. absurd (none (Register c.in-Register.tenant c.in-Register.user c.in-Register.moment c.in-Register.store, ok, tt));
      play = λ store asks. let bad : 0 ≡ 5 = ap form_in (only (Play store) asks) in absurd (omega (arith, bad));
      make = λ turns asks. let bad : 1 ≡ 5 = ap form_in (only (Make turns) asks) in absurd (omega (arith, bad));
      tally = λ turns asks. let bad : 2 ≡ 5 = ap form_in (only (Tally turns) asks) in absurd (omega (arith, bad));
      register = λ t u moment store asks. let same = same_register t u moment c.in-Register.tenant c.in-Register.user c.in-Register.moment store c.in-Register.store (only (Register t u moment store) asks) in
          (rw (sym same.0, sym same.1, sym same.2) at c.export_register.ensures.did, c.export_register.ensures.rows, reads);
      forecast = λ t day store asks. let bad : 6 ≡ 5 = ap form_in (only (Forecast t day store) asks) in absurd (omega (arith, bad));
    }

pub returns-in-Forecast-clause-did : goal.returns-in-Forecast-clause-did
returns-in-Forecast-clause-did g c =
    let ok = rw c.in-Forecast.is at c.requires.ok in
    let only = rw c.in-Forecast.is at c.requires.only in
    let reads : ReadsNothing (g.S.Source.end c.args.source.now) (g.S.Source.end c.args.source.now) = record { left_as_it_was = Keeps-refl (g.S.Source.end c.args.source.now).left; no_read = refl } in
    record {
      usage = λ is form. absurd (exports_forms (g.K.Keeper.end c.args.keeper.now) (g.K.Keeper.end c.export_forecast.new.keeper) (g.W.Sink.end c.args.sink.now) (g.W.Sink.end c.export_forecast.new.sink) (has_tenant c.in-Forecast.tenant) (IsForecastOf c.in-Forecast.tenant c.in-Forecast.day) c.export_forecast.result c.export_forecast.ensures.did is);
      no_form = λ none. absurd (none (Forecast c.in-Forecast.tenant c.in-Forecast.day c.in-Forecast.store, ok, tt));
      play = λ store asks. let bad : 0 ≡ 6 = ap form_in (only (Play store) asks) in absurd (omega (arith, bad));
      make = λ turns asks. let bad : 1 ≡ 6 = ap form_in (only (Make turns) asks) in absurd (omega (arith, bad));
      tally = λ turns asks. let bad : 2 ≡ 6 = ap form_in (only (Tally turns) asks) in absurd (omega (arith, bad));
      register = λ t u moment store asks. let bad : 5 ≡ 6 = ap form_in (only (Register t u moment store) asks) in absurd (omega (arith, bad));
      forecast = λ t day store asks. let same = same_forecast t c.in-Forecast.tenant day c.in-Forecast.day store c.in-Forecast.store (only (Forecast t day store) asks) in
          (rw (sym same.0, sym same.1) at c.export_forecast.ensures.did, c.export_forecast.ensures.rows, reads);
    }
