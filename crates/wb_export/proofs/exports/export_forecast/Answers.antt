use Rattle.std.proofs.KnownBytes.{Keeps-refl}
use Rattle.wb_rows.specs.Held.{held_by}
use Rattle.wb_export.specs.Exports.{IsForecastOf, has_tenant}
use Rattle.wb_export.proofs.ExportLemmas.{wrote}
use Rattle.wb_export.proofs.exports.export_forecast.Goals as goal

pub returns-then-not-has_tenant-clause-did : goal.returns-then-not-has_tenant-clause-did
returns-then-not-has_tenant-clause-did g c = (record { kept = held_by c.in-Ok.tables; read = c.in-Ok.ensures.ok; there = cc }, Keeps-refl (g.W.Sink.end c.args.sink.now).held)

pub returns-in-Ok-forecast-clause-did : goal.returns-in-Ok-forecast-clause-did
returns-in-Ok-forecast-clause-did g c =
    wrote (g.K.Keeper.end c.args.keeper.now) (g.K.Keeper.end c.load_tables.new.keeper) (g.W.Sink.end c.args.sink.now) (g.W.Sink.end c.write_out.new.sink) (has_tenant c.args.tenant) (IsForecastOf c.args.tenant c.args.day)
    c.write_out.result c.in-Ok-forecast.text.items (record { kept = held_by c.in-Ok.tables; read = c.in-Ok.ensures.ok; there = cc }) c.in-Ok-forecast.ensures c.write_out.ensures.ends
    (λ done. rw c.deref.ensures.value at c.write_out.ensures.done done) (λ fault. rw c.deref.ensures.value at c.write_out.ensures.fault fault)
