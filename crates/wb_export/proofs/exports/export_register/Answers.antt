use Rattle.std.proofs.Common.{◌≡◌, ◌∙◌, ap, max, subst}
use Rattle.std.proofs.KnownBytes.{Keeps-refl}
use Rattle.wb_model.specs.Openings.{registry_of}
use Rattle.wb_rows.specs.Held.{held_by}
use Rattle.wb_rows.specs.Openings.{cases_of}
use Rattle.wb_export.specs.Exports.{IsRegisterOf, has_recipient, time_at}
use Rattle.wb_export.specs.Registers.{register_text}
use Rattle.wb_export.proofs.ExportLemmas.{wrote}
use Rattle.wb_export.proofs.exports.export_register.Goals as goal

pub returns-then-not-is_recipient-clause-did : goal.returns-then-not-is_recipient-clause-did
returns-then-not-is_recipient-clause-did g c = (record { kept = held_by c.in-Ok.tables; read = c.in-Ok.ensures.ok; there = cc }, Keeps-refl (g.W.Sink.end c.args.sink.now).held)

pub returns-in-Ok-register-clause-did : goal.returns-in-Ok-register-clause-did
returns-in-Ok-register-clause-did g c =
    let now : c.later-now.result ≡ time_at c.args.moment (held_by c.in-Ok.tables) = c.later-now.ensures.later ∙ ap (max c.args.moment) c.latest_kept.ensures in
    wrote (g.K.Keeper.end c.args.keeper.now) (g.K.Keeper.end c.load_tables.new.keeper) (g.W.Sink.end c.args.sink.now) (g.W.Sink.end c.write_out.new.sink) (has_recipient c.args.tenant c.args.user) (IsRegisterOf c.args.tenant c.args.user c.args.moment)
    c.write_out.result c.in-Ok-register.text.items (record { kept = held_by c.in-Ok.tables; read = c.in-Ok.ensures.ok; there = cc }) (subst (λ time. c.in-Ok-register.text.items ≡ register_text (registry_of c.in-Ok.tables.registry.lists c.args.tenant) time c.args.user (cases_of (held_by c.in-Ok.tables).reports c.args.tenant)) now c.in-Ok-register.ensures) c.write_out.ensures.ends
    (λ done. rw c.deref.ensures.value at c.write_out.ensures.done done) (λ fault. rw c.deref.ensures.value at c.write_out.ensures.fault fault)
