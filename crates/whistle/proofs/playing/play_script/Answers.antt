use Rattle.std.proofs.Common.{[], inl, refl, arith}
use Rattle.std.proofs.KnownBytes.{Consumes-nil, Keeps-refl}
use Rattle.whistle.proofs.Completeness.{completed}
use Rattle.whistle.proofs.PlayLemmas.{nothing_begins}
use Rattle.whistle.proofs.playing.play_script.Goals as goal

pub returns-in-Ok-clause-complete : goal.returns-in-Ok-clause-complete
returns-in-Ok-clause-complete g c = λ setup lists frames rows held whole reads all tells short h holding reads_rows read wrote kept.
    completed c.one_frame.ensures c.one_setup.ensures (g.S.Source.end c.args.source.now) (g.S.Source.end c.play.new.source) (g.W.Sink.end c.args.sink.now) (g.W.Sink.end c.play.new.sink) (g.K.Keeper.end c.args.keeper.now) (g.K.Keeper.end c.play.new.keeper)
    setup lists frames whole reads all tells short h rows holding held reads_rows read wrote kept c.play.result c.play.ensures.no_usage c.play.ensures.ran

pub returns-in-Err-clause-ran : goal.returns-in-Err-clause-ran
returns-in-Err-clause-ran g c = inl (record {
  none = record { cause = inl (([], Consumes-nil (g.S.Source.end c.args.source.now).left, nothing_begins, omega arith), refl); rows_as_they_were = λ h before held. held };
  held_as_it_was = Keeps-refl (g.W.Sink.end c.args.sink.now).held;
})
