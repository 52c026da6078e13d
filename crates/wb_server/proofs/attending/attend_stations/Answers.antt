use Rattle.std.proofs.Common.{◌≡◌, ◌<◌, ◌-◌, slice_index_or, vec_len, arith, sym, ap, ◌∙◌}
use Rattle.std.proofs.lemmas.List.Elements.{All-same}
use Rattle.wb_front.specs.declared.worker.Worked.TheVariants.{End, ListenFault}
use Rattle.wb_server.specs.Workers.{HasEnded}
use Rattle.wb_server.proofs.Orders.{all_back, all_given, by_any, in_place, same_place}
use Rattle.wb_server.proofs.Parts.{take_written}
use Rattle.wb_server.proofs.attending.attend_stations.Goals as goal

pub attend_all-requires-clause-of : goal.attend_all-requires-clause-of
attend_all-requires-clause-of g c κs within =
    rw (sym c.as_mut_slice.ensures.value) at
    (all_given (λ w. w.own) (λ own. g.G.Gate.of c.args.gate.now own) (vec_len c.args.stations.now) c.place.new.workers.items c.args.owns.now.items (sym c.place.new.workers.ok.0 ∙ c.place.ensures.workers) (sym c.args.owns.now.ok.0 ∙ c.requires.some.1) c.place.ensures.given c.requires.of)

pub unplace-requires-clause-ended : goal.unplace-requires-clause-ended
unplace-requires-clause-ended g c =
    All-same (λ w. HasEnded (g.Li.Listener.end w.station.listener) w.worked) _ _ (take_written _ c.attend_all.new.workers _ (c.attend_all.ensures.len ∙ c.as_mut_slice.ensures.len)) c.attend_all.ensures.ended

pub returns-clause-of : goal.returns-clause-of
returns-clause-of g c =
    let full = c.place.ensures.workers in
    let long = c.attend_all.ensures.len ∙ c.as_mut_slice.ensures.len in
    all_back (λ w. w.own) (λ own. g.G.Gate.of c.args.gate.now own) (vec_len c.args.stations.now) _ _ c.attend_all.new.workers c.unplace.new.owns.items (long ∙ full) (sym c.unplace.new.owns.ok.0 ∙ (c.unplace.ensures.owns ∙ full)) full c.unplace.ensures.given (take_written _ c.attend_all.new.workers _ long) c.attend_all.ensures.of

pub returns-clause-parts : goal.returns-clause-parts
returns-clause-parts g c before =
    let full = c.place.ensures.workers in
    let long = c.attend_all.ensures.len ∙ c.as_mut_slice.ensures.len in
    let given = all_given (λ w. w.own) (λ own. g.G.Gate.parts own ≡ 1) (vec_len c.args.stations.now) c.place.new.workers.items c.args.owns.now.items (sym c.place.new.workers.ok.0 ∙ full) (sym c.args.owns.now.ok.0 ∙ c.requires.some.1) c.place.ensures.given before in
    all_back (λ w. w.own) (λ own. g.G.Gate.parts own ≡ 1) (vec_len c.args.stations.now) _ _ c.attend_all.new.workers c.unplace.new.owns.items (long ∙ full) (sym c.unplace.new.owns.ok.0 ∙ (c.unplace.ensures.owns ∙ full)) full c.unplace.ensures.given (take_written _ c.attend_all.new.workers _ long)
    (λ k d inside. c.attend_all.ensures.parts k d (omega (arith, inside, c.attend_all.ensures.len)) ∙ (ap (λ ws. g.G.Gate.parts (slice_index_or ws k d).own) c.as_mut_slice.ensures.value ∙ given k d (omega (arith, inside, long, c.place.new.workers.ok.0))))

pub returns-clause-served : goal.returns-clause-served
returns-clause-served g c = λ i d e inside own own'.
    let n = vec_len c.args.stations.now in
    let within : i < n = omega (arith, inside, c.args.stations.now.ok.0) in
    let full = c.place.ensures.workers in
    let written = take_written _ c.attend_all.new.workers _ (c.attend_all.ensures.len ∙ c.as_mut_slice.ensures.len) in
    let places = in_place (λ w. w.station) n _ i d e (record { own = own; station = d; worked = End }) c.args.stations.now.items c.unplace.new.stations.items c.place.new.workers.items _ c.attend_all.new.workers full within c.place.ensures.order c.unplace.ensures.order written in
    let owns = in_place (λ w. w.own) n _ i own own' (record { own = own; station = d; worked = End }) c.args.owns.now.items c.unplace.new.owns.items c.place.new.workers.items _ c.attend_all.new.workers full within c.place.ensures.given c.unplace.ensures.given written in
    let served = rw c.as_mut_slice.ensures.value at (c.attend_all.ensures.served (n - 1 - i) (record { own = own; station = d; worked = End }) (omega (arith, within, c.as_mut_slice.ensures.len, full))) in
    rw owns.0 at (rw (sym owns.1) at (rw places.0 at (rw (sym places.1) at served)))

pub returns-clause-failed : goal.returns-clause-failed
returns-clause-failed g c ended =
    let n = vec_len c.args.stations.now in
    let full = c.place.ensures.workers in
    let long = c.attend_all.ensures.len ∙ c.as_mut_slice.ensures.len in
    let written = take_written _ c.attend_all.new.workers _ long in
    let fault = c.unplace.ensures.failed ended in
    let k = n - 1 - fault.0 in
    let within : k < n = omega (arith, full, fault.1) in
    by_any _ c.attend_all.new.workers (omega (arith, within, full, long))
    (λ any. (
      k,
      omega (arith, within, c.args.stations.now.ok.0),
      λ d e.
          let places = in_place (λ w. w.station) n _ k d e any c.args.stations.now.items c.unplace.new.stations.items c.place.new.workers.items _ c.attend_all.new.workers full within c.place.ensures.order c.unplace.ensures.order written in
          let there : n - 1 - k ≡ fault.0 = omega (arith, full, fault.1) in
          let worked = same_place (λ w. w.worked) _ c.attend_all.new.workers (n - 1 - k) fault.0 any ListenFault there written (fault.2 any) in
          let rose = (rw c.as_mut_slice.ensures.value at (c.attend_all.ensures.failed (n - 1 - k) any (omega (arith, within, c.as_mut_slice.ensures.len, full)))) worked in
          rw places.0 at (rw (sym places.1) at rose),
    ))
