use Rattle.std.proofs.Common.{arith, refl, ap, ◌∙◌, sym, subst}
use Rattle.wb_model.specs.Rows.{rows_of}
use Rattle.wb_model.specs.Scripts.{past_after}
use Rattle.wb_model.specs.Tenants.{Hosts}
use Rattle.wb_tables.specs.Standing.{Standing, hosts_of}
use Rattle.wb_desk.specs.GoneOn.{HasGoneOn}
use Rattle.wb_cli.proofs.CommandLineLemmas.{few_workers}
use Rattle.wb_server.proofs.Locks.{by_lock}
use Rattle.wb_server.proofs.Opened.{opens_one}
use Rattle.wb_server.proofs.serving.serve.Goals as goal

pub serve_by-requires-clause-some : goal.serve_by-requires-clause-some
serve_by-requires-clause-some g c κs lives =
    let asks = c.in-Ok.ensures.ok in
    let few = few_workers c.args.words.now _ _ _ _ _ asks.4 in
    let many = c.requires.stations _ _ _ _ _ asks.4 in (omega (arith, few.0, many), λ ticket. omega (arith, few.1, many))

pub returns-in-Ok-serve_by-clause-done : goal.returns-in-Ok-serve_by-clause-done
returns-in-Ok-serve_by-clause-done g c is = c.in-Ok-serve_by.ensures.ended.left (c.finished.ensures.done is)

pub returns-in-Ok-serve_by-clause-served : goal.returns-in-Ok-serve_by-clause-served
returns-in-Ok-serve_by-clause-served g c has =
    let started = c.in-Ok-start.ensures.ok in
    let start = started.2.1 in
    let opens = started.2.2 in
    let left = c.in-Ok-serve_by.ensures.ended in
    let desk = c.in-Ok-start.started.1 in
    let closed = c.in-Ok-serve_by.ended.closed in
    let read = c.a_desk_leaves_rows_that_are_read.ensures closed.desk in
    let one = opens_one _ _ _ _ (g.K.Keeper.end closed.keeper) desk started left.honest in
    let served =
    by_lock c.in-Ok.lock _ _ _ _
    (λ by.
    let gone = subst (λ n. HasGoneOn start n (hosts_of closed.desk)) (sym by.1) (left.later start opens.stands) in
    record {
      desk = desk;
      opens = one;
      passes = by.0;
      attended = by.3;
      hosts = hosts_of closed.desk;
      gone_on = gone;
      kept = λ honest. subst (λ (h : Hosts). (g.K.Keeper.end closed.keeper).holds (rows_of h.list)) gone.stands (left.kept honest);
      read_back = read (past_after start gone.places) c.stands.ensures gone.stands;
    })
    (λ by.
    let last = by.1 in
    let script = last.went.script start opens.stands in
    let stands = ap (λ (d : Standing). hosts_of d) last.desk_is ∙ script.stands in
    record {
      desk = desk;
      opens = one;
      entries = last.entries;
      stations = by.0;
      split = last.went.split;
      attended = by.2;
      faults = (g.K.Keeper.end c.start.new.keeper).count;
      opened = opens.later;
      last = last.last;
      counted = last.faults_are;
      script = script;
      promised = c.each_script_is_as_promised.ensures started.2.0 started.0 start opens.opened script.frames script.places script.placed script.possible;
      kept = λ honest. subst (λ (h : Hosts). (g.K.Keeper.end closed.keeper).holds (rows_of h.list)) stands (left.kept honest);
      read_back = read (past_after start script.places) c.stands.ensures stands;
    })
    c.in-Ok-serve_by.ensures.served in (closed.keeper, c.finished.ensures.keeper, (c.in-Ok.lock, c.in-Ok.ensures.ok, served))

pub returns-clause-keeper : goal.returns-clause-keeper
returns-clause-keeper g c gone =
    (refl, (c.start.new.keeper, c.in-Ok-start.started.1, opens_one _ _ _ _ _ c.in-Ok-start.started.1 c.in-Ok-start.ensures.ok (λ honest. honest)))
