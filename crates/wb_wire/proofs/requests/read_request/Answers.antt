-- The parser's answers, carried from the window to all bytes, and what the parts ask.
use Rattle.std.proofs.Common.{◌≡◌, ◌||◌, rules, inr, refl, sym, ap, ◌∙◌, Err, map, take, length}
use Rattle.httparse.specs.Grammar.{HasNoRequest}
use Rattle.httparse.specs.Spans.{IsRequestOf, IsRequestWithin, RequestOverflows, header_bytes}
use Rattle.std.proofs.Math.Bool.{or-false}
use Rattle.wb_model.specs.declared.command.Asked.{Asked}
use Rattle.wb_model.specs.declared.wire.WireFault.TheVariants.{Memory}
use Rattle.wb_model.specs.Heads.{path_of, closes_by, session}
use Rattle.wb_model.specs.Readings.{Asks, asks, closes_always, reading_by_parts}
use Rattle.wb_wire.proofs.HeadLemmas.{none_yet, none_fits, reads_as, closes_as}
use Rattle.wb_wire.proofs.ReadingLemmas.{one_reading, asked_by}
use Rattle.wb_wire.proofs.requests.read_request.Goals as goal

pub returns-in-Ok-Partial-clause-refused : goal.returns-in-Ok-Partial-clause-refused
returns-in-Ok-Partial-clause-refused c =
    let none : HasNoRequest c.window-front.result.now = search rules in
    λ _. inr (none_yet c.args.bytes.now (rw c.window-front.ensures.front at none), refl)

pub returns-in-Err-clause-refused : goal.returns-in-Err-clause-refused
returns-in-Err-clause-refused c =
    let over : RequestOverflows 64 c.window-front.result.now = search rules in
    λ _. inr (none_fits c.args.bytes.now (rw c.window-front.ensures.front at over), refl)

pub returns-in-Ok-clause-ok : goal.returns-in-Ok-clause-ok
returns-in-Ok-clause-ok c =
    let found : IsRequestOf c.window-front.result.now c.parse_request.new.headers c.in-Ok-Complete.head = search rules in
    let within : IsRequestWithin c.window-front.result.now c.parse_request.new.headers c.in-Ok-Complete.head = search rules in
    let room : length c.parse_request.new.headers ≡ 64 = search rules in
    reads_as c.args.bytes.now _ c.parse_request.new.headers c.in-Ok-Complete.head c.of.result.now c.of-2.result.now c.rest_after.result.now _ c.window-front.ensures.front room within found c.of.ensures c.of-2.ensures c.rest_after.ensures
    (rw (c.in-Ok.ensures.asked, c.session.ensures, c.closes-close.ensures) refl)

pub returns-in-Ok-clause-fits : goal.returns-in-Ok-clause-fits
returns-in-Ok-clause-fits c =
    let found : IsRequestOf c.window-front.result.now c.parse_request.new.headers c.in-Ok-Complete.head = search rules in
    let within : IsRequestWithin c.window-front.result.now c.parse_request.new.headers c.in-Ok-Complete.head = search rules in
    let room : length c.parse_request.new.headers ≡ 64 = search rules in
    let asked : Asked = record { command = c.in-Ok.command; session = c.session.result; close = c.closes-close.result } in
    c.what_is_asked_fits.ensures c.args.bytes.now asked (reads_as c.args.bytes.now _ c.parse_request.new.headers c.in-Ok-Complete.head c.of.result.now c.of-2.result.now c.rest_after.result.now (Asks asked) c.window-front.ensures.front room within found c.of.ensures c.of-2.ensures c.rest_after.ensures
    (rw (c.in-Ok.ensures.asked, c.session.ensures, c.closes-close.ensures) refl))

pub returns-in-Err-read_command-clause-refused : goal.returns-in-Err-read_command-clause-refused
returns-in-Err-read_command-clause-refused c =
    let found : IsRequestOf c.window-front.result.now c.parse_request.new.headers c.in-Ok-Complete.head = search rules in
    let within : IsRequestWithin c.window-front.result.now c.parse_request.new.headers c.in-Ok-Complete.head = search rules in
    let room : length c.parse_request.new.headers ≡ 64 = search rules in
    rw c.refusal.ensures.fault (λ other. reads_as c.args.bytes.now _ c.parse_request.new.headers c.in-Ok-Complete.head c.of.result.now c.of-2.result.now c.rest_after.result.now _ c.window-front.ensures.front room within found c.of.ensures c.of-2.ensures c.rest_after.ensures
    (rw (c.in-Err-read_command.ensures.asked other, c.refusal.ensures.close, c.closes-close.ensures) refl))

pub returns-in-Err-read_command-clause-memory : goal.returns-in-Err-read_command-clause-memory
returns-in-Err-read_command-clause-memory c =
    let found : IsRequestOf c.window-front.result.now c.parse_request.new.headers c.in-Ok-Complete.head = search rules in
    let within : IsRequestWithin c.window-front.result.now c.parse_request.new.headers c.in-Ok-Complete.head = search rules in
    let room : length c.parse_request.new.headers ≡ 64 = search rules in
    let closing : c.refusal.result.fault ≡ Memory → c.refusal.result.close ≡ closes_by c.in-Ok-Complete.head.version (map (header_bytes c.window-front.result.now) (take c.in-Ok-Complete.head.headers c.parse_request.new.headers)) =
    λ memory. c.refusal.ensures.close ∙ (ap (λ fault. c.closes-close.result || closes_always fault) (sym c.refusal.ensures.fault ∙ memory) ∙ (or-false c.closes-close.result ∙ c.closes-close.ensures)) in
    λ memory. closes_as c.args.bytes.now _ c.parse_request.new.headers c.in-Ok-Complete.head _ c.window-front.ensures.front room within found (closing memory)

pub returns-in-Err-read_command-clause-health : goal.returns-in-Err-read_command-clause-health
returns-in-Err-read_command-clause-health c =
    let found : IsRequestOf c.window-front.result.now c.parse_request.new.headers c.in-Ok-Complete.head = search rules in
    let within : IsRequestWithin c.window-front.result.now c.parse_request.new.headers c.in-Ok-Complete.head = search rules in
    let room : length c.parse_request.new.headers ≡ 64 = search rules in
    let fields = map (header_bytes c.window-front.result.now) (take c.in-Ok-Complete.head.headers c.parse_request.new.headers) in
    let text = path_of c.of-2.result.now in
    let here = reading_by_parts c.of.result.now text c.in-Ok-Complete.head.version fields c.rest_after.result.now in
    let mine = reads_as c.args.bytes.now _ c.parse_request.new.headers c.in-Ok-Complete.head c.of.result.now c.of-2.result.now c.rest_after.result.now here c.window-front.ensures.front room within found c.of.ensures c.of-2.ensures c.rest_after.ensures refl in
    λ memory asked reads.
    let same : here ≡ Asks asked = one_reading c.args.bytes.now here (Asks asked) mine reads in
    let is = asked_by (session fields) (closes_by c.in-Ok-Complete.head.version fields) (asks c.of.result.now text fields c.rest_after.result.now) asked same in
    c.in-Err-read_command.ensures.health (ap Err (sym c.refusal.ensures.fault ∙ memory)) asked.command is.0
